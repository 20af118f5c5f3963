-- What contracts see of the log.
use Rattle.std.specs.Prelude.{◌≡◌, ℕ, ◌+◌, ◌*◌, ◌^◌, ◌≤◌, All, Bool, List, [], ◌++◌, Vec, if◌then◌else◌, length, vec_capacity, vec_len}
use Rattle.std.specs.declared.alloc.Global.{Global}
use Rattle.fdp_base.specs.declared.entry.BlockName.{BlockName}
use Rattle.fdp_base.specs.declared.entry.Entry.{Entry}
use Rattle.fdp_base.specs.declared.limits.TheConstants.{MOST_STEPS}
use Rattle.fdp_book.specs.declared.log.TheConstants.{MOST_STEP_ENTRIES}

pub record Logged : Type 0 where
  pub entries : List Entry
  -- the position before the first of them
  pub before : ℕ
  -- the steps for which there is room
  pub spare : ℕ
  -- the steps that were made
  pub spent : ℕ
  -- how many entries the step under way may still add, and whether one of them may be that of a move
  pub room : ℕ
  pub may_move : Bool
  -- the most blocks of a move
  pub names : ℕ

-- these entries were added; they are not too many
pub record IsLogged (old new : Logged) (es : List Entry) : Type 0 where
  pub entries_are : new.entries ≡ old.entries ++ es
  pub before_is : new.before ≡ old.before
  pub spare_is : new.spare ≡ old.spare
  pub spent_is : new.spent ≡ old.spent
  pub room_is : new.room + length es ≡ old.room
  pub move_is : new.may_move ≡ old.may_move
  pub names_are : new.names ≡ old.names
  pub few : length new.entries ≤ 2 ^ 39

-- there is room for the entries of the steps to come, and of the step under way
pub record HasRoom (entries : Vec Entry Global) (before spare spent room : ℕ) : Type 0 where
  pub fits : vec_len entries + room + MOST_STEP_ENTRIES * spare ≤ vec_capacity entries
  pub steps : spent + spare ≤ MOST_STEPS
  pub few : vec_len entries + room ≤ MOST_STEP_ENTRIES * spent + 1
  pub begins : before ≤ 2 ^ 62

-- empty lists, each with room for so many names
abbrev pub AreLists : List (Vec BlockName Global) → ℕ → Type 0
AreLists lists names = All (λ (list : Vec BlockName Global). (list.items ≡ []) × (names ≤ vec_capacity list)) lists

-- there is one for each step to come, and for the step under way as long as it may move
pub record HasLists (lists : List (Vec BlockName Global)) (spare : ℕ) (may_move : Bool) (names : ℕ) : Type 0 where
  pub number : spare + (if may_move then 1 else 0) ≤ length lists
  pub each : AreLists lists names
