-- The relocation of one group.
use Rattle.std.specs.Prelude.{◌≡◌, ℕ, ◌+◌, ◌≤◌, ◌<◌, Bool, true, false, List, [], ◌∷◌, ◌++◌, Option, None, IsFalse, length, slice_index_or}
use Rattle.fdp_base.specs.declared.config.Class.{Class}
use Rattle.fdp_base.specs.declared.config.Class.TheVariants.{Initial, Persistent}
use Rattle.fdp_base.specs.declared.entry.Copied.{Copied}
use Rattle.fdp_passes.specs.declared.lane.Lane.{Lane}
use Rattle.fdp_passes.specs.declared.lane.Lane.TheVariants.{Shared, Own}

-- a pass: the unit that it empties, the page of it that is looked at next, what was copied and not moved, and whether a free
-- unit was taken as target
pub record Pass : Type 0 where
  pub victim : ℕ
  pub next : ℕ
  pub copies : List Copied
  pub took_unit : Bool

-- the targets of a group, and the pass under way, if any: the shared target first, then that of each handle
pub record GroupPasses : Type 0 where
  pub unit_pages : ℕ
  pub targets : List (Option ℕ)
  pub pass : Option Pass

-- data of a Persistent handle goes to a target of its own, that of all others to a shared one
abbrev pub lane_of : Class → ℕ → Lane
lane_of Initial ruh = Shared
lane_of Persistent ruh = Own ruh

-- where the target of a lane stands
abbrev pub slot_of : Lane → ℕ
slot_of Shared = 0
slot_of (Own ruh) = ruh + 1

-- a lane that is there: there are at most sixteen handles
abbrev pub IsLane : Lane → Type 0
IsLane lane = slot_of lane < 17

-- the unit that gets the copies of a lane
abbrev pub target_at : GroupPasses → Lane → Option ℕ
target_at g lane = slice_index_or g.targets (slot_of lane) None

-- a pass that begins
abbrev pub begun : ℕ → Pass
begun victim = record { victim = victim; next = 0; copies = []; took_unit = false }

-- a pass with one copy more goes on behind its old page
abbrev pub with_copy : Copied → Pass → Pass
with_copy copy pass = record pass { next = copy.from.page + 1; copies = pass.copies ++ copy ∷ [] }

-- a pass whose copies were moved
abbrev pub without_copies : Pass → Pass
without_copies pass = record pass { copies = [] }

-- a pass that took a free unit as target
abbrev pub with_unit_taken : Pass → Pass
with_unit_taken pass = record pass { took_unit = true }

-- a unit has at most 256 pages; seventeen targets; a pass goes on within a unit or behind its last page, and has at most a copy
-- of each page before; without a pass no copy; there is room for a copy of each page of a unit
pub record HasRoom (unit_pages : ℕ) (targets : List (Option ℕ)) (under_way : Bool) (next : ℕ) (copies : List Copied) (capacity : ℕ) : Type 0 where
  pub within : next ≤ unit_pages
  pub pages : unit_pages ≤ 256
  pub lanes : length targets ≡ 17
  pub room : unit_pages ≤ capacity
  pub few : length copies ≤ next
  pub none : IsFalse under_way → copies ≡ []
