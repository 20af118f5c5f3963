-- What a drive began with, and the record of what it does.
use Rattle.std.specs.Prelude.{◌≡◌, ℕ, ◌+◌, ◌^◌, ◌<◌, List, [], ◌∷◌, ◌++◌, length, map}
use Rattle.atomic_table.specs.Seated.{TableId}
use Rattle.fdp_base.specs.declared.config.DriveConfig.{DriveConfig}
use Rattle.fdp_base.specs.declared.entry.Entry.{Entry}
use Rattle.fdp_base.specs.declared.entry.Entry.TheVariants as entries
use Rattle.fdp_base.specs.declared.recorded.Mark.{Mark}
use Rattle.fdp_rules.specs.History.{Found, state_of}
use Rattle.fdp_rules.specs.PlainState.{PlainState}
use Rattle.fdp_rules.specs.Seats.{marks_after}

pub record Run : Type 0 where
  pub config : DriveConfig
  -- what the history began with
  pub found : Found
  -- the gauge that shows the record
  pub gauge : TableId

-- what stands after a history
abbrev pub state_by : Run → List Entry → PlainState
state_by run es = state_of run.config run.found es

-- the position of the last of so many entries
abbrev pub position_by : Run → ℕ → ℕ
position_by run count = run.found.totals.position + count

-- where one of these entries tells of an opening, no entry stands before it
unfoldable pub OpensFirst : List Entry → List Entry → Type 0
OpensFirst before [] = Unit {0}
OpensFirst before (e ∷ es) = (e ≡ entries.Reopened → before ≡ []) × OpensFirst (before ++ e ∷ []) es

-- items that may follow these entries in a record: their marks are those of their entries there
pub record AreNext {I : Type 0} (run : Run) (entry : I → Entry) (mark : I → Mark) (before : List Entry) (items : List I) : Type 0 where
  pub marks : map mark items ≡ marks_after run.found before (map entry items)
  pub opening : OpensFirst before (map entry items)

-- the items of a record are the entries of a history, with their marks
pub record IsHistory {I : Type 0} (run : Run) (entry : I → Entry) (mark : I → Mark) (items : List I) : Type 0 where
  pub next : AreNext run entry mark [] items
  pub few : length items < 2 ^ 40
