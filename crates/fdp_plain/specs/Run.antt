-- What contracts see of a plain drive.
use Rattle.std.specs.Prelude.{ℕ, ◌+◌, true, List, [], ◌∷◌, ◌++◌, length}
use Rattle.fdp_base.specs.declared.config.DriveConfig.{DriveConfig}
use Rattle.fdp_base.specs.declared.entry.Entry.{Entry}
use Rattle.fdp_rules.specs.History.{Found, point_of}
use Rattle.fdp_rules.specs.Legal.{IsLegal}
use Rattle.fdp_rules.specs.PlainState.{PlainState}
use Rattle.fdp_rules.specs.Point.{Point}
use Rattle.fdp_plain.specs.Found.{found_in}

-- the configuration that a drive was made with; the entries of the earlier runs on its image, run by run, as far as the next one
-- goes on from them; and the entries that the run took, the oldest first
pub record Run : Type 0 where
  pub config : DriveConfig
  pub earlier : List (List Entry)
  pub entries : List Entry

-- what the run began with: a fresh drive, or what the earlier runs left
abbrev pub found_of : Run → Found
found_of r = found_in r.config r.earlier

-- the position of the entry that comes next
abbrev pub next_position : Run → ℕ
next_position r = (found_of r).totals.position + length r.entries + 1

-- what stands after the entries
abbrev pub point_in : Run → Point
point_in r = point_of r.config (found_of r) r.entries

-- the state of the drive then
abbrev pub state_in : Run → PlainState
state_in r = (point_in r).state

-- runs that followed others on one image, each with a legal history of what those before it left
abbrev pub AreLegalBehind : DriveConfig → List (List Entry) → List (List Entry) → Type 0
AreLegalBehind c before [] = Unit {0}
AreLegalBehind c before (es ∷ runs) = IsLegal true c (found_in c before) es × AreLegalBehind c (before ++ es ∷ []) runs
