-- The pages that are left for the changes of a drive before its next checkpoint.
use Rattle.std.specs.Prelude.{ℕ, ◌-◌, ◌+◌, ◌≤◌, Bool, not, List, count_by}
use Rattle.fdp_base.specs.declared.config.DriveConfig.{DriveConfig}
use Rattle.fdp_base.specs.declared.entry.Entry.{Entry}
use Rattle.fdp_base.specs.Geometry.{area_pages}
use Rattle.fdp_base.specs.Placement.{geometry_of}
use Rattle.fdp_keeper.specs.fdp_journal.JournalState.{JournalState, next_in}
use Rattle.fdp_keeper.specs.fdp_readings.Lasting.{leaves_nothing}

-- how many changes the system area in use has pages for, before a checkpoint is due
abbrev pub savings_left : DriveConfig → JournalState → ℕ
savings_left c s = area_pages (geometry_of c) - next_in s

-- an entry of what an image keeps: a command whose change was made, a move of blocks, a handle that was shut, an opening
abbrev pub is_lasting : Entry → Bool
is_lasting e = not (leaves_nothing e)

-- an opening leaves pages for sixteen changes: of the first sixteen lasting entries of a run none waits for a checkpoint because the area is full
abbrev pub HasSixteen : DriveConfig → JournalState → List Entry → Type 0
HasSixteen c s es = 16 ≤ savings_left c s + count_by is_lasting es
