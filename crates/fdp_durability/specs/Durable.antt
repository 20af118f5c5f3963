-- What the system areas of a drive say of its history.
use Rattle.std.specs.Prelude.{◌≡◌, ◌⊎◌, ℕ, ◌/◌, ◌%◌, ◌<◌, ◌≤◌, false, List, slice_get}
use Rattle.fdp_base.specs.declared.config.DriveConfig.{DriveConfig}
use Rattle.fdp_base.specs.declared.entry.Entry.{Entry}
use Rattle.fdp_base.specs.Placement.{geometry_of}
use Rattle.fdp_flash.specs.declared.cell.Cell.{Cell}
use Rattle.fdp_image.specs.Areas.{data_pages}
use Rattle.fdp_image.specs.Reading.{Reading}
use Rattle.fdp_saving.specs.fdp_journal.JournalState.{JournalState}
use Rattle.fdp_readings.specs.Drawn.{drawn}
use Rattle.fdp_readings.specs.Named.{NamesNone}
use Rattle.fdp_rules.specs.History.{Found, point_of}
use Rattle.fdp_rules.specs.Point.{Point}
use Rattle.fdp_saving.specs.Said.{AreasSay}
use Rattle.fdp_saving.specs.Saver.{IsSaverIn}
use Rattle.fdp_units.specs.UnitTable.{UnitTable, unit_at}
use Rattle.fdp_durability.specs.Beginnings.{NamesUsed, SaysBeginning}

-- while nothing is in doubt the area of a saver says just what a point draws, but for the sums
abbrev pub SaysDrawn : DriveConfig → Point → JournalState → Reading → Type 0
SaysDrawn c p s own = s.in_doubt ≡ false → own ≡ record (drawn c p) { totals = own.totals }

-- What the system areas say of a history, of which so many entries are firm: the area of the saver one beginning, and the other, where it is
-- current, another; and while nothing is in doubt just what the history draws, but for the sums.
pub record IsDurable (c : DriveConfig) (f : Found) (es : List Entry) (firm : ℕ) (s : JournalState) (t : UnitTable) (cells : List Cell) : Type 0 where
  pub own : Reading
  pub tried : Reading
  pub saver : IsSaverIn cells s
  pub say : AreasSay c s cells own tried
  pub own_says : SaysBeginning c f es firm cells own
  pub tried_says : SaysBeginning c f es firm cells tried
  pub own_used : NamesUsed c t own
  pub tried_used : NamesUsed c t tried
  pub sure : SaysDrawn c (point_of c f es) s own

-- each page of data that was used is as it was
abbrev pub KeepsUsed : DriveConfig → UnitTable → List Cell → List Cell → Type 0
KeepsUsed c t old new =
    (page : ℕ) → page < data_pages (geometry_of c) → page % c.unit_pages < (unit_at t (page / c.unit_pages)).next → slice_get new page ≡ slice_get old page

-- of each unit at least as many pages were used as before, or nothing is in doubt and the history draws no page of it
abbrev pub UnitsMoveOn : DriveConfig → Found → List Entry → JournalState → UnitTable → UnitTable → Type 0
UnitsMoveOn c f es s old new =
    (unit : ℕ) → ((unit_at old unit).next ≤ (unit_at new unit).next) ⊎ ((s.in_doubt ≡ false) × NamesNone c (drawn c (point_of c f es)) unit)
