-- A journal in the cells of a flash, and what an append to it leaves.
use Rattle.std.specs.Prelude.{◌≡◌, ◌≢◌, ℕ, ◌+◌, ◌≤◌, IsTrue, true, List, [], ◌∷◌, length, slice_get, Some}
use Rattle.fdp_base.specs.declared.config.DriveConfig.{DriveConfig}
use Rattle.fdp_base.specs.declared.entry.Totals.{Totals}
use Rattle.fdp_base.specs.Geometry.{area_pages}
use Rattle.fdp_base.specs.Placement.{geometry_of}
use Rattle.fdp_flash.specs.declared.answer.Wrote.{Wrote}
use Rattle.fdp_flash.specs.declared.answer.Wrote.TheVariants.{Done, Failed}
use Rattle.fdp_flash.specs.declared.cell.Cell.{Cell}
use Rattle.fdp_flash.specs.FlashState.{Call, FlashState}
use Rattle.fdp_flash.specs.Layout.{first_page}
use Rattle.fdp_flash.specs.Planned.{Makes, program_of}
use Rattle.fdp_flash.specs.Runs.{Runs}
use Rattle.fdp_base.specs.Counts.{counted}
use Rattle.fdp_records.specs.declared.change.Change.{Change}
use Rattle.fdp_image.specs.Applied.{with_changes}
use Rattle.fdp_image.specs.Areas.{Sealed, area_unit}
use Rattle.fdp_flash.specs.Failing.{FailsLast}
use Rattle.fdp_image.specs.Fits.{all_fit, fits}
use Rattle.fdp_image.specs.Reading.{Reading}
use Rattle.fdp_image.specs.Reads.{reads_as}
use Rattle.fdp_image.specs.Saving.{CanGoOn, IsCurrent, ReadsWithOrWithout}
use Rattle.fdp_image.specs.Spots.{spot_in}
use Rattle.fdp_journal.specs.JournalState.{JournalState, next_in}

-- a journal is that of these cells: its area is current with so many checkpoint pages and records, and blank behind them
pub record IsJournalIn (cells : List Cell) (j : JournalState) : Type 0 where
  pub area : Sealed
  pub goes_on : CanGoOn j.geometry cells j.area area
  pub stamp : area.stamp ≡ j.stamp
  pub checkpoint : length area.checkpoint ≡ j.checkpoint
  pub records : length area.journal ≡ j.records

-- all pages of its area are used
abbrev pub IsFull : JournalState → Type 0
IsFull j = area_pages j.geometry ≤ next_in j

-- the page of the flash where the next record goes
abbrev pub next_of : JournalState → ℕ
next_of j = first_page j.geometry (area_unit j.geometry j.area) + next_in j

-- the program of the next record
abbrev pub record_call : JournalState → Call
record_call j = program_of (spot_in j.geometry j.area (next_in j))

-- Cells that an append of changes by one page may leave: each page but the next of the journal is as it was, so all data pages and the whole
-- other area are; the journal's area is still the current one; and whatever the cells read as, where the changes fit that, they read so, or so with all of them.
pub record MayBeAppended (old : List Cell) (j : JournalState) (xs : List (Change × Totals)) (new : List Cell) : Type 0 where
  pub others : (page : ℕ) → page ≢ next_of j → slice_get new page ≡ slice_get old page
  pub current : IsCurrent j.geometry new j.area j.stamp
  pub reads : (c : DriveConfig) (r : Reading) → geometry_of c ≡ j.geometry → reads_as c old ≡ Some r → IsTrue (all_fit fits c r xs) → ReadsWithOrWithout c old r xs new

-- changes are appended: whatever the cells read as, where the changes fit that, they read so with them
abbrev pub IsAppended : List Cell → JournalState → List (Change × Totals) → List Cell → Type 0
IsAppended old j xs new =
    (c : DriveConfig) (r : Reading) → geometry_of c ≡ j.geometry → reads_as c old ≡ Some r → IsTrue (all_fit fits c r xs) → reads_as c new ≡ Some (with_changes c r xs)

-- the journal with a record more
abbrev pub with_record : JournalState → JournalState
with_record j = record j { records = j.records + 1 }

-- the journal in doubt
abbrev pub doubted : JournalState → JournalState
doubted j = record j { in_doubt = true }

-- The program of a record was done, the one call that was made: the journal has a record more, and the cells read with the changes. It is no
-- page of data.
pub record Appends (old new : JournalState) (before after : FlashState) (xs : List (Change × Totals)) : Type 0 where
  pub journal : new ≡ with_record old
  pub one_call : after.moment ≡ counted before.moment
  pub call : Makes before after (record_call old ∷ [])
  pub faults : after.faults ≡ before.faults
  pub programs : after.programs ≡ before.programs
  pub goes_on : IsTrue after.told → IsJournalIn after.cells new
  pub saved : IsTrue after.told → IsAppended before.cells old xs after.cells

-- It failed, at this moment, and the flash counted that: the journal is in doubt.
pub record FallsInDoubt (old new : JournalState) (before after : FlashState) (moment : ℕ) : Type 0 where
  pub journal : new ≡ doubted old
  pub one_call : after.moment ≡ counted before.moment
  pub call : Makes before after (record (record_call old) { failed = true } ∷ [])
  pub fails : FailsLast before after moment
  pub programs : after.programs ≡ before.programs

-- What the program of a record does, by its answer; whatever a stop in it or a failure leaves is one of the cells that an append may leave.
pub record Writes (j : JournalState) (before after : FlashState) (xs : List (Change × Totals)) (result : Wrote) : Type 0 where
  pub images : Runs before after (λ moment image. MayBeAppended before.cells j xs image)
  pub left : IsTrue before.told → MayBeAppended before.cells j xs after.cells
  pub done : result ≡ Done → Appends j (with_record j) before after xs
  pub failed : result ≡ Failed → FallsInDoubt j (doubted j) before after after.moment
