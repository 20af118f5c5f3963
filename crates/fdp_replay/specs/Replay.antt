-- A journal that is read page by page.
use Rattle.std.specs.Prelude.{◌≡◌, ℕ, suc, ◌+◌, ◌<◌, IsTrue, List, length, Some, None, Result, Ok, Err, slice_get, take}
use Rattle.fdp_base.specs.declared.config.DriveConfig.{DriveConfig}
use Rattle.fdp_base.specs.declared.config.Geometry.{Geometry}
use Rattle.fdp_base.specs.declared.entry.Totals.{Totals}
use Rattle.fdp_base.specs.Geometry.{area_pages}
use Rattle.fdp_areas.specs.declared.seal.Current.{Current}
use Rattle.fdp_flash.specs.FlashState.{FlashState}
use Rattle.fdp_records.specs.declared.change.Change.{Change}
use Rattle.fdp_image.specs.Applied.{with_changes}
use Rattle.fdp_flash.specs.Failing.{FailsLast}
use Rattle.fdp_image.specs.Fits.{Fitting, all_fit}
use Rattle.fdp_image.specs.Reading.{Reading}
use Rattle.fdp_image.specs.Reads.{changes_in, told_by}
use Rattle.fdp_replay.specs.declared.replayed.ReplayFault.{ReplayFault}
use Rattle.fdp_replay.specs.declared.replayed.ReplayFault.TheVariants as faults
use Rattle.fdp_replay.specs.Records.{IsUnfit}

-- so many pages of a journal tell changes that fit, and what was said before them is said with these
pub record IsReplayed (fits : Fitting) (c : DriveConfig) (journal : List (List ℕ)) (count : ℕ) (old new : Reading) : Type 0 where
  pub changes : List (Change × Totals)
  pub told : changes_in (take count journal) ≡ Some changes
  pub fit : IsTrue (all_fit fits c old changes)
  pub reading : new ≡ with_changes c old changes

-- the page of a journal with this number tells no change
pub record IsBadAt (journal : List (List ℕ)) (number : ℕ) : Type 0 where
  pub bytes : List ℕ
  pub page : slice_get journal number ≡ Some bytes
  pub none : told_by bytes ≡ None

-- the page of a journal with this number tells changes of which one does not fit what was said before it
pub record IsUnfitAt (fits : Fitting) (c : DriveConfig) (journal : List (List ℕ)) (number : ℕ) (r : Reading) : Type 0 where
  pub bytes : List ℕ
  pub page : slice_get journal number ≡ Some bytes
  pub unfit : IsUnfit fits c bytes r

-- What is told of a journal that was read into a state: all its pages; or the first of them that is bad or does not fit, with all
-- pages before it.
abbrev pub TellsJournal : Fitting → DriveConfig → List (List ℕ) → Reading → Reading → Result ℕ ReplayFault → Type 0
TellsJournal fits c journal old new (Ok count) = (count ≡ length journal) × IsReplayed fits c journal count old new
TellsJournal fits c journal old new (Err (faults.Bad number)) = IsBadAt journal number × IsReplayed fits c journal number old new
TellsJournal fits c journal old new (Err (faults.Unfit number)) = IsUnfitAt fits c journal number new × IsReplayed fits c journal number old new
TellsJournal fits c journal old new (Err (faults.Failed moment)) = Unit {0}
TellsJournal fits c journal old new (Err faults.NoMemory) = Unit {0}

-- the reading failed only where its last look did; else the flash counted no fault
abbrev pub EndsReplay : FlashState → FlashState → Result ℕ ReplayFault → Type 0
EndsReplay old new (Ok count) = new.faults ≡ old.faults
EndsReplay old new (Err (faults.Bad number)) = new.faults ≡ old.faults
EndsReplay old new (Err (faults.Unfit number)) = new.faults ≡ old.faults
EndsReplay old new (Err (faults.Failed moment)) = FailsLast old new moment
EndsReplay old new (Err faults.NoMemory) = new.faults ≡ old.faults

-- a page that is named stands in the area, behind the seal
abbrev pub NamesWithin : Geometry → Current → Result ℕ ReplayFault → Type 0
NamesWithin g x (Ok count) = Unit {0}
NamesWithin g x (Err (faults.Bad number)) = suc x.seal.checkpoint + number < area_pages g
NamesWithin g x (Err (faults.Unfit number)) = suc x.seal.checkpoint + number < area_pages g
NamesWithin g x (Err (faults.Failed moment)) = Unit {0}
NamesWithin g x (Err faults.NoMemory) = Unit {0}
