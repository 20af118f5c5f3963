-- What is safe stays so: over a flash that is called, as units get pages, and as entries come that leave nothing.
use Rattle.std.proofs.Common.{◌≡◌, ℕ, ◌+◌, ◌≤◌, inr, true, IsTrue, List, [], ◌∷◌, ◌++◌, length, Some, refl, sym, subst, arith, length-append}
use Rattle.std.specs.Prelude.{All, IsFalse, slice_get}
use Rattle.std.proofs.lemmas.List.Elements.{All-cons, All-nil}
use Rattle.fdp_base.specs.declared.config.DriveConfig.{DriveConfig}
use Rattle.fdp_base.specs.declared.config.Geometry.{Geometry}
use Rattle.fdp_base.specs.declared.entry.Entry.{Entry}
use Rattle.fdp_base.specs.declared.entry.Spot.{Spot}
use Rattle.fdp_base.specs.Placement.{geometry_of}
use Rattle.fdp_calls.specs.Media.{IsProgrammedTo, IsReadFrom}
use Rattle.fdp_durability.specs.fdp_collector.Copying.{IsDataPage}
use Rattle.fdp_durability.specs.Durable.{IsDurable, UnitsMoveOn}
use Rattle.fdp_durability.specs.Firm.{completes}
use Rattle.fdp_durability.proofs.Beginnings.{stands-grown}
use Rattle.fdp_durability.proofs.Durable.{durable-moves, durable-program, durable-stands, durable-still}
use Rattle.fdp_durability.proofs.Owed.{firm-on}
use Rattle.fdp_flash.specs.declared.cell.Cell.{Cell}
use Rattle.fdp_flash.specs.declared.cell.Cell.TheVariants.{Blank, Whole}
use Rattle.fdp_flash.specs.Cells.{ProgramMayLeave}
use Rattle.fdp_flash.specs.FlashState.{FlashState}
use Rattle.fdp_flash.specs.Layout.{page_number}
use Rattle.fdp_flash.specs.Runs.{Runs}
use Rattle.fdp_flash.proofs.Runs.{runs_weakened}
use Rattle.fdp_history.specs.Orderly.{IsOrderly}
use Rattle.fdp_history.specs.Standing.{IsStanding}
use Rattle.fdp_image.specs.Kept.{StandsForBeginning}
use Rattle.fdp_durability.specs.fdp_journal.JournalState.{JournalState}
use Rattle.fdp_pointers.specs.Contents.{leaves_pages}
use Rattle.fdp_durability.specs.fdp_readings.Lasting.{leaves_nothing}
use Rattle.fdp_rules.specs.History.{Found, point_of}
use Rattle.fdp_rules.specs.Step.{Follows}
use Rattle.fdp_survival.specs.Safe.{IsSafeAt}
use Rattle.fdp_units.specs.UnitTable.{UnitTable}

-- ---- the flash

-- the cells over which all is durable may be others
pub safe-over : (c : DriveConfig) (f : Found) (es : List Entry) (t : UnitTable) (s : JournalState) (firm : ℕ) (old now : FlashState) → IsSafeAt c f es t s firm old → (IsTrue now.told → IsDurable c f es firm s t now.cells) → IsSafeAt c f es t s firm now
safe-over c f es t s firm old now was durable = record { sealed = was.sealed; cut = was.cut; durable = durable; firm_is = was.firm_is; within = was.within }

module _ (c : DriveConfig) (f : Found) (es : List Entry) (t : UnitTable) (s : JournalState) (firm : ℕ) (old now : FlashState) (was : IsSafeAt c f es t s firm old) where
  -- calls that read
  pub safe-read : IsReadFrom old now → IsSafeAt c f es t s firm now
  safe-read read =
      safe-over c f es t s firm old now was
      (λ told. let before : IsTrue old.told = subst IsTrue read.kept.told told in subst (IsDurable c f es firm s t) (sym (read.cells before)) (was.durable before))

  pub survives-read : IsReadFrom old now → Runs old now (λ m image. StandsForBeginning c f es firm image)
  survives-read read =
      runs_weakened old now (λ m image. image ≡ old.cells) (λ m image. StandsForBeginning c f es firm image) read.stops
      (λ told m image above most same. subst (StandsForBeginning c f es firm) (sym same) (durable-stands c f es firm s t old.cells (was.durable told)))

  -- the program of a blank page of data
  module _ (at : Spot) (spare bytes : List ℕ) (geometry : old.geometry ≡ geometry_of c) (is : IsDataPage (geometry_of c) at) (blank : IsTrue old.told → slice_get old.cells (page_number old.geometry at) ≡ Some Blank) where
    pub programmed : (image : List Cell) → IsTrue old.told → ProgramMayLeave old.geometry old.cells at spare bytes image → IsDurable c f es firm s t image
    programmed image told left =
        durable-program c f es firm s t old.cells image at spare bytes (sym was.cut) was.sealed is
        (subst (λ (g : Geometry). slice_get old.cells (page_number g at) ≡ Some Blank) geometry (blank told))
        (subst (λ (g : Geometry). ProgramMayLeave g old.cells at spare bytes image) geometry left)
        (was.durable told)

    pub safe-programmed : IsProgrammedTo old now (page_number old.geometry at) (Whole spare bytes) → IsSafeAt c f es t s firm now
    safe-programmed done =
        safe-over c f es t s firm old now was
        (λ told. let before : IsTrue old.told = subst IsTrue done.kept.told told in programmed now.cells before (record { cell = Whole spare bytes; page = inr (inr refl); cells = done.cells before }))

    pub safe-failed : now.told ≡ old.told → (IsTrue old.told → ProgramMayLeave old.geometry old.cells at spare bytes now.cells) → IsSafeAt c f es t s firm now
    safe-failed same left = safe-over c f es t s firm old now was (λ told. let before : IsTrue old.told = subst IsTrue same told in programmed now.cells before (left before))

    pub survives-program : Runs old now (λ m image. ProgramMayLeave old.geometry old.cells at spare bytes image) → Runs old now (λ m image. StandsForBeginning c f es firm image)
    survives-program run =
        runs_weakened old now (λ m image. ProgramMayLeave old.geometry old.cells at spare bytes image) (λ m image. StandsForBeginning c f es firm image) run
        (λ told m image above most left. durable-stands c f es firm s t image (programmed image told left))

-- ---- the units and the history

-- the units move on
pub safe-moved : (c : DriveConfig) (f : Found) (es : List Entry) (old new : UnitTable) (s : JournalState) (firm : ℕ) (flash : FlashState) → UnitsMoveOn c f es s old new → IsSafeAt c f es old s firm flash → IsSafeAt c f es new s firm flash
safe-moved c f es old new s firm flash on was = record {
  sealed = was.sealed;
  cut = was.cut;
  durable = λ told. durable-moves c f es firm s old new flash.cells (sym was.cut) on (was.durable told);
  firm_is = was.firm_is;
  within = was.within;
}

-- what is firm is within a history that goes on
pub within-on : (es more : List Entry) (firm : ℕ) → firm ≤ length es → firm ≤ length (es ++ more)
within-on es more firm low = let size : length (es ++ more) ≡ length es + length more = length-append es more in omega (arith, low, size)

pub one-none : (e : Entry) → IsFalse (completes e) → All (λ x. IsFalse (completes x)) (e ∷ [])
one-none e none = let P : Entry → Type 0 = λ x. IsFalse (completes x) in All-cons P e [] none (All-nil P)

-- an entry that leaves nothing, and completes no change
pub safe-still : (c : DriveConfig) (f : Found) (es : List Entry) (e : Entry) (t : UnitTable) (s : JournalState) (firm : ℕ) (flash : FlashState) → IsTrue (leaves_nothing e) → IsFalse (completes e) → IsOrderly c (point_of c f es) → IsStanding c (point_of c f es)
    → (IsFalse (leaves_pages e) → Follows true c (point_of c f es) e) → IsSafeAt c f es t s firm flash → IsSafeAt c f (es ++ e ∷ []) t s firm flash
safe-still c f es e t s firm flash nothing none orderly standing step was = record {
  sealed = was.sealed;
  cut = was.cut;
  durable = λ told. durable-still true c f es e firm s t flash.cells nothing orderly standing step (was.durable told);
  firm_is = firm-on es (e ∷ []) firm was.firm_is (one-none e none);
  within = within-on es (e ∷ []) firm was.within;
}

-- images stand for beginnings of a history that goes on
pub survives-on : (c : DriveConfig) (f : Found) (es more : List Entry) (firm : ℕ) (old now : FlashState) → Runs old now (λ m image. StandsForBeginning c f es firm image) → Runs old now (λ m image. StandsForBeginning c f (es ++ more) firm image)
survives-on c f es more firm old now run =
    runs_weakened old now (λ m image. StandsForBeginning c f es firm image) (λ m image. StandsForBeginning c f (es ++ more) firm image) run (λ told m image above most stands. stands-grown c f es more firm image stands)
