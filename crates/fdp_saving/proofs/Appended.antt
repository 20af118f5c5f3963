-- The program of a record over a flash: what it leaves of the saver, and of what the areas say.
use Rattle.std.proofs.Common.{◌≡◌, ℕ, ◌+◌, ◌/◌, ◌≤◌, IsTrue, List, [], ◌∷◌, Some, refl, sym, ap, ◌∙◌, subst, arith, inl, inr}
use Rattle.fdp_base.specs.declared.config.DriveConfig.{DriveConfig}
use Rattle.fdp_base.specs.declared.config.Geometry.{Geometry}
use Rattle.fdp_base.specs.declared.entry.Totals.{Totals}
use Rattle.fdp_base.specs.Geometry.{data_units}
use Rattle.fdp_base.specs.Placement.{geometry_of}
use Rattle.fdp_flash.specs.declared.answer.Wrote.{Wrote}
use Rattle.fdp_flash.specs.declared.answer.Wrote.TheVariants.{Done, Failed}
use Rattle.fdp_flash.specs.declared.cell.Cell.{Cell}
use Rattle.fdp_flash.specs.FlashState.{FlashState, IsWellFormed}
use Rattle.fdp_flash.specs.Runs.{Holds, Runs}
use Rattle.fdp_flash.proofs.Runs.{runs_weakened}
use Rattle.fdp_records.specs.declared.change.Change.{Change}
use Rattle.fdp_records.specs.declared.spare.Stamp.{Stamp}
use Rattle.fdp_image.specs.Applied.{with_changes}
use Rattle.fdp_image.specs.Areas.{Sealed, area_unit, current_area}
use Rattle.fdp_image.specs.Fits.{all_fit, fits}
use Rattle.fdp_image.specs.Reading.{Reading}
use Rattle.fdp_image.specs.Reads.{reads_as}
use Rattle.fdp_image.proofs.NextRecord.{current_sealed}
use Rattle.fdp_journal.specs.Journal.{Appends, FallsInDoubt, IsJournalIn, MayBeAppended, doubted, record_call}
use Rattle.fdp_journal.specs.JournalState.{JournalState, next_in}
use Rattle.fdp_saving.specs.Calls.{AreCallsOfAppend, MakesSystemCalls}
use Rattle.fdp_saving.specs.Said.{AreasSay, AreasSayOneOf, ReadsAsOneOf}
use Rattle.fdp_saving.specs.Saver.{IsSaverIn}
use Rattle.fdp_saving.specs.Saving.{SayAfterAppend, within_append}
use Rattle.fdp_saving.proofs.Alone.{current_says}
use Rattle.fdp_saving.proofs.Among.{first, second}
use Rattle.fdp_saving.proofs.Made.{IsPlan, all_made, no_plan, plan_more, stop_made}

-- what came of the program, by its answer
abbrev pub Outcome : JournalState → JournalState → FlashState → FlashState → List (Change × Totals) → Wrote → Type 0
Outcome s now old new xs Done = Appends s now old new xs
Outcome s now old new xs Failed = (moment : ℕ) × FallsInDoubt s now old new moment

-- a record was programmed behind the journal of a saver that is not in doubt, or its program failed
pub record IsAppending (s now : JournalState) (xs : List (Change × Totals)) (old new : FlashState) (result : Wrote) : Type 0 where
  pub geometry : old.geometry ≡ s.geometry
  pub saver : IsTrue old.told → IsSaverIn old.cells s
  pub images : Runs old new (λ moment image. MayBeAppended old.cells s xs image)
  pub left : IsTrue old.told → MayBeAppended old.cells s xs new.cells
  pub outcome : Outcome s now old new xs result

pub appending : (s inside now : JournalState) (xs : List (Change × Totals)) (old new : FlashState) (result : Wrote) → inside ≡ s → old.geometry ≡ s.geometry → (IsTrue old.told → IsSaverIn old.cells s)
    → Runs old new (λ moment image. MayBeAppended old.cells inside xs image) → (IsTrue old.told → MayBeAppended old.cells inside xs new.cells) → Outcome inside now old new xs result → IsAppending s now xs old new result
appending s inside now xs old new result same geometry saver images left outcome =
    let here : IsAppending inside now xs old new result = record {
      geometry = geometry ∙ sym (ap (λ (k : JournalState). k.geometry) same);
      saver = λ told. subst (IsSaverIn old.cells) (sym same) (saver told);
      images = images;
      left = left;
      outcome = outcome;
    } in
    subst (λ (k : JournalState). IsAppending k now xs old new result) same here

-- ---- what is read

may_read : (c : DriveConfig) (s : JournalState) (own : Reading) (xs : List (Change × Totals)) (old image : List Cell) → geometry_of c ≡ s.geometry → reads_as c old ≡ Some own → IsTrue (all_fit fits c own xs) → MayBeAppended old s xs image
    → ReadsAsOneOf c old (within_append c own xs) image
may_read c s own xs old image same read fit may =
    let r = may.reads c own same read fit in
    elim r.reads [
      | inl is ↦ record { reading = own; reads = is; among = first own (with_changes c own xs ∷ []); data_pages_same = r.data_pages_same }
      | inr is ↦ record { reading = with_changes c own xs; reads = is; among = second own (with_changes c own xs) []; data_pages_same = r.data_pages_same }
    ]

pub append_stops : (c : DriveConfig) (s now : JournalState) (own : Reading) (xs : List (Change × Totals)) (old new : FlashState) (result : Wrote) → IsAppending s now xs old new result → geometry_of c ≡ s.geometry
    → (IsTrue old.told → reads_as c old.cells ≡ Some own) → (IsTrue old.told → IsTrue (all_fit fits c own xs)) → Holds (ReadsAsOneOf c old.cells (within_append c own xs)) old new
append_stops c s now own xs old new result h same read fit = record {
  run =
      runs_weakened old new (λ m image. MayBeAppended old.cells s xs image) (λ m image. ReadsAsOneOf c old.cells (within_append c own xs) image) h.images
      (λ told m image above most may. may_read c s own xs old.cells image same (read told) (fit told) may);
  cells = λ told. may_read c s own xs old.cells new.cells same (read told) (fit told) (h.left told);
}

-- ---- the saver

-- the journal of the current area makes a saver of it
pub journal_stands : (s : JournalState) (cells : List Cell) → IsJournalIn cells s → IsSaverIn cells s
journal_stands s cells j =
    let sealed = current_sealed s.geometry cells s.area j.area j.goes_on.current in
    record {
      sealed = λ some. (j.area, sealed);
      epoch = λ z e.
          let both : Some j.area ≡ Some z = sym sealed ∙ e in
          let same : j.area ≡ z = cc in
          let at : z.stamp.epoch ≡ s.stamp.epoch = ap (λ (y : Sealed). y.stamp.epoch) (sym same) ∙ ap (λ (t : Stamp). t.epoch) j.stamp in
          omega (arith, at);
      sure = λ sure. j;
    }

doubt_stands : (s : JournalState) (xs : List (Change × Totals)) (old new : List Cell) → MayBeAppended old s xs new → IsSaverIn new (doubted s)
doubt_stands s xs old new may =
    let z = may.current.area in
    let sealed = current_sealed s.geometry new s.area z may.current.current in
    record {
      sealed = λ some. (z, sealed);
      epoch = λ y e.
          let both : Some z ≡ Some y = sym sealed ∙ e in
          let same : z ≡ y = cc in
          let at : y.stamp.epoch ≡ s.stamp.epoch = ap (λ (w : Sealed). w.stamp.epoch) (sym same) ∙ ap (λ (t : Stamp). t.epoch) may.current.stamp in
          omega (arith, at);
      sure = λ wrong. absurd cc;
    }

pub append_stands : (s now : JournalState) (xs : List (Change × Totals)) (old new : FlashState) (result : Wrote) → IsAppending s now xs old new result → IsTrue old.told → IsSaverIn new.cells now
append_stands s now xs old new Done h told = journal_stands now new.cells (h.outcome.goes_on (subst IsTrue (sym h.images.told) told))
append_stands s now xs old new Failed h told = subst (IsSaverIn new.cells) (sym h.outcome.1.journal) (doubt_stands s xs old.cells new.cells (h.left told))

-- ---- what the areas say

at_geometry : (c : DriveConfig) (s : JournalState) (cells : List Cell) (area : ℕ) (z : Sealed) → geometry_of c ≡ s.geometry → current_area s.geometry cells ≡ Some (area, z) → current_area (geometry_of c) cells ≡ Some (area, z)
at_geometry c s cells area z same current = subst (λ (g : Geometry). current_area g cells ≡ Some (area, z)) (sym same) current

append_done_says : (c : DriveConfig) (s now : JournalState) (own : Reading) (xs : List (Change × Totals)) (old new : FlashState) → Appends s now old new xs → old.told ≡ new.told → geometry_of c ≡ s.geometry → IsTrue old.told
    → reads_as c old.cells ≡ Some own → IsTrue (all_fit fits c own xs) → AreasSay c now new.cells (with_changes c own xs) (with_changes c own xs)
append_done_says c s now own xs old new done same_told same told read fit =
    let after : IsTrue new.told = subst IsTrue same_told told in
    let j = done.goes_on after in
    let here : geometry_of c ≡ now.geometry = same ∙ sym (ap (λ (k : JournalState). k.geometry) done.journal) in
    current_says c now new.cells j.area (with_changes c own xs) (with_changes c own xs) (at_geometry c now new.cells now.area j.area here j.goes_on.current) (done.saved after c own same read fit)

append_failed_says : (c : DriveConfig) (s : JournalState) (own : Reading) (xs : List (Change × Totals)) (old new : List Cell) → MayBeAppended old s xs new → geometry_of c ≡ s.geometry
    → reads_as c old ≡ Some own → IsTrue (all_fit fits c own xs) → AreasSayOneOf c (doubted s) new (within_append c own xs) (within_append c own xs)
append_failed_says c s own xs old new may same read fit =
    let current = at_geometry c s new s.area may.current.area same may.current.current in
    elim (may.reads c own same read fit).reads [
      | inl is ↦ record {
        own = own;
        tried = own;
        own_among = first own (with_changes c own xs ∷ []);
        tried_among = first own (with_changes c own xs ∷ []);
        say = current_says c (doubted s) new may.current.area own own current is;
      }
      | inr is ↦ record {
        own = with_changes c own xs;
        tried = with_changes c own xs;
        own_among = second own (with_changes c own xs) [];
        tried_among = second own (with_changes c own xs) [];
        say = current_says c (doubted s) new may.current.area (with_changes c own xs) (with_changes c own xs) current is;
      }
    ]

pub append_says : (c : DriveConfig) (s now : JournalState) (own : Reading) (xs : List (Change × Totals)) (old new : FlashState) (result : Wrote) → IsAppending s now xs old new result → geometry_of c ≡ s.geometry
    → IsTrue old.told → reads_as c old.cells ≡ Some own → IsTrue (all_fit fits c own xs) → SayAfterAppend c now new.cells own xs result
append_says c s now own xs old new Done h same told read fit = append_done_says c s now own xs old new h.outcome (sym h.images.told) same told read fit
append_says c s now own xs old new Failed h same told read fit =
    subst (λ (k : JournalState). AreasSayOneOf c k new.cells (within_append c own xs) (within_append c own xs)) (sym h.outcome.1.journal)
    (append_failed_says c s own xs old.cells new.cells (h.left told) same read fit)

-- ---- the call

-- the program of a record is in a unit of its area
record_planned : (g : Geometry) (s : JournalState) → g ≡ s.geometry → IsPlan g (record_call s ∷ [])
record_planned g s same =
    let behind : data_units s.geometry ≤ area_unit s.geometry s.area + next_in s / s.geometry.unit_pages = omega arith in
    plan_more g (record_call s) [] refl (subst (λ (k : Geometry). data_units k ≤ (record_call s).at.unit) (sym same) behind) (no_plan g)

pub append_made : (s now : JournalState) (xs : List (Change × Totals)) (old new : FlashState) (result : Wrote) → IsAppending s now xs old new result → IsWellFormed old → MakesSystemCalls old new (AreCallsOfAppend s result)
append_made s now xs old new Done h w = all_made old new (record_call s ∷ []) _ w h.images h.outcome.call (record_planned old.geometry s h.geometry) h.outcome.faults h.outcome.programs
append_made s now xs old new Failed h w =
    stop_made old new (record_call s ∷ []) _ h.outcome.0 w h.images
    (record { before = []; last = record_call s; behind = []; planned_is = refl; made = h.outcome.1.call })
    (record_planned old.geometry s h.geometry) h.outcome.1.fails h.outcome.1.programs
