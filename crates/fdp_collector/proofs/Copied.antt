-- A fetch and a program, one after the other, as the copy of a page.
use Rattle.std.proofs.Common.{◌≡◌, ℕ, ◌<◌, false, true, List, [], ◌∷◌, refl, ap, sym, ◌∙◌, subst, set, inl, inr, ⊎_elim}
use Rattle.std.specs.Prelude.{◌⊎◌, IsTrue, slice_get}
use Rattle.fdp_base.specs.declared.config.Geometry.{Geometry}
use Rattle.fdp_base.specs.declared.entry.Spot.{Spot}
use Rattle.fdp_base.specs.Counts.{counted}
use Rattle.fdp_base.specs.Geometry.{data_units}
use Rattle.fdp_calls.specs.Calls.{MakesCalls, fetch_at, program_at}
use Rattle.fdp_calls.proofs.Made.{calls-joined, fetched-whole, kept-made, programmed-done, programmed-failed}
use Rattle.fdp_collector.specs.Copying.{Copies, FailsToFetch, IsSameBut, MayBeLeft}
use Rattle.fdp_flash.specs.declared.answer.Fetched.{Fetched}
use Rattle.fdp_flash.specs.declared.answer.Fetched.TheVariants as fetched
use Rattle.fdp_flash.specs.declared.answer.Wrote.{Wrote}
use Rattle.fdp_flash.specs.declared.answer.Wrote.TheVariants as wrote
use Rattle.fdp_flash.specs.declared.cell.Cell.{Cell}
use Rattle.fdp_flash.specs.declared.cell.Cell.TheVariants.{Whole}
use Rattle.fdp_flash.specs.Answers.{Fetches, Programs}
use Rattle.fdp_flash.specs.Cells.{ProgramMayLeave}
use Rattle.fdp_flash.specs.FlashState.{Begins, FlashState}
use Rattle.fdp_flash.specs.Layout.{page_number}
use Rattle.fdp_flash.specs.Runs.{Runs}
use Rattle.fdp_flash.proofs.Lists.{slice_get-set_other}
use Rattle.fdp_flash.proofs.Runs.{fault_after_run, run_of_fetch, run_of_program, runs_joined, runs_weakened}

-- what a fetch and a program of a page may leave: the cells as they were, or what the program may
abbrev pub CopyMayLeave : FlashState → Spot → List ℕ → List ℕ → List Cell → Type 0
CopyMayLeave old to spare bytes image = (image ≡ old.cells) ⊎ ProgramMayLeave old.geometry old.cells to spare bytes image

abbrev pub CopyRun : FlashState → FlashState → Spot → List ℕ → List ℕ → Type 0
CopyRun old new to spare bytes = Runs old new (λ m image. CopyMayLeave old to spare bytes image)

pub left-same : (g : Geometry) (to : Spot) (spare bytes : List ℕ) (old new : List Cell) → ProgramMayLeave g old to spare bytes new → IsSameBut g to old new
left-same g to spare bytes old new h k ne = ap (λ (cs : List Cell). slice_get cs k) h.cells ∙ slice_get-set_other old (page_number g to) k h.cell ne

-- ---- the fetch

pub fetch-run : (a b : FlashState) (from to : Spot) (spare bytes : List ℕ) (result : Fetched) → Begins a b → Fetches a b from spare bytes result → CopyRun a b to spare bytes
fetch-run a b from to spare bytes result begins answer = run_of_fetch a b from spare bytes result (λ m image. CopyMayLeave a to spare bytes image) begins answer (λ told later. inl refl)

pub read-run : (a b : FlashState) (at : Spot) (spare bytes : List ℕ) (result : Fetched) → Begins a b → Fetches a b at spare bytes result → Runs a b (λ m image. image ≡ a.cells)
read-run a b at spare bytes result begins answer = run_of_fetch a b at spare bytes result (λ m image. image ≡ a.cells) begins answer (λ told later. refl)

-- it changed nothing
pub fetch-failed : (a b : FlashState) (at : Spot) (spare bytes : List ℕ) (result : Fetched) → Begins a b → Fetches a b at spare bytes result → MakesCalls a b (fetch_at at true ∷ []) → FailsToFetch a b at
fetch-failed a b at spare bytes result begins answer made = record {
  read = record { kept = kept-made a b (fetch_at at true ∷ []) made; stops = read-run a b at spare bytes result begins answer; programs = answer.reads.programs; cells = answer.reads.cells };
  failed = made.fault refl;
  made = made;
}

-- ---- the page was fetched

module _ (a b c : FlashState) (from to : Spot) (spare bytes : List ℕ) (fetch : Begins a b) (read : Fetches a b from spare bytes fetched.Whole) where
  moved-left : (new : List Cell) → IsTrue a.told → ProgramMayLeave b.geometry b.cells to spare bytes new → ProgramMayLeave a.geometry a.cells to spare bytes new
  moved-left new told h = subst (λ (g : Geometry). ProgramMayLeave g a.cells to spare bytes new) fetch.geometry (subst (λ (cs : List Cell). ProgramMayLeave b.geometry cs to spare bytes new) (read.reads.cells told) h)

  same-but : (new : List Cell) → IsTrue a.told → ProgramMayLeave b.geometry b.cells to spare bytes new → IsSameBut a.geometry to a.cells new
  same-but new told h =
      left-same a.geometry to spare bytes a.cells new (moved-left new told h)

  program-run : (result : Wrote) → Begins b c → Programs b c to spare bytes result → CopyRun a c to spare bytes
  program-run result begins answer =
      runs_joined a b c (λ m image. CopyMayLeave a to spare bytes image)
      (fetch-run a b from to spare bytes fetched.Whole fetch read)
      (run_of_program b c to spare bytes result (λ m image. CopyMayLeave a to spare bytes image) begins answer (λ told later image left. inr (moved-left image (sym fetch.told ∙ told) left)))

  -- with the spare alone
  copy-stops : CopyRun a c to spare bytes → Runs a c (λ m image. (image ≡ a.cells) ⊎ MayBeLeft a.geometry a.cells to spare image)
  copy-stops run =
      runs_weakened a c (λ m image. CopyMayLeave a to spare bytes image) (λ m image. (image ≡ a.cells) ⊎ MayBeLeft a.geometry a.cells to spare image) run
      (λ told m image above most left. ⊎_elim (λ same. inl same) (λ programmed. inr (bytes, programmed)) left)

  pub copies-unprogrammed : Begins b c → Programs b c to spare bytes wrote.Failed → CopyRun a c to spare bytes × Copies a c from to spare wrote.Failed
  copies-unprogrammed begins answer = (
    program-run wrote.Failed begins answer,
    record {
      done = λ e. absurd (never e);
      programs = λ e. absurd (never e);
      not_done = λ ne. answer.not_done refl ∙ read.reads.programs;
      failed = λ ne. fault_after_run a b c (λ m image. CopyMayLeave a to spare bytes image) (fetch-run a b from to spare bytes fetched.Whole fetch read) (answer.ended.fault refl);
      others = λ told. same-but c.cells told (answer.failed (fetch.told ∙ told) refl);
      left = λ e told. (bytes, moved-left c.cells told (answer.failed (fetch.told ∙ told) refl));
      made = calls-joined a b c (fetch_at from false ∷ []) (program_at to true ∷ []) (fetched-whole a b from spare bytes fetch read) (programmed-failed b c to spare bytes begins answer);
      stops = copy-stops (program-run wrote.Failed begins answer);
    },
  ) where
    never : wrote.Failed ≡ wrote.Done → ⊥
    never e = cc

  pub copies-done : to.unit < data_units a.geometry → Begins b c → Programs b c to spare bytes wrote.Done → CopyRun a c to spare bytes × Copies a c from to spare wrote.Done
  copies-done data_unit begins answer =
      let now : IsTrue a.told → c.cells ≡ set a.cells (page_number a.geometry to) (Whole spare bytes) = λ told. answer.done (fetch.told ∙ told) refl ∙ ap (λ (g : Geometry). set b.cells (page_number g to) (Whole spare bytes)) fetch.geometry ∙ ap (λ (cs : List Cell). set cs (page_number a.geometry to) (Whole spare bytes)) (read.reads.cells told) in (
        program-run wrote.Done begins answer,
        record {
          done = λ e told. record { bytes = bytes; held = read.whole told refl; now = now told };
          programs = λ e. answer.data_done refl (subst (λ (g : Geometry). to.unit < data_units g) (sym fetch.geometry) data_unit) ∙ ap counted read.reads.programs;
          not_done = λ e. absurd (apart e);
          failed = λ e. absurd (apart e);
          others = λ told k ne. ap (λ (cs : List Cell). slice_get cs k) (now told) ∙ slice_get-set_other a.cells (page_number a.geometry to) k (Whole spare bytes) ne;
          left = λ e. absurd (apart e);
          made = calls-joined a b c (fetch_at from false ∷ []) (program_at to false ∷ []) (fetched-whole a b from spare bytes fetch read) (programmed-done b c to spare bytes begins answer);
          stops = copy-stops (program-run wrote.Done begins answer);
        },
      ) where
        apart : wrote.Done ≡ wrote.Failed → ⊥
        apart e = cc
