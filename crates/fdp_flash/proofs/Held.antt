-- A fact that holds of the cells before a call, of what a stop in it may leave and of the cells after it holds through all
-- calls of a loop: `holds_at_start` begins, and one of the others takes each call.
use Rattle.std.proofs.Common.{ℕ, IsTrue, List}
use Rattle.fdp_base.specs.declared.entry.Spot.{Spot}
use Rattle.fdp_flash.specs.declared.answer.Fetched.{Fetched}
use Rattle.fdp_flash.specs.declared.answer.Seen.{Seen}
use Rattle.fdp_flash.specs.declared.answer.Wrote.{Wrote}
use Rattle.fdp_flash.specs.declared.cell.Cell.{Cell}
use Rattle.fdp_flash.specs.Answers.{Looks, Fetches, Programs, Erases}
use Rattle.fdp_flash.specs.Cells.{ProgramMayLeave, EraseMayLeave}
use Rattle.fdp_flash.specs.FlashState.{FlashState, Begins}
use Rattle.fdp_flash.specs.Runs.{Holds}
use Rattle.fdp_flash.proofs.Calls.{program_leaves, erase_leaves}
use Rattle.fdp_flash.proofs.Runs.{no_run, runs_joined, runs_weakened, run_of_look, run_of_fetch, run_of_program, run_of_erase}

-- before the first call
pub holds_at_start : (Fact : List Cell → Type 0) (s : FlashState) → (IsTrue s.told → Fact s.cells) → Holds Fact s s
holds_at_start Fact s cells = record { run = no_run s (λ m image. Fact image); cells = cells }

-- two loops, one after the other
pub holds_joined : (Fact : List Cell → Type 0) (a b c : FlashState) → Holds Fact a b → Holds Fact b c → Holds Fact a c
holds_joined Fact a b c p q = record {
  run = runs_joined a b c (λ m image. Fact image) p.run q.run;
  cells = λ told. q.cells (rw p.run.told told);
}

-- what holds may be said more weakly
pub holds_weakened : (Fact Weaker : List Cell → Type 0) (old new : FlashState) → Holds Fact old new → (IsTrue old.told → (cells : List Cell) → Fact cells → Weaker cells) → Holds Weaker old new
holds_weakened Fact Weaker old new p weaker = record {
  run = runs_weakened old new (λ m image. Fact image) (λ m image. Weaker image) p.run (λ told m image above most fact. weaker told image fact);
  cells = λ told. weaker told new.cells (p.cells told);
}

-- a look changes nothing
pub holds_after_look : (Fact : List Cell → Type 0) (start now new : FlashState) (at : Spot) (spare bytes : List ℕ) (result : Seen) →
    Holds Fact start now → Begins now new → Looks now new at spare bytes result → Holds Fact start new
holds_after_look Fact start now new at spare bytes result p b a = record {
  run =
      runs_joined start now new (λ m image. Fact image) p.run
      (run_of_look now new at spare bytes result (λ m image. Fact image) b a (λ told later. p.cells (rw (← p.run.told) told)));
  cells = λ told. rw (a.reads.cells (rw p.run.told told)) (p.cells told);
}

-- a fetch changes nothing
pub holds_after_fetch : (Fact : List Cell → Type 0) (start now new : FlashState) (at : Spot) (spare bytes : List ℕ) (result : Fetched) →
    Holds Fact start now → Begins now new → Fetches now new at spare bytes result → Holds Fact start new
holds_after_fetch Fact start now new at spare bytes result p b a = record {
  run =
      runs_joined start now new (λ m image. Fact image) p.run
      (run_of_fetch now new at spare bytes result (λ m image. Fact image) b a (λ told later. p.cells (rw (← p.run.told) told)));
  cells = λ told. rw (a.reads.cells (rw p.run.told told)) (p.cells told);
}

-- a program, whatever it answered, where the fact holds of all that it may leave
pub holds_after_program : (Fact : List Cell → Type 0) (start now new : FlashState) (at : Spot) (spare bytes : List ℕ) (result : Wrote) →
    Holds Fact start now → Begins now new → Programs now new at spare bytes result →
    (Fact now.cells → (left : List Cell) → ProgramMayLeave start.geometry now.cells at spare bytes left → Fact left) → Holds Fact start new
holds_after_program Fact start now new at spare bytes result p b a each = record {
  run =
      runs_joined start now new (λ m image. Fact image) p.run
      (run_of_program now new at spare bytes result (λ m image. Fact image) b a
      (λ told later image left. each (p.cells (rw (← p.run.told) told)) image (rw p.run.geometry at left)));
  cells = λ told. each (p.cells told) new.cells (rw p.run.geometry at (program_leaves now new at spare bytes result a (rw p.run.told told)));
}

-- an erase, whatever it answered, where the fact holds of all that it may leave
pub holds_after_erase : (Fact : List Cell → Type 0) (start now new : FlashState) (unit : ℕ) (result : Wrote) →
    Holds Fact start now → Begins now new → Erases now new unit result →
    (Fact now.cells → (left : List Cell) → EraseMayLeave start.geometry now.cells unit left → Fact left) → Holds Fact start new
holds_after_erase Fact start now new unit result p b a each = record {
  run =
      runs_joined start now new (λ m image. Fact image) p.run
      (run_of_erase now new unit result (λ m image. Fact image) b a
      (λ told later image left. each (p.cells (rw (← p.run.told) told)) image (rw p.run.geometry at left)));
  cells = λ told. each (p.cells told) new.cells (rw p.run.geometry at (erase_leaves now new unit result a (rw p.run.told told)));
}
