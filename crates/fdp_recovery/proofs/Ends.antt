-- How openings end, one step after another.
use Rattle.std.proofs.Common.{◌≡◌, ◌∙◌, ◌+◌, Ok, Err, IsTrue, Result, ℕ, List, subst, sym}
use Rattle.std.specs.Prelude.{IfOk}
use Rattle.fdp_base.specs.declared.config.Geometry.{Geometry}
use Rattle.fdp_checkpoint.specs.fdp_areas.declared.seal.LookFailed.{LookFailed}
use Rattle.fdp_checkpoint.specs.fdp_areas.Looking.{Ends}
use Rattle.fdp_flash.specs.declared.cell.Cell.{Cell}
use Rattle.fdp_flash.specs.FlashState.{FlashState}
use Rattle.fdp_flash.specs.OnlyReads.{ReadsOnly}
use Rattle.fdp_flash.proofs.Failing.{failed_behind}
use Rattle.fdp_flash.proofs.OnlyReads.{after_reads, before_reads, no_read, reads_joined}
use Rattle.fdp_recovery.specs.declared.opened.OpenFault.{OpenFault}
use Rattle.fdp_recovery.specs.declared.opened.OpenFault.TheVariants as faults
use Rattle.fdp_recovery.specs.Opened.{EndsOpening}
use Rattle.fdp_recovery.specs.Ready.{NeverFails}
use Rattle.fdp_recovery.specs.Walking.{OnlyLooks}

-- what holds whatever is answered holds of an answer that is no fault
pub if_ok : {X E P : Type 0} (result : Result X E) → P → IfOk result (λ x. P)
if_ok (Ok x) p = p
if_ok (Err e) p = tt

-- no look, and some looks after others
pub no_look : (s : FlashState) → OnlyLooks s s
no_look s = record { most = 0; reads = no_read s }

pub looks_joined : (a b c : FlashState) → OnlyLooks a b → OnlyLooks b c → OnlyLooks a c
looks_joined a b c p q = record { most = p.most + q.most; reads = reads_joined p.most q.most a b c p.reads q.reads }

-- an answer that tells of no failed call, where no fault was counted
pub ends_quiet : {X : Type 0} (old new : FlashState) (result : Result X OpenFault) → NeverFails result → new.faults ≡ old.faults → EndsOpening old new result
ends_quiet old new (Ok x) quiet same = same
ends_quiet old new (Err (faults.OtherConfig key)) quiet same = same
ends_quiet old new (Err faults.NotADrive) quiet same = same
ends_quiet old new (Err (faults.BadImage page)) quiet same = same
ends_quiet old new (Err (faults.FlashFault moment)) quiet same = absurd quiet
ends_quiet old new (Err faults.Spent) quiet same = same
ends_quiet old new (Err faults.NoMemory) quiet same = same

-- a step behind one that met no fault
pub ends_behind : {X : Type 0} (start now new : FlashState) (result : Result X OpenFault) → OnlyLooks start now → now.faults ≡ start.faults → EndsOpening now new result → EndsOpening start new result
ends_behind start now new (Ok x) looks same ends = ends ∙ same
ends_behind start now new (Err (faults.OtherConfig key)) looks same ends = ends ∙ same
ends_behind start now new (Err faults.NotADrive) looks same ends = ends ∙ same
ends_behind start now new (Err (faults.BadImage page)) looks same ends = ends ∙ same
ends_behind start now new (Err (faults.FlashFault moment)) looks same ends = failed_behind start now new (λ m image. image ≡ start.cells) moment looks.reads.held.run ends
ends_behind start now new (Err faults.Spent) looks same ends = ends ∙ same
ends_behind start now new (Err faults.NoMemory) looks same ends = ends ∙ same

-- the same of looks at pages
pub looks_behind : {X : Type 0} (start now new : FlashState) (result : Result X LookFailed) → OnlyLooks start now → now.faults ≡ start.faults → Ends now new result → Ends start new result
looks_behind start now new (Ok x) looks same ends = ends ∙ same
looks_behind start now new (Err failed) looks same ends = failed_behind start now new (λ m image. image ≡ start.cells) failed.moment looks.reads.held.run ends

-- ---- what is told before some looks is told after them, and the other way round

pub told_before : (a b : FlashState) (Fact : Geometry → List Cell → Type 0) → OnlyLooks a b → (IsTrue b.told → Fact b.geometry b.cells) → IsTrue a.told → Fact a.geometry a.cells
told_before a b Fact looks fact told =
    subst (λ (g : Geometry). Fact g a.cells) looks.reads.held.run.geometry (before_reads looks.most a b (λ (cells : List Cell). Fact b.geometry cells) looks.reads fact told)

pub told_after : (a b : FlashState) (Fact : Geometry → List Cell → Type 0) → OnlyLooks a b → (IsTrue a.told → Fact a.geometry a.cells) → IsTrue b.told → Fact b.geometry b.cells
told_after a b Fact looks fact told =
    after_reads looks.most a b (λ (cells : List Cell). Fact b.geometry cells) looks.reads (λ t. subst (λ (g : Geometry). Fact g a.cells) (sym looks.reads.held.run.geometry) (fact t)) told

pub cut_after : (a b : FlashState) (Fact : Geometry → Type 0) → OnlyLooks a b → Fact a.geometry → Fact b.geometry
cut_after a b Fact looks fact = subst Fact (sym looks.reads.held.run.geometry) fact

pub cut_before : (a b : FlashState) (Fact : Geometry → Type 0) → OnlyLooks a b → Fact b.geometry → Fact a.geometry
cut_before a b Fact looks fact = subst Fact looks.reads.held.run.geometry fact

pub looked : (n : ℕ) (a b : FlashState) → ReadsOnly n a b → OnlyLooks a b
looked n a b reads = record { most = n; reads = reads }
