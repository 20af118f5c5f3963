use Rattle.std.proofs.Common.{◌≡◌, ◌+◌, ◌<◌, ◌^◌, ◌∙◌, ℕ, List, Err, Ok, ap, arith, drop, length, refl, subst, sym}
use Rattle.fdp_base.specs.declared.config.DriveConfig.{DriveConfig}
use Rattle.fdp_base.specs.declared.entry.Entry.{Entry}
use Rattle.fdp_plain.specs.Run.{Run, next_position}
use Rattle.fdp_reader.specs.declared.record.Printed.{Printed}
use Rattle.fdp_reader.specs.Record.{GivesRecord, IsPrinted, IsRecord, IsRecordCause}
use Rattle.fdp_audit.specs.declared.fault.RunFault.{RunFault}
use Rattle.fdp_audit.specs.declared.fault.RunFault.TheVariants as faults
use Rattle.fdp_audit.specs.Audit.{HaveNoCompletedChange, IsFirstCompleted}
use Rattle.fdp_audit.specs.Steps.{BeginBehind, BeginNowhere, IsNextVerdict, IsRecordOfRun, IsVerdict}
use Rattle.fdp_audit.proofs.Following.{IsReadAs, all-behind, lost-room, next-lost, next-no, next-yes, not-read, nowhere, start-place, start-room}
use Rattle.fdp_audit.proofs.next.go_on.Goals as goal

-- what was read with the drive's own configuration was read with that of the run
own-printed : (d e : DriveConfig) (text : List ℕ) (p : Printed) → d ≡ e → IsPrinted d text p → IsPrinted e text p
own-printed d e text p same h = subst (λ (x : DriveConfig). IsPrinted x text p) same h

own-only : (d : DriveConfig) (old : Run) (text : List ℕ) (room : next_position old + length text < 2 ^ 64) (p : Printed) → d ≡ old.config → ((traces : ℕ) (output : List ℕ) (entries : List (ℕ × Entry)) → IsRecord d text traces output entries → GivesRecord traces output entries (Ok p)) → IsReadAs old text room (Ok p)
own-only d old text room p same h = subst (λ (x : DriveConfig). (traces : ℕ) (output : List ℕ) (entries : List (ℕ × Entry)) → IsRecord x text traces output entries → GivesRecord traces output entries (Ok p)) same h

pub returns-in-Err : goal.returns-in-Err
returns-in-Err c =
    let old = c.args.plain.now in
    let text = c.args.text.now in
    let cause = c.in-Err.cause in
    subst (λ (fault : RunFault). IsNextVerdict old text old (Err fault)) (sym c.from.ensures)
    (not-read old text c.requires old cause (subst (λ (d : DriveConfig). IsRecordCause d text cause) c.config.ensures.config c.in-Err.ensures.fault)
    (subst (λ (d : DriveConfig). (traces : ℕ) (output : List ℕ) (entries : List (ℕ × Entry)) → IsRecord d text traces output entries → GivesRecord traces output entries (Err cause)) c.config.ensures.config c.in-Err.ensures.only))

pub returns-in-Err-kept_before : goal.returns-in-Err-kept_before
returns-in-Err-kept_before c =
    let old = c.args.plain.now in
    let p = c.in-Ok.read in
    nowhere old c.args.text.now c.requires p (own-printed _ _ c.args.text.now p c.config.ensures.config c.in-Ok.ensures.ok) (own-only _ old c.args.text.now c.requires p c.config.ensures.config c.in-Ok.ensures.only) old c.in-Err-kept_before.fault
    (subst (λ (xs : List (ℕ × Entry)). BeginNowhere old xs c.in-Err-kept_before.fault) c.as_slice.ensures.value c.in-Err-kept_before.ensures.fault)

pub judge_read-requires-clause-room : goal.judge_read-requires-clause-room
judge_read-requires-clause-room c =
    let old = c.args.plain.now in
    let p = c.in-Ok.read in
    let kept = c.in-Ok-kept_before.kept in
    let b : BeginBehind old p.entries.items kept = subst (λ (xs : List (ℕ × Entry)). BeginBehind old xs kept) c.as_slice.ensures.value c.in-Ok-kept_before.ensures.kept in
    let low = start-room old c.args.text.now c.requires p (own-printed _ _ c.args.text.now p c.config.ensures.config c.in-Ok.ensures.ok) (own-only _ old c.args.text.now c.requires p c.config.ensures.config c.in-Ok.ensures.only) kept b in
    omega (arith, low, ap next_position c.in_ok-reopen_behind.ensures.reopened, c.requires)

pub judge_read-requires-clause-only : goal.judge_read-requires-clause-only
judge_read-requires-clause-only c =
    subst (λ (r : Run). (traces : ℕ) (output : List ℕ) (entries : List (ℕ × Entry)) → IsRecord r.config c.args.text.now traces output entries → GivesRecord traces output entries (Ok c.in-Ok.read)) (sym c.in_ok-reopen_behind.ensures.reopened)
    (own-only _ c.args.plain.now c.args.text.now c.requires c.in-Ok.read c.config.ensures.config c.in-Ok.ensures.only)

pub returns-in-Err-judge_read : goal.returns-in-Err-judge_read
returns-in-Err-judge_read c =
    let old = c.args.plain.now in
    let text = c.args.text.now in
    let p = c.in-Ok.read in
    let kept = c.in-Ok-kept_before.kept in
    let b : BeginBehind old p.entries.items kept = subst (λ (xs : List (ℕ × Entry)). BeginBehind old xs kept) c.as_slice.ensures.value c.in-Ok-kept_before.ensures.kept in
    let run = c.judge_read.new.plain in
    let fault = c.in-Err-judge_read.fault in
    next-no old text c.requires p (own-printed _ _ text p c.config.ensures.config c.in-Ok.ensures.ok) (own-only _ old text c.requires p c.config.ensures.config c.in-Ok.ensures.only) kept b run run fault
    (subst (λ (r : Run). IsVerdict r text run (Err fault)) c.in_ok-reopen_behind.ensures.reopened c.in-Err-judge_read.ensures)

pub overflow_add-result : goal.overflow_add-result
overflow_add-result c =
    let old = c.args.plain.now in
    let p = c.in-Ok.read in
    let kept = c.in-Ok-kept_before.kept in
    let b : BeginBehind old p.entries.items kept = subst (λ (xs : List (ℕ × Entry)). BeginBehind old xs kept) c.as_slice.ensures.value c.in-Ok-kept_before.ensures.kept in
    let lost : IsFirstCompleted (drop kept old.entries) c.in-Some.place = subst (λ (es : List Entry). IsFirstCompleted es c.in-Some.place) (all-behind kept c.entries.result.now ∙ ap (λ (es : List Entry). drop kept es) c.entries.ensures.entries) c.in-Some.ensures.some in
    let low = start-place old kept b.low in
    omega (arith, low, c.next_position-first.ensures, ap next_position c.in_ok-reopen_behind.ensures.reopened, lost-room old kept c.in-Some.place b.low lost, c.requires)

pub returns-in-Some : goal.returns-in-Some
returns-in-Some c =
    let old = c.args.plain.now in
    let text = c.args.text.now in
    let p = c.in-Ok.read in
    let kept = c.in-Ok-kept_before.kept in
    let b : BeginBehind old p.entries.items kept = subst (λ (xs : List (ℕ × Entry)). BeginBehind old xs kept) c.as_slice.ensures.value c.in-Ok-kept_before.ensures.kept in
    let lost : IsFirstCompleted (drop kept old.entries) c.in-Some.place = subst (λ (es : List Entry). IsFirstCompleted es c.in-Some.place) (all-behind kept c.entries.result.now ∙ ap (λ (es : List Entry). drop kept es) c.entries.ensures.entries) c.in-Some.ensures.some in
    let run = c.judge_read.new.plain in
    let at = c.next_position-first.ensures ∙ ap next_position c.in_ok-reopen_behind.ensures.reopened in
    subst (λ (n : ℕ). IsNextVerdict old text run (Err (faults.Lost (n + c.in-Some.place)))) (sym at)
    (next-lost old text c.requires p (own-printed _ _ text p c.config.ensures.config c.in-Ok.ensures.ok) (own-only _ old text c.requires p c.config.ensures.config c.in-Ok.ensures.only) kept b run
    (subst (λ (r : Run). IsRecordOfRun r text run) c.in_ok-reopen_behind.ensures.reopened c.in-Ok-judge_read.ensures) run c.in-Some.place lost)

pub returns-in-None : goal.returns-in-None
returns-in-None c =
    let old = c.args.plain.now in
    let text = c.args.text.now in
    let p = c.in-Ok.read in
    let kept = c.in-Ok-kept_before.kept in
    let b : BeginBehind old p.entries.items kept = subst (λ (xs : List (ℕ × Entry)). BeginBehind old xs kept) c.as_slice.ensures.value c.in-Ok-kept_before.ensures.kept in
    let run = c.judge_read.new.plain in
    next-yes old text c.requires p (own-printed _ _ text p c.config.ensures.config c.in-Ok.ensures.ok) (own-only _ old text c.requires p c.config.ensures.config c.in-Ok.ensures.only) kept b run
    (subst (λ (r : Run). IsRecordOfRun r text run) c.in_ok-reopen_behind.ensures.reopened c.in-Ok-judge_read.ensures)
    (subst HaveNoCompletedChange (all-behind kept c.entries.result.now ∙ ap (λ (es : List Entry). drop kept es) c.entries.ensures.entries) (c.in-None.ensures.none refl))
