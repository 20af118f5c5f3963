use Rattle.std.proofs.Common.{◌≡◌, ◌-◌, ◌∙◌, ◌≤◌, ℕ, List, [], ◌∷◌, All, Err, ap, arith, length, map, subst, sym}
use Rattle.std.specs.Global.{Vec}
use Rattle.std.specs.Vec.{vec_items}
use Rattle.std.proofs.lemmas.List.Elements.{All-head, All-tail}
use Rattle.fdp_base.specs.declared.limits.TheConstants.{LONGEST_TRACE}
use Rattle.fdp_plain.specs.Run.{Run, next_position}
use Rattle.fdp_audit.specs.Audit.{IsAudited, IsWant, first_run}
use Rattle.fdp_audit.specs.Steps.{IsRecordOfRun, IsVerdict}
use Rattle.fdp_audit.proofs.Following.{all-none, all-yes, first-count, first-none, first-room}
use Rattle.fdp_audit.proofs.runs.audit.Goals as goal

pub judge_run-requires-clause-room : goal.judge_run-requires-clause-room
judge_run-requires-clause-room c =
    let P : Vec ℕ → Type 0 = λ (text : Vec ℕ). length text.items ≤ LONGEST_TRACE in
    let short : All P (c.in-Some.first.now ∷ c.in-Some.others.now) = subst (λ (ts : List (Vec ℕ)). All P ts) c.in-Some.ensures.cases.0 c.requires.short in
    let own = All-head P c.in-Some.first.now c.in-Some.others.now short in
    omega (arith, own, ap (λ (t : List ℕ). length t) c.as_slice.ensures.value, ap next_position c.in-Ok.ensures ∙ first-count c.args.config.now [])

pub judge_others-requires-clause-short : goal.judge_others-requires-clause-short
judge_others-requires-clause-short c =
    let P : Vec ℕ → Type 0 = λ (text : Vec ℕ). length text.items ≤ LONGEST_TRACE in
    All-tail P c.in-Some.first.now c.in-Some.others.now (subst (λ (ts : List (Vec ℕ)). All P ts) c.in-Some.ensures.cases.0 c.requires.short)

pub judge_others-requires-clause-room : goal.judge_others-requires-clause-room
judge_others-requires-clause-room c =
    let P : Vec ℕ → Type 0 = λ (text : Vec ℕ). length text.items ≤ LONGEST_TRACE in
    let short : All P (c.in-Some.first.now ∷ c.in-Some.others.now) = subst (λ (ts : List (Vec ℕ)). All P ts) c.in-Some.ensures.cases.0 c.requires.short in
    let own = All-head P c.in-Some.first.now c.in-Some.others.now short in
    let run = c.judge_run.new.plain in
    let text = c.as_slice.result.now in
    let v : IsRecordOfRun (first_run c.args.config.now) text run = subst (λ (r : Run). IsRecordOfRun r text run) c.in-Ok.ensures c.in-Ok-judge_run.ensures in
    omega (arith, own, ap (λ (t : List ℕ). length t) c.as_slice.ensures.value, first-room c.args.config.now text run v)

pub returns-in-Err-clause-only : goal.returns-in-Err-clause-only
returns-in-Err-clause-only c =
    let config = c.args.config.now in
    let cause = c.in-Err.cause in
    let run = c.judge_run.new.plain in
    let v : IsVerdict (first_run config) c.in-Some.first.now.items run (Err cause) =
    subst (λ (r : Run). IsVerdict r c.in-Some.first.now.items run (Err cause)) c.in-Ok.ensures (subst (λ (t : List ℕ). IsVerdict c.in-Ok.plain t run (Err cause)) c.as_slice.ensures.value c.in-Err.ensures) in
    subst (λ (ts : List (Vec ℕ)). (count : ℕ) → IsAudited config (map vec_items ts) count → IsWant cause) (sym c.in-Some.ensures.cases.0)
    (first-none config c.in-Some.first.now.items (map vec_items c.in-Some.others.now) run cause v).1

pub returns-in-Ok-judge_others-clause-only : goal.returns-in-Ok-judge_others-clause-only
returns-in-Ok-judge_others-clause-only c =
    let config = c.args.config.now in
    let run = c.judge_run.new.plain in
    let last = c.judge_others.new.plain in
    let count = c.next_position.result - 1 in
    let v : IsRecordOfRun (first_run config) c.in-Some.first.now.items run =
    subst (λ (r : Run). IsRecordOfRun r c.in-Some.first.now.items run) c.in-Ok.ensures (subst (λ (t : List ℕ). IsRecordOfRun c.in-Ok.plain t run) c.as_slice.ensures.value c.in-Ok-judge_run.ensures) in
    subst (λ (ts : List (Vec ℕ)). (n : ℕ) → IsAudited config (map vec_items ts) n → count ≡ n) (sym c.in-Some.ensures.cases.0)
    (all-yes config c.in-Some.first.now.items (map vec_items c.in-Some.others.now) run last count v c.in-Ok-judge_others.ensures (omega (arith, c.next_position.ensures))).1

pub returns-clause-only : goal.returns-clause-only
returns-clause-only c =
    let config = c.args.config.now in
    let run = c.judge_run.new.plain in
    let last = c.judge_others.new.plain in
    let fault = c.in-Err-judge_others.fault in
    let v : IsRecordOfRun (first_run config) c.in-Some.first.now.items run =
    subst (λ (r : Run). IsRecordOfRun r c.in-Some.first.now.items run) c.in-Ok.ensures (subst (λ (t : List ℕ). IsRecordOfRun c.in-Ok.plain t run) c.as_slice.ensures.value c.in-Ok-judge_run.ensures) in
    subst (λ (ts : List (Vec ℕ)). (n : ℕ) → IsAudited config (map vec_items ts) n → IsWant fault.cause) (sym c.in-Some.ensures.cases.0)
    (all-none config c.in-Some.first.now.items (map vec_items c.in-Some.others.now) run last fault v c.in-Err-judge_others.ensures).1
