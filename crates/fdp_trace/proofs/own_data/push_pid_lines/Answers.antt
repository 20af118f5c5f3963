use Rattle.std.proofs.Common.{◌≡◌, ℕ, ◌++◌, List, take, drop, refl, sym, ap, ◌∙◌, arith}
use Rattle.std.specs.Int.{to_le_bytes, w16}
use Rattle.fdp_queues.specs.Data.{pids_data}
use Rattle.fdp_output.specs.Output.{data_line, data_lines}
use Rattle.fdp_trace.proofs.OwnData.{items-end, items-next, line_pushed}
use Rattle.fdp_trace.proofs.Printed.{drop_min, extends_more, none_left, some_left, take_min}
use Rattle.fdp_trace.proofs.own_data.push_pid_lines.Goals as goal

pub loop-rest-preserved : goal.loop-rest-preserved
loop-rest-preserved c =
    let rest = c.loop-rest.rest.now in
    let front : c.split_at.result.0.now ≡ take 16 rest = c.split_at.ensures.front ∙ ap (λ (n : ℕ). take n rest) c.min.ensures ∙ take_min rest 16 in
    let back : c.split_at.result.1.now ≡ drop 16 rest = c.split_at.ensures.back ∙ ap (λ (n : ℕ). drop n rest) c.min.ensures ∙ drop_min rest 16 in
    let here = items-next (λ (pid : ℕ). to_le_bytes w16 pid) 2 16 (λ pid. refl) refl (omega arith) rest (some_left rest (sym c.is_empty.ensures ∙ c.loop-rest-test.true)) in (
      line_pushed c.loop-rest.text.items _ _ _ _ _ c.in_ok-push_pid_line.ensures.ok (here ∙ ap (λ (t : List ℕ). data_line (pids_data t) ++ data_lines (pids_data (drop 16 rest))) (sym front) ∙ ap (λ (t : List ℕ). data_line (pids_data c.split_at.result.0.now) ++ data_lines (pids_data t)) (sym back)) c.loop-rest.invariant.0,
      extends_more c.args.text.now.items c.loop-rest.text.items _ _ c.loop-rest.invariant.1 c.in_ok-push_pid_line.ensures.ok,
    )

pub returns-clause-ok : goal.returns-clause-ok
returns-clause-ok c = items-end (λ (pid : ℕ). to_le_bytes w16 pid) c.loop-rest.rest.now c.loop-rest.text.items _ (none_left c.loop-rest.rest.now (sym c.is_empty.ensures ∙ c.loop-rest-test.false)) c.loop-rest.invariant.0
