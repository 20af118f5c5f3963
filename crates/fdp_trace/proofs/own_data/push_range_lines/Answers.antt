use Rattle.std.proofs.Common.{◌≡◌, ℕ, ◌++◌, List, take, drop, refl, sym, ap, ◌∙◌, arith}
use Rattle.fdp_base.specs.declared.command.Range.{Range}
use Rattle.fdp_queues.proofs.Data.{length-range}
use Rattle.fdp_queues.specs.Data.{range_bytes, ranges_data, with_attributes}
use Rattle.fdp_output.specs.Output.{data_line, data_lines}
use Rattle.fdp_trace.proofs.OwnData.{items-end, items-next, line_pushed}
use Rattle.fdp_trace.proofs.Printed.{drop_min, extends_more, none_left, some_left, take_min}
use Rattle.fdp_trace.proofs.own_data.push_range_lines.Goals as goal

pub loop-rest-preserved : goal.loop-rest-preserved
loop-rest-preserved c =
    let rest = c.loop-rest.rest.now in
    let front : c.split_at.result.0.now ≡ take 2 rest = c.split_at.ensures.front ∙ ap (λ (n : ℕ). take n rest) c.min.ensures ∙ take_min rest 2 in
    let back : c.split_at.result.1.now ≡ drop 2 rest = c.split_at.ensures.back ∙ ap (λ (n : ℕ). drop n rest) c.min.ensures ∙ drop_min rest 2 in
    let here = items-next (λ (range : Range). range_bytes (with_attributes 0 range)) 16 2 (λ range. length-range (with_attributes 0 range)) refl (omega arith) rest (some_left rest (sym c.is_empty.ensures ∙ c.loop-rest-test.true)) in (
      line_pushed c.loop-rest.text.items _ _ _ _ _ c.in_ok-push_range_line.ensures.ok (here ∙ ap (λ (t : List Range). data_line (ranges_data t) ++ data_lines (ranges_data (drop 2 rest))) (sym front) ∙ ap (λ (t : List Range). data_line (ranges_data c.split_at.result.0.now) ++ data_lines (ranges_data t)) (sym back)) c.loop-rest.invariant.0,
      extends_more c.args.text.now.items c.loop-rest.text.items _ _ c.loop-rest.invariant.1 c.in_ok-push_range_line.ensures.ok,
    )

pub returns-clause-ok : goal.returns-clause-ok
returns-clause-ok c = items-end (λ (range : Range). range_bytes (with_attributes 0 range)) c.loop-rest.rest.now c.loop-rest.text.items _ (none_left c.loop-rest.rest.now (sym c.is_empty.ensures ∙ c.loop-rest-test.false)) c.loop-rest.invariant.0
