use Rattle.std.proofs.Common.{rules, ◌≡◌, ℕ, ◌-◌, ◌+◌, length, take, drop, sym, ap, ◌∙◌, arith}
use Rattle.fdp_output.specs.Output.{data_line}
use Rattle.fdp_trace.proofs.Printed.{extends_more, extends_both, one_piece, no_piece, no_more, some_left, none_left, take_min, drop_min}
use Rattle.fdp_trace.proofs.data.push_data_lines.Goals as goal

pub loop-preserved : goal.loop-preserved
loop-preserved c =
    let left = length c.args.bytes.now - (c.loop.counter + 1) in
    let rest = c.loop.rest.now in
    let front : c.split_at.result.0.now ≡ take 32 rest = c.split_at.ensures.front ∙ ap (λ (k : ℕ). take k rest) c.min.ensures ∙ take_min rest 32 in
    let back : c.split_at.result.1.now ≡ drop 32 rest = c.split_at.ensures.back ∙ ap (λ (k : ℕ). drop k rest) c.min.ensures ∙ drop_min rest 32 in (
      rw (c.in_ok-push_data_line.ensures.ok, front, back)
          (one_piece data_line (length c.args.bytes.now - c.loop.counter) left 32 rest c.loop.text.items _ (omega arith) (some_left rest (sym c.is_empty.ensures ∙ c.if-is_empty.false)) c.loop.invariant.0),
      extends_more c.args.text.now.items c.loop.text.items _ _ c.loop.invariant.1 c.in_ok-push_data_line.ensures.ok,
    )

pub returns-after-loop-clause-ok : goal.returns-after-loop-clause-ok
returns-after-loop-clause-ok c = no_more data_line (length c.args.bytes.now - c.loop.counter) 32 c.loop.rest.now c.loop.text.items _ (omega arith) c.loop.invariant.0

pub returns-then-is_empty-clause-ok : goal.returns-then-is_empty-clause-ok
returns-then-is_empty-clause-ok c = no_piece data_line (length c.args.bytes.now - c.loop.counter) 32 c.loop.rest.now c.loop.text.items _ (none_left c.loop.rest.now (sym c.is_empty.ensures ∙ c.if-is_empty.true)) c.loop.invariant.0

pub returns-in_err-push_data_line-clause-err : goal.returns-in_err-push_data_line-clause-err
returns-in_err-push_data_line-clause-err c =
    let grown = extends_both c.args.text.now.items c.loop.text.items c.push_data_line.new.text.items c.loop.invariant.1 c.in_err-push_data_line.ensures.err in
    search (rules, grown)
