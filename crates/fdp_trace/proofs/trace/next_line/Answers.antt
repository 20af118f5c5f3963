use Rattle.std.proofs.Common.{◌∷◌, sym, ap, ◌∙◌, arith, List, ℕ, length, take, drop, ◌+◌, ◌-◌}
use Rattle.std.specs.Str.Lines.{lines}
use Rattle.fdp_trace.proofs.Cutting.{line_last, line_cut}
use Rattle.fdp_trace.proofs.trace.next_line.Goals as goal

pub returns-then-end-text-clause-lines : goal.returns-then-end-text-clause-lines
returns-then-end-text-clause-lines c = line_last c.args.text.now c.line_len-end.result c.requires c.line_len-end.ensures c.if-end-text.true

pub returns-clause-lines : goal.returns-clause-lines
returns-clause-lines c =
    let text = c.args.text.now in
    let n = c.line_len-end.result in
    line_cut text n c.line_len-end.ensures (omega (arith, c.line_len-end.ensures.within))
    ∙ ap (λ (x : List ℕ). x ∷ lines (take (length text - (n + 1)) (drop (n + 1) text))) (sym c.without_return.ensures)
