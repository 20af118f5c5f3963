use Rattle.std.proofs.Common.{◌∙◌, sym}
use Rattle.fdp_reader.proofs.Fronts.{apart-here, apart-left, apart-right, have-more, same-lines}
use Rattle.fdp_reader.proofs.lines.same_lines.Goals as goal

pub returns-in_default-next_line : goal.returns-in_default-next_line
returns-in_default-next_line c =
    same-lines c.args.left.now c.args.right.now c.loop-line.other.now c.loop-line.rest.now c.loop-line.invariant (apart-right c.loop-line.other.now c.loop-line.rest.now c.in_default-next_line.ensures.line)

pub returns-then-not-is_same : goal.returns-then-not-is_same
returns-then-not-is_same c =
    same-lines c.args.left.now c.args.right.now c.loop-line.other.now c.loop-line.rest.now c.loop-line.invariant
    (apart-here c.loop-line.other.now c.loop-line.rest.now c.in-Some.line.now c.in-Some.after.now c.in-Some-next_line.own.now c.in-Some-next_line.behind.now c.in-Some.ensures.line c.in-Some-next_line.ensures.line (sym c.is_same.ensures ∙ c.if-not-is_same.true))

pub loop-line-preserved : goal.loop-line-preserved
loop-line-preserved c =
    have-more c.args.left.now c.args.right.now c.loop-line.other.now c.loop-line.rest.now c.in-Some.line.now c.in-Some.after.now c.in-Some-next_line.own.now c.in-Some-next_line.behind.now c.loop-line.invariant c.in-Some.ensures.line c.in-Some-next_line.ensures.line
    (sym c.is_same.ensures ∙ c.if-not-is_same.false)

pub returns : goal.returns
returns c = same-lines c.args.left.now c.args.right.now c.loop-line.other.now c.loop-line.rest.now c.loop-line.invariant (apart-left c.loop-line.other.now c.loop-line.rest.now c.in_default.ensures.line)
