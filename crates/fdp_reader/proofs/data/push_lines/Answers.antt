use Rattle.std.proofs.Common.{◌-◌, ◌+◌, arith}
use Rattle.fdp_reader.specs.Forms.{form_of}
use Rattle.fdp_reader.proofs.Steps.{lines-end, lines-none, lines-step}
use Rattle.fdp_reader.proofs.data.push_lines.Goals as goal

pub returns-then-left-eq0 : goal.returns-then-left-eq0
returns-then-left-eq0 c = lines-none (form_of c.args.form) c.args.size (c.args.lines - c.loop.counter) c.loop.left c.loop.rest.now c.loop.into.items _ c.if-left-eq0.true c.loop.invariant

pub loop-preserved : goal.loop-preserved
loop-preserved c =
    rw (c.in_ok-push_piece.ensures, c.piece_len.ensures, c.behind.ensures, c.before-line.ensures, c.saturating_sub-left.ensures, c.after-rest.ensures)
    (lines-step (form_of c.args.form) c.args.size (c.args.lines - c.loop.counter) (c.args.lines - (c.loop.counter + 1)) c.loop.left c.loop.rest.now c.loop.into.items _ (omega arith) (omega arith) c.loop.invariant)

pub returns : goal.returns
returns c = lines-end (form_of c.args.form) c.args.size (c.args.lines - c.loop.counter) c.loop.left c.loop.rest.now c.loop.into.items _ (omega arith) c.loop.invariant
