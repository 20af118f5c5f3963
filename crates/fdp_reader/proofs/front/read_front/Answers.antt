use Rattle.std.proofs.Common.{sym}
use Rattle.fdp_reader.proofs.Comparing.{stops-end, stops-here}
use Rattle.fdp_reader.proofs.Walking.{walks-more, walks-none}
use Rattle.fdp_reader.proofs.front.read_front.Goals as goal

pub loop-line-init : goal.loop-line-init
loop-line-init c = walks-none c.args.config.now c.args.text.now

pub returns-in_default-step : goal.returns-in_default-step
returns-in_default-step c =
    record { walks = c.loop-line.invariant; stops = stops-here c.args.config.now c.loop-line.place c.loop-line.rest.now c.in-Some.line.now c.in-Some.after.now c.in-Some.ensures.line (sym c.in_default-step.ensures) }

pub loop-line-preserved : goal.loop-line-preserved
loop-line-preserved c =
    walks-more c.args.config.now c.args.text.now c.loop-line.place c.in-Some-step.next c.loop-line.rest.now c.in-Some.line.now c.in-Some.after.now c.loop-line.invariant c.in-Some.ensures.line.is_line c.in-Some.ensures.line.cut (sym c.in-Some-step.ensures)

pub returns : goal.returns
returns c = record { walks = c.loop-line.invariant; stops = stops-end c.args.config.now c.loop-line.place c.loop-line.rest.now c.in_default.ensures.line }
