use Rattle.std.proofs.Common.{arith}
use Rattle.fdp_base.specs.declared.command.Range.{Range}
use Rattle.fdp_trace.specs.Typed.{IsTypedRange}
use Rattle.fdp_ranges.proofs.Each.{no-more, one-more}
use Rattle.fdp_ranges.proofs.commands.are_ranges.Goals as goal

-- what the loop reads past the end
abbrev none : Range
none = record { slba = 0; length = 0 }

pub loop-range-preserved : goal.loop-range-preserved
loop-range-preserved c = one-more IsTypedRange c.args.ranges.now c.loop-range.range-index none (omega (arith, c.loop-range-test.true)) c.loop-range.invariant c.is_range.ensures

pub returns : goal.returns
returns c = no-more IsTypedRange c.args.ranges.now c.loop-range.range-index (omega (arith, c.loop-range-test.false)) c.loop-range.invariant
