use Rattle.std.proofs.Common.{arith, subst}
use Rattle.fdp_ranges.specs.Ranged.{IsRanged}
use Rattle.fdp_ranges.proofs.Each.{no-more, one-more}
use Rattle.fdp_ranges.proofs.entries.are_ranged.Goals as goal

pub loop-entry-preserved : goal.loop-entry-preserved
loop-entry-preserved c =
    one-more IsRanged c.args.entries.now c.loop-entry.entry-index c.entry-item.result (omega (arith, c.loop-entry-test.true)) c.loop-entry.invariant
    (subst IsRanged c.entry-item.is c.is_ranged.ensures)

pub returns : goal.returns
returns c = no-more IsRanged c.args.entries.now c.loop-entry.entry-index (omega (arith, c.loop-entry-test.false)) c.loop-entry.invariant
