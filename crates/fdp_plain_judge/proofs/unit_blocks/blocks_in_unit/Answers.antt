use Rattle.std.proofs.Common.{arith, subst}
use Rattle.fdp_tables.specs.State.{point_kept}
use Rattle.fdp_plain_judge.specs.Passes.{AreInUnit}
use Rattle.fdp_plain_judge.proofs.InUnit.{in_unit_next}
use Rattle.fdp_plain_judge.proofs.unit_blocks.blocks_in_unit.Goals as goal

pub loop-nsid-preserved : goal.loop-nsid-preserved
loop-nsid-preserved c =
    in_unit_next (point_kept c.args.kept.now) c.args.unit c.loop-nsid.nsid c.loop-nsid.blocks.items c.push_space.new.into.items (omega (arith, c.loop-nsid.auto.nsid)) c.loop-nsid.invariant c.in_ok-push_space.ensures

pub returns : goal.returns
returns c = subst (λ n. AreInUnit (point_kept c.args.kept.now) c.args.unit n c.loop-nsid.blocks.items) (omega (arith, c.loop-nsid.auto.nsid, c.loop-nsid.auto.nsid-end, c.loop-nsid-test.false)) c.loop-nsid.invariant
