use Rattle.std.proofs.Common.{refl}
use Rattle.fdp_tables.proofs.Walks.{mapped_step}
use Rattle.fdp_plain_effects.proofs.feature.clear_references.Goals as goal

pub loop-reference-preserved : goal.loop-reference-preserved
loop-reference-preserved c = mapped_step (λ x. c.args.none) c.args.references.now c.loop-reference.reference-index c.loop-reference.references c.args.none c.args.none c.loop-reference-test.true c.loop-reference.invariant refl
