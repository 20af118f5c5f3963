use Rattle.std.proofs.Common.{false, refl}
use Rattle.fdp_tables.proofs.Walks.{mapped_step}
use Rattle.fdp_plain_effects.proofs.again.clear_marks.Goals as goal

pub loop-mark-preserved : goal.loop-mark-preserved
loop-mark-preserved c = mapped_step (λ x. false) c.args.rows.now c.loop-mark.mark-index c.loop-mark.rows false false c.loop-mark-test.true c.loop-mark.invariant refl
