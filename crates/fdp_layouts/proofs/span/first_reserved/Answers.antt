use Rattle.std.proofs.Common.{length, arith, sym, ◌∙◌}
use Rattle.fdp_layouts.specs.Frame.{is_stray}
use Rattle.fdp_layouts.proofs.Search.{goes_on}
use Rattle.fdp_layouts.proofs.span.first_reserved.Goals as goal

pub loop-i-preserved : goal.loop-i-preserved
loop-i-preserved c = goes_on (is_stray c.args.fields.now c.args.bytes.now) c.loop-i.i (length c.args.bytes.now) _ (omega arith) (sym c.is_stray.ensures ∙ c.if-is_stray.false) c.loop-i.invariant
