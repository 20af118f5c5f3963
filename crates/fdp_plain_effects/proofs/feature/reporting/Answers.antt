use Rattle.fdp_plain_effects.proofs.Features.{each_kind}
use Rattle.fdp_plain_effects.proofs.feature.reporting.Goals as goal

pub returns : goal.returns
returns c = each_kind _ c.chosen.ensures c.chosen-2.ensures c.chosen-3.ensures c.chosen-4.ensures c.chosen-5.ensures c.chosen-6.ensures
