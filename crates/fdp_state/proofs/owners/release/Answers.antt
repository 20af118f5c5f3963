use Rattle.std.proofs.Common.{◌∙◌}
use Rattle.fdp_state.proofs.Owning.{claimed-none}
use Rattle.fdp_state.proofs.owners.release.Goals as goal

pub returns-in-None : goal.returns-in-None
returns-in-None c pages block h was = claimed-none pages c.args.owners.now.items block (was ∙ c.in-None.is) h
