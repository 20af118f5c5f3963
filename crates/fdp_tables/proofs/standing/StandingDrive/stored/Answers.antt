use Rattle.std.proofs.Common.{◌∙◌, ap}
use Rattle.fdp_rules.specs.Room.{stored}
use Rattle.fdp_tables.specs.declared.state.Kept.{Kept}
use Rattle.fdp_tables.specs.State.{plain_of}
use Rattle.fdp_tables.proofs.standing.StandingDrive.stored.Goals as goal

pub returns-clause-value : goal.returns-clause-value
returns-clause-value c = c.stored.ensures.value ∙ ap (λ (k : Kept). stored (plain_of k) c.args.rg) c.self.view_is
