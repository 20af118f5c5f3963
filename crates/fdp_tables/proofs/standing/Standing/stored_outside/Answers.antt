use Rattle.std.proofs.Common.{◌∙◌, ◌&&◌, ◌==◌, ap, not}
use Rattle.fdp_base.specs.Numbers.{is_among}
use Rattle.fdp_rules.specs.Room.{stored_where}
use Rattle.fdp_tables.specs.declared.state.Kept.{Kept}
use Rattle.fdp_tables.specs.State.{plain_of}
use Rattle.fdp_tables.proofs.standing.Standing.stored_outside.Goals as goal

pub returns-clause-value : goal.returns-clause-value
returns-clause-value c =
    c.stored_outside.ensures.value
    ∙ ap (λ (k : Kept). stored_where (plain_of k) c.args.rg (λ n lba. not (n == c.args.except && is_among c.args.slba c.args.count lba))) c.self.view_is
