use Rattle.std.proofs.Common.{◌∙◌, ap}
use Rattle.fdp_rules.specs.Room.{stored_where}
use Rattle.fdp_tables.specs.State.{plain_of}
use Rattle.fdp_tables.proofs.Counting.{none_among}
use Rattle.fdp_tables.proofs.state.Kept.stored.Goals as goal

pub returns-clause-value : goal.returns-clause-value
returns-clause-value c =
    c.stored_outside.ensures.value ∙ ap (stored_where (plain_of c.args.self.now) c.args.rg) (λ i nsid lba. none_among nsid lba i)
