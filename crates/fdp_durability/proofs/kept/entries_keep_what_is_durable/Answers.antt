use Rattle.fdp_durability.proofs.Durable.{durable-doubted, durable-less, durable-still}
use Rattle.fdp_durability.proofs.kept.entries_keep_what_is_durable.Goals as goal

pub returns-clause-nothing : goal.returns-clause-nothing
returns-clause-nothing c = durable-still

pub returns-clause-doubt : goal.returns-clause-doubt
returns-clause-doubt c = durable-doubted

pub returns-clause-less : goal.returns-clause-less
returns-clause-less c = durable-less
