use Rattle.fdp_durability.proofs.Durable.{durable-erase, durable-program, durable-used}
use Rattle.fdp_durability.proofs.kept.flash_calls_keep_what_is_durable.Goals as goal

pub returns-clause-program : goal.returns-clause-program
returns-clause-program c = durable-program

pub returns-clause-erase : goal.returns-clause-erase
returns-clause-erase c = durable-erase

pub returns-clause-used : goal.returns-clause-used
returns-clause-used c = durable-used
