use Rattle.fdp_binary.proofs.Asking.{asked-is}
use Rattle.fdp_binary.proofs.asked.asked_of.Goals as goal

pub returns-clause-asked : goal.returns-clause-asked
returns-clause-asked c = asked-is c.args.admin c.args.entry.now c.find_kind.result c.find_kind.ensures
