use Rattle.std.proofs.Common.{sym}
use Rattle.fdp_keeper.proofs.Numbers.{none-left}
use Rattle.fdp_keeper.proofs.targets.last_pages.Goals as goal

pub returns-in-None : goal.returns-in-None
returns-in-None c = none-left c.args.copies.now (sym c.in-None.ensures.value)
