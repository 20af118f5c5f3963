use Rattle.fdp_keeper.proofs.PageSets.{page-put}
use Rattle.fdp_keeper.proofs.page_set.put.Goals as goal

pub returns : goal.returns
returns c pages next h low = page-put c.args.set.now pages c.args.page next c.requires h low
