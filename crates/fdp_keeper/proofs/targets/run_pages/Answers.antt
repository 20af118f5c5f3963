use Rattle.std.proofs.Common.{[]}
use Rattle.fdp_keeper.proofs.Numbers.{empty-has, new-taken}
use Rattle.fdp_keeper.proofs.targets.run_pages.Goals as goal

pub returns-clause-pages : goal.returns-clause-pages
returns-clause-pages c = new-taken c.args.unit c.put_new.result c.put_new.new.set c.args.copies.now (c.put_new.ensures.all c.requires.lie) c.requires.lie (c.put_new.ensures.set [] empty-has)
