use Rattle.std.proofs.Common.{[]}
use Rattle.fdp_keeper.proofs.Numbers.{empty-has, old-head, old-named}
use Rattle.fdp_keeper.proofs.targets.old_pages.Goals as goal

pub returns-clause-unit : goal.returns-clause-unit
returns-clause-unit c unit h = old-head unit 0 c.args.copies.now _ h c.requires.some

pub returns-clause-pages : goal.returns-clause-pages
returns-clause-pages c unit h = old-named unit _ c.put_old.new.set c.args.copies.now h (old-head unit 0 c.args.copies.now _ h c.requires.some) (c.put_old.ensures unit 0 [] h empty-has)
