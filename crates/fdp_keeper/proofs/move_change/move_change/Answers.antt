use Rattle.std.proofs.Common.{refl}
use Rattle.fdp_keeper.proofs.Numbers.{move-limits}
use Rattle.fdp_keeper.proofs.move_change.move_change.Goals as goal

pub returns-clause-change : goal.returns-clause-change
returns-clause-change c = record {
  victim = c.old_pages-victim.result;
  first = c.new_pages-targets.result.first;
  second = c.new_pages-targets.result.second;
  change_is = refl;
  old = c.old_pages-victim.ensures.pages c.requires.named.unit c.requires.named.order;
  new = c.new_pages-targets.ensures;
  unit = c.old_pages-victim.ensures.unit;
}

pub returns-clause-limits : goal.returns-clause-limits
returns-clause-limits c =
    move-limits c.old_pages-victim.result c.new_pages-targets.result.first c.new_pages-targets.result.second c.args.copies.now c.args.ruhs.now c.requires.each c.requires.named.some c.requires.named.few (c.old_pages-victim.ensures.pages c.requires.named.unit c.requires.named.order) c.new_pages-targets.ensures
