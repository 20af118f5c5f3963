use Rattle.std.proofs.Common.{nat_lt}
use Rattle.fdp_rules.specs.LogPages.{usage_of}
use Rattle.fdp_rules.specs.Room.{handles_in_force}
use Rattle.fdp_printing.proofs.Told.{numbers_none, usage_more}
use Rattle.fdp_printing.proofs.telling.usages_of.Goals as goal

pub loop-ruh-init : goal.loop-ruh-init
loop-ruh-init g c = numbers_none (usage_of (g.T.Telling.point c.args.drive.now).state) c.new-usages.result.items c.new-usages.ensures.items

pub loop-ruh-preserved : goal.loop-ruh-preserved
loop-ruh-preserved g c =
    let p = g.T.Telling.point c.args.drive.now in
    usage_more (usage_of p.state) c.loop-ruh.ruh (nat_lt c.loop-ruh.ruh (handles_in_force (g.T.Telling.config c.args.drive.now) p.state)) c.in-Some.usage c.loop-ruh.usages.items c.push.new.self.items c.loop-ruh.invariant c.in-Some.ensures c.in_ok-push.ensures.items
