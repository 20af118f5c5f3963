use Rattle.std.proofs.Common.{◌<◌, subst}
use Rattle.fdp_base.specs.declared.config.DriveConfig.{DriveConfig}
use Rattle.fdp_core.specs.Answers.{Collects}
use Rattle.fdp_core_tests.specs.Played.{MayCollect, Played}
use Rattle.fdp_core_tests.proofs.player.Player.collect.Goals as goal

pub returns-then-has_spare-clause-collected : goal.returns-then-has_spare-clause-collected
returns-then-has_spare-clause-collected g c may = subst (λ (s : Played g.row.F.Denot). Collects g.F.Flash.state s.group c.collect.new.self c.args.rg c.collect.result) c.self.view_is c.collect.ensures.step

pub returns-then-has_spare-clause-nothing : goal.returns-then-has_spare-clause-nothing
returns-then-has_spare-clause-nothing g c none =
    absurd (none (subst (λ (s : Played g.row.F.Denot). MayCollect s.group c.args.rg) c.self.view_is
    (record { group_is = subst (λ (x : DriveConfig). c.args.rg < x.groups) c.config.ensures.config c.if-rg-config.true; spare = c.has_spare.ensures.0 c.if-has_spare.true })))
