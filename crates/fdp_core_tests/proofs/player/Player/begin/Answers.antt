use Rattle.std.proofs.Common.{◌<◌, length, arith, subst}
use Rattle.fdp_core.specs.Answers.{Starts}
use Rattle.fdp_core_tests.specs.Played.{Played}
use Rattle.fdp_core_tests.proofs.GoingOn.{noted-ticket}
use Rattle.fdp_core_tests.proofs.player.Player.begin.Goals as goal

pub returns-in-Going : goal.returns-in-Going
returns-in-Going g c =
    let step = c.in-Going.ensures.step in
    let row = c.requires.row in
    let size = c.self.invariant in
    let low : c.args.queue < length c.self.inside.noted.items = omega (arith, row, size) in (
      c.in-Going.ticket,
      subst (λ (s : Played g.row.F.Denot). Starts g.F.Flash.state s.group c.start.new.self c.args.queue s.next c.args.command c.in-Going.ticket) c.self.view_is step,
      noted-ticket c.self.inside.noted.items c.args.queue c.from.result c.self.inside.next _ c.of.result c.in-Going.ticket low c.from.ensures step.ticket_is c.of.ensures,
    )
