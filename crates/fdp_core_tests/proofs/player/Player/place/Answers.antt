use Rattle.std.proofs.Common.{ap}
use Rattle.fdp_core_tests.specs.Played.{Played}
use Rattle.fdp_core_tests.proofs.GoingOn.{placed-at}
use Rattle.fdp_core_tests.proofs.player.Player.place.Goals as goal

pub returns-in-Some-clause-placed : goal.returns-in-Some-clause-placed
returns-in-Some-clause-placed g c = λ ticket going may is.
    placed-at g.F.Flash.state c.args.self.now c.self.inside.group c.place.new.self c.args.queue c.in-Some.ticket ticket going c.place.result c.placed.result
    (ap (λ (s : Played g.row.F.Denot). s.group) c.self.view_is) c.in-Some.ensures may is c.place.ensures.step c.placed.ensures

pub returns-in-None-clause-placed : goal.returns-in-None-clause-placed
returns-in-None-clause-placed g c = λ ticket going may is. absurd (c.in-None.ensures ticket may)
