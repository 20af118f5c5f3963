use Rattle.fdp_saving.proofs.Joined.{needed_calls, needed_says, needed_stops, unneeded_calls, unneeded_stops}
use Rattle.fdp_saving.proofs.saver.Saver.renew.Goals as goal

pub returns-then-wanted-clause-stops : goal.returns-then-wanted-clause-stops
returns-then-wanted-clause-stops g c d own tried drive says =
    needed_stops d c.args.wanted own tried _ _ _ _ c.if-wanted.true (c.checkpoint.ensures.stops d own tried drive says)

pub returns-then-wanted-clause-said : goal.returns-then-wanted-clause-said
returns-then-wanted-clause-said g c d own tried drive told says =
    needed_says d c.args.wanted _ own tried _ _ c.checkpoint.result c.if-wanted.true (c.checkpoint.ensures.said d own tried drive told says)

pub returns-then-wanted-clause-calls : goal.returns-then-wanted-clause-calls
returns-then-wanted-clause-calls g c = needed_calls c.args.wanted c.args.self.now c.args.summary.now _ _ c.checkpoint.result c.if-wanted.true c.checkpoint.ensures.calls

pub returns-else-wanted-clause-stops : goal.returns-else-wanted-clause-stops
returns-else-wanted-clause-stops g c d own tried drive says =
    unneeded_stops d c.args.wanted c.args.self.now own tried _ (g.F.Flash.state c.args.flash.now) (c.requires.sure c.if-wanted.false) drive.geometry c.requires.saver says

pub returns-else-wanted-clause-calls : goal.returns-else-wanted-clause-calls
returns-else-wanted-clause-calls g c = unneeded_calls c.args.wanted c.args.self.now c.args.summary.now (g.F.Flash.state c.args.flash.now) c.if-wanted.false
