use Rattle.fdp_plain.proofs.Ready.{change_ready, host_of}
use Rattle.fdp_plain.proofs.made.make.Goals as goal

pub make_completion-requires-clause-host : goal.make_completion-requires-clause-host
make_completion-requires-clause-host c =
    (c.in-Host.host.number, c.in-Host.host.moment, host_of c.args.kept.now c.in-Host.host.queue c.in-Host.host.number c.in-Host.host.command c.in-Host.host.reply c.in-Host.host.moment (rw (← c.in-Host.is) c.requires.follows))

pub returns-in_ok-going-in-Started : goal.returns-in_ok-going-in-Started
returns-in_ok-going-in-Started c = change_ready c.args.kept.now _ _ _ c.requires.sound c.args.entry.now c.requires.follows (rw c.in-Started.is (rw c.new-standing.ensures at c.in_ok-going-in-Started.ensures))

pub returns-in-Placed : goal.returns-in-Placed
returns-in-Placed c = change_ready c.args.kept.now _ _ _ c.requires.sound c.args.entry.now c.requires.follows (rw c.in-Placed.is tt)

pub returns-in-Erased : goal.returns-in-Erased
returns-in-Erased c = change_ready c.args.kept.now _ _ _ c.requires.sound c.args.entry.now c.requires.follows (rw c.in-Erased.is tt)

pub returns-in-Retired : goal.returns-in-Retired
returns-in-Retired c = change_ready c.args.kept.now _ _ _ c.requires.sound c.args.entry.now c.requires.follows (rw c.in-Retired.is tt)

pub returns-in-Aside : goal.returns-in-Aside
returns-in-Aside c = change_ready c.args.kept.now _ _ _ c.requires.sound c.args.entry.now c.requires.follows (rw c.in-Aside.is tt)

pub returns-in-Shut : goal.returns-in-Shut
returns-in-Shut c = change_ready c.args.kept.now _ _ _ c.requires.sound c.args.entry.now c.requires.follows (rw c.in-Shut.is tt)

pub returns-in-Worn : goal.returns-in-Worn
returns-in-Worn c = change_ready c.args.kept.now _ _ _ c.requires.sound c.args.entry.now c.requires.follows (rw c.in-Worn.is tt)

pub returns-in-Reopened : goal.returns-in-Reopened
returns-in-Reopened c = change_ready c.args.kept.now _ _ _ c.requires.sound c.args.entry.now c.requires.follows (rw c.in-Reopened.is tt)
