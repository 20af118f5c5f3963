use Rattle.std.proofs.Common.{arith}
use Rattle.fdp_core.proofs.Looping.{copied-less, may-move, moved-less, never-nothing, passing-copied, passing-first, passing-moved, rest-failed, rest-made, rest-starved}
use Rattle.fdp_core.proofs.Outlasting.{goes-behind, outlasts-behind, outlasts-none}
use Rattle.fdp_core.proofs.Isolating.{retains-none}
use Rattle.fdp_core.proofs.group.Group.end_pass.Goals as goal

pub loop-init : goal.loop-init
loop-init g c = record { passing = passing-first g.F.Flash.state c.args.self.now c.args.rg c.requires.may; stops = outlasts-none g.F.Flash.state c.args.self.now; retains = retains-none c.args.self.now.book (g.F.Flash.state c.args.self.now.flash) }

pub advance-requires-clause-group : goal.advance-requires-clause-group
advance-requires-clause-group g c = c.loop.invariant.passing.may.group

pub advance-requires-clause-room : goal.advance-requires-clause-room
advance-requires-clause-room g c = let some = c.loop.invariant.passing.may.room in omega (arith, some)

pub advance-requires-clause-may_move : goal.advance-requires-clause-may_move
advance-requires-clause-may_move g c due = may-move c.loop.self.book c.args.rg c.loop.invariant.passing.may due

pub loop-preserved-in-Copied : goal.loop-preserved-in-Copied
loop-preserved-in-Copied g c =
    record {
      passing = passing-copied g.F.Flash.state c.args.self.now c.loop.self c.advance.new.self c.args.rg c.in-Copied.ensures.old c.in-Copied.ensures.new c.loop.invariant.passing c.in-Copied.ensures.step c.in-Copied.ensures.collects;
      stops = outlasts-behind g.F.Flash.state c.args.self.now c.loop.self c.advance.new.self c.loop.invariant.stops c.in-Copied.ensures.stops c.loop.invariant.retains;
      retains = goes-behind g.F.Flash.state c.args.self.now c.loop.self c.advance.new.self c.loop.invariant.stops c.loop.invariant.retains c.in-Copied.ensures.retains;
    }

pub loop-smaller-in-Copied : goal.loop-smaller-in-Copied
loop-smaller-in-Copied g c = copied-less g.F.Flash.state c.args.self.now c.loop.self c.advance.new.self c.args.rg c.in-Copied.ensures.old c.in-Copied.ensures.new c.loop.invariant.passing c.in-Copied.ensures.collects

pub loop-preserved : goal.loop-preserved
loop-preserved g c =
    record {
      passing = passing-moved g.F.Flash.state c.args.self.now c.loop.self c.advance.new.self c.args.rg c.in-Moved.ensures.old c.in-Moved.ensures.new c.loop.invariant.passing c.in-Moved.ensures.step c.in-Moved.ensures.collects;
      stops = outlasts-behind g.F.Flash.state c.args.self.now c.loop.self c.advance.new.self c.loop.invariant.stops c.in-Moved.ensures.stops c.loop.invariant.retains;
      retains = goes-behind g.F.Flash.state c.args.self.now c.loop.self c.advance.new.self c.loop.invariant.stops c.loop.invariant.retains c.in-Moved.ensures.retains;
    }

pub loop-smaller : goal.loop-smaller
loop-smaller g c = moved-less g.F.Flash.state c.args.self.now c.loop.self c.advance.new.self c.args.rg c.in-Moved.ensures.old c.in-Moved.ensures.new c.loop.invariant.passing c.in-Moved.ensures.collects

pub returns-in-Erased-clause-step : goal.returns-in-Erased-clause-step
returns-in-Erased-clause-step g c = rest-made g.F.Flash.state c.args.self.now c.loop.self c.advance.new.self c.args.rg c.in-Erased.ensures.old c.in-Erased.ensures.new c.loop.invariant.passing c.in-Erased.ensures.step c.in-Erased.ensures.collects

pub returns-in-Erased-clause-stops : goal.returns-in-Erased-clause-stops
returns-in-Erased-clause-stops g c = outlasts-behind g.F.Flash.state c.args.self.now c.loop.self c.advance.new.self c.loop.invariant.stops c.in-Erased.ensures.stops c.loop.invariant.retains

pub unreachable-requires : goal.unreachable-requires
unreachable-requires g c = never-nothing g.F.Flash.state c.args.self.now c.loop.self c.advance.new.self c.args.rg c.in-Nothing.ensures.old c.in-Nothing.ensures.new c.loop.invariant.passing c.in-Nothing.ensures.step

pub returns-in-Starved-clause-step : goal.returns-in-Starved-clause-step
returns-in-Starved-clause-step g c = rest-starved g.F.Flash.state c.args.self.now c.loop.self c.advance.new.self c.args.rg c.in-Starved.ensures.old c.in-Starved.ensures.new c.loop.invariant.passing c.in-Starved.ensures.told c.in-Starved.ensures.step

pub returns-in-Starved-clause-stops : goal.returns-in-Starved-clause-stops
returns-in-Starved-clause-stops g c = outlasts-behind g.F.Flash.state c.args.self.now c.loop.self c.advance.new.self c.loop.invariant.stops c.in-Starved.ensures.stops c.loop.invariant.retains

pub returns-in-Fault-clause-step : goal.returns-in-Fault-clause-step
returns-in-Fault-clause-step g c = rest-failed g.F.Flash.state c.args.self.now c.loop.self c.advance.new.self c.args.rg c.in-Fault.ensures.old c.in-Fault.ensures.new c.loop.invariant.passing c.in-Fault.ensures.step

pub returns-in-Fault-clause-stops : goal.returns-in-Fault-clause-stops
returns-in-Fault-clause-stops g c = outlasts-behind g.F.Flash.state c.args.self.now c.loop.self c.advance.new.self c.loop.invariant.stops c.in-Fault.ensures.stops c.loop.invariant.retains
