use Rattle.fdp_core.proofs.Looping.{copied-may, copied-then, moved-may, moved-then, pass-failed, pass-made, pass-none, pass-starved}
use Rattle.fdp_core.proofs.group.Group.make_pass.Goals as goal
use Rattle.fdp_core.proofs.Outlasting.{outlasts-behind}

pub end_pass-requires : goal.end_pass-requires
end_pass-requires g c = record { may = copied-may g.F.Flash.state c.args.self.now c.advance.new.self c.args.rg c.in-Copied.ensures.old c.in-Copied.ensures.new c.requires.may c.in-Copied.ensures.collects }

pub returns-in-Copied-clause-step : goal.returns-in-Copied-clause-step
returns-in-Copied-clause-step g c = copied-then g.F.Flash.state c.args.self.now c.advance.new.self c.end_pass.new.self c.args.rg c.in-Copied.ensures.old c.in-Copied.ensures.new c.requires.may _ c.end_pass.ensures.step c.in-Copied.ensures.step c.in-Copied.ensures.collects

pub returns-in-Copied-clause-stops : goal.returns-in-Copied-clause-stops
returns-in-Copied-clause-stops g c = outlasts-behind g.F.Flash.state c.args.self.now c.advance.new.self c.end_pass.new.self c.in-Copied.ensures.stops c.end_pass.ensures.stops c.in-Copied.ensures.retains

pub end_pass-requires-in-Moved : goal.end_pass-requires-in-Moved
end_pass-requires-in-Moved g c = record { may = moved-may g.F.Flash.state c.args.self.now c.advance.new.self c.args.rg c.in-Moved.ensures.old c.in-Moved.ensures.new c.requires.may c.in-Moved.ensures.collects }

pub returns-in-Moved-clause-step : goal.returns-in-Moved-clause-step
returns-in-Moved-clause-step g c = moved-then g.F.Flash.state c.args.self.now c.advance.new.self c.end_pass-in-Moved.new.self c.args.rg c.in-Moved.ensures.old c.in-Moved.ensures.new c.requires.may _ c.end_pass-in-Moved.ensures.step c.in-Moved.ensures.step c.in-Moved.ensures.collects

pub returns-in-Moved-clause-stops : goal.returns-in-Moved-clause-stops
returns-in-Moved-clause-stops g c = outlasts-behind g.F.Flash.state c.args.self.now c.advance.new.self c.end_pass-in-Moved.new.self c.in-Moved.ensures.stops c.end_pass-in-Moved.ensures.stops c.in-Moved.ensures.retains

pub returns-in-Erased-clause-step : goal.returns-in-Erased-clause-step
returns-in-Erased-clause-step g c = pass-made g.F.Flash.state c.args.self.now c.advance.new.self c.args.rg c.in-Erased.ensures.old c.in-Erased.ensures.new c.requires.may c.in-Erased.ensures.step c.in-Erased.ensures.collects

pub returns-in-Nothing-clause-step : goal.returns-in-Nothing-clause-step
returns-in-Nothing-clause-step g c = pass-none g.F.Flash.state c.args.self.now c.advance.new.self c.args.rg c.in-Nothing.ensures.old c.in-Nothing.ensures.new c.requires.may c.in-Nothing.ensures.step c.in-Nothing.ensures.told

pub returns-in-Starved-clause-step : goal.returns-in-Starved-clause-step
returns-in-Starved-clause-step g c = pass-starved g.F.Flash.state c.args.self.now c.advance.new.self c.args.rg c.in-Starved.ensures.old c.in-Starved.ensures.new c.requires.may c.in-Starved.ensures.told c.in-Starved.ensures.step

pub returns-in-Fault-clause-step : goal.returns-in-Fault-clause-step
returns-in-Fault-clause-step g c = pass-failed g.F.Flash.state c.args.self.now c.advance.new.self c.args.rg c.in-Fault.ensures.old c.in-Fault.ensures.new c.requires.may c.in-Fault.ensures.step
