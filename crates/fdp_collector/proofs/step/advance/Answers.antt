use Rattle.fdp_collector.proofs.Steps.{step-ready}
use Rattle.fdp_collector.proofs.Stored.{step-stored}
use Rattle.fdp_collector.proofs.step.advance.Goals as goal

pub returns-clause-ready : goal.returns-clause-ready
returns-clause-ready g c =
    step-ready c.args.owners.now c.args.classes.now c.args.rg c.args.may_erase (record { passes = c.args.passes.now; units = c.args.units.now }) (record { passes = c.make_step.new.passes; units = c.make_step.new.units })
    (g.F.Flash.state c.args.flash.now) (g.F.Flash.state c.make_step.new.flash) c.make_step.result c.requires.ready c.make_step.ensures.step

pub returns-clause-stored : goal.returns-clause-stored
returns-clause-stored g c told =
    step-stored c.args.owners.now c.args.classes.now c.args.rg c.args.may_erase (record { passes = c.args.passes.now; units = c.args.units.now }) (record { passes = c.make_step.new.passes; units = c.make_step.new.units })
    (g.F.Flash.state c.args.flash.now) (g.F.Flash.state c.make_step.new.flash) c.make_step.result c.requires.ready c.requires.flash told (c.requires.stored told) c.make_step.ensures.step
