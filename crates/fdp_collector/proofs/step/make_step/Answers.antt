use Rattle.fdp_collector.specs.Ready.{Relocation}
use Rattle.fdp_collector.proofs.Readied.{emptied-unit, emptied-unused, erase-run, unit-of-flash}
use Rattle.fdp_collector.proofs.step.make_step.Goals as goal

pub next_step-requires-clause-victim : goal.next_step-requires-clause-victim
next_step-requires-clause-victim g c pass e = (c.requires.ready.victim pass e).is_unit

pub erase_victim-requires-clause-unit : goal.erase_victim-requires-clause-unit
erase_victim-requires-clause-unit g c = (emptied-unit (record { passes = c.args.passes.now; units = c.args.units.now }) c.args.owners.now c.args.classes.now c.args.rg c.in-Erase.unit c.requires.ready c.in-Erase.ensures.0).is_unit

pub erase_victim-requires-clause-empty : goal.erase_victim-requires-clause-empty
erase_victim-requires-clause-empty g c =
    let s : Relocation = record { passes = c.args.passes.now; units = c.args.units.now } in
    emptied-unused s c.args.owners.now c.args.classes.now c.args.rg c.in-Erase.unit c.requires.ready
    (emptied-unit s c.args.owners.now c.args.classes.now c.args.rg c.in-Erase.unit c.requires.ready c.in-Erase.ensures.0).is_unit
    c.in-Erase.ensures.2

pub erase_victim-requires-clause-place : goal.erase_victim-requires-clause-place
erase_victim-requires-clause-place g c =
    unit-of-flash c.args.units.now _ c.in-Erase.unit c.requires.flash
    (emptied-unit (record { passes = c.args.passes.now; units = c.args.units.now }) c.args.owners.now c.args.classes.now c.args.rg c.in-Erase.unit c.requires.ready c.in-Erase.ensures.0).is_unit

pub returns-in-Copy-clause-step : goal.returns-in-Copy-clause-step
returns-in-Copy-clause-step g c = c.copy_next.ensures.step c.args.may_erase

pub returns-in-Copy-clause-run : goal.returns-in-Copy-clause-run
returns-in-Copy-clause-run g c = c.copy_next.ensures.run c.args.may_erase

pub returns-in-Done-clause-run : goal.returns-in-Done-clause-run
returns-in-Done-clause-run g c =
    erase-run c.args.units.now c.args.owners.now c.args.may_erase c.in-Erase.unit (g.F.Flash.state c.args.flash.now) (g.F.Flash.state c.erase_victim.new.flash) c.if-may_erase.true
    (emptied-unit (record { passes = c.args.passes.now; units = c.args.units.now }) c.args.owners.now c.args.classes.now c.args.rg c.in-Erase.unit c.requires.ready c.in-Erase.ensures.0).is_unit c.in-Erase.ensures.2 c.erase_victim.ensures.run

pub returns-in-Failed-clause-run : goal.returns-in-Failed-clause-run
returns-in-Failed-clause-run g c =
    erase-run c.args.units.now c.args.owners.now c.args.may_erase c.in-Erase.unit (g.F.Flash.state c.args.flash.now) (g.F.Flash.state c.erase_victim.new.flash) c.if-may_erase.true
    (emptied-unit (record { passes = c.args.passes.now; units = c.args.units.now }) c.args.owners.now c.args.classes.now c.args.rg c.in-Erase.unit c.requires.ready c.in-Erase.ensures.0).is_unit c.in-Erase.ensures.2 c.erase_victim.ensures.run
