use Rattle.std.proofs.Common.{◌≤◌, sym, subst}
use Rattle.fdp_passes.specs.declared.lane.Lane.{Lane}
use Rattle.fdp_passes.specs.Room.{room_in}
use Rattle.fdp_collector.proofs.Live.{live-blank, live-copied, live-copied-run, live-fills, live-open, live-order, live-skipped, live-skipped-run, live-victim}
use Rattle.fdp_collector.proofs.Readied.{room-some}
use Rattle.fdp_collector.proofs.copy_step.copy_live.Goals as goal

pub open_page-to-requires-clause-room : goal.open_page-to-requires-clause-room
open_page-to-requires-clause-room g c =
    subst (λ (lane : Lane). 1 ≤ room_in c.args.passes.now c.args.units.now lane) (sym c.lane_of_owner-lane.ensures.value)
    (room-some (record { passes = c.args.passes.now; units = c.args.units.now }) c.args.owners.now c.args.classes.now c.args.rg c.args.from c.args.owner.now c.requires.ready c.requires.due c.requires.owned)

pub program-requires-clause-order : goal.program-requires-clause-order
program-requires-clause-order g c =
    live-blank (record { passes = c.args.passes.now; units = c.args.units.now }) (record { passes = c.open_page-to.new.passes; units = c.open_page-to.new.units }) c.args.owners.now c.args.classes.now c.args.rg c.args.from c.open_page-to.result c.args.owner.now c.lane_of_owner-lane.result
    c.lane_of_owner-lane.ensures.value c.requires.ready c.requires.due c.requires.owned c.lane_of_owner-lane.ensures.lane c.open_page-to.ensures
    (g.F.Flash.state c.args.flash.now) (g.F.Flash.state c.read_page.new.flash) _ _ c.requires.flash c.read_page.ensures.call (c.read_page.ensures.read c.if-not-read_page.false) (λ told. (c.requires.stored told).blank)

pub add_copy-requires-clause-unit : goal.add_copy-requires-clause-unit
add_copy-requires-clause-unit g c =
    (live-open (record { passes = c.args.passes.now; units = c.args.units.now }) (record { passes = c.open_page-to.new.passes; units = c.open_page-to.new.units }) c.args.owners.now c.args.classes.now c.args.rg c.args.from c.open_page-to.result c.args.owner.now c.lane_of_owner-lane.result
    c.lane_of_owner-lane.ensures.value c.requires.ready c.requires.due c.requires.owned c.lane_of_owner-lane.ensures.lane c.open_page-to.ensures).new_unit

pub add_copy-requires-clause-open : goal.add_copy-requires-clause-open
add_copy-requires-clause-open g c =
    live-fills (record { passes = c.args.passes.now; units = c.args.units.now }) (record { passes = c.open_page-to.new.passes; units = c.open_page-to.new.units }) c.args.owners.now c.args.classes.now c.args.rg c.args.from c.open_page-to.result c.args.owner.now c.lane_of_owner-lane.result
    c.lane_of_owner-lane.ensures.value c.requires.ready c.requires.due c.requires.owned c.lane_of_owner-lane.ensures.lane c.open_page-to.ensures

pub add_copy-requires-clause-order : goal.add_copy-requires-clause-order
add_copy-requires-clause-order g c =
    live-order (record { passes = c.args.passes.now; units = c.args.units.now }) (record { passes = c.open_page-to.new.passes; units = c.open_page-to.new.units }) c.args.owners.now c.args.classes.now c.args.rg c.args.from c.open_page-to.result c.args.owner.now c.lane_of_owner-lane.result
    c.lane_of_owner-lane.ensures.value c.requires.ready c.requires.due c.requires.owned c.lane_of_owner-lane.ensures.lane c.open_page-to.ensures

pub skip_page-requires-clause-open : goal.skip_page-requires-clause-open
skip_page-requires-clause-open g c =
    live-fills (record { passes = c.args.passes.now; units = c.args.units.now }) (record { passes = c.open_page-to.new.passes; units = c.open_page-to.new.units }) c.args.owners.now c.args.classes.now c.args.rg c.args.from c.open_page-to.result c.args.owner.now c.lane_of_owner-lane.result
    c.lane_of_owner-lane.ensures.value c.requires.ready c.requires.due c.requires.owned c.lane_of_owner-lane.ensures.lane c.open_page-to.ensures

pub skip_page-requires-clause-pass : goal.skip_page-requires-clause-pass
skip_page-requires-clause-pass g c =
    live-victim (record { passes = c.args.passes.now; units = c.args.units.now }) (record { passes = c.open_page-to.new.passes; units = c.open_page-to.new.units }) c.args.owners.now c.args.classes.now c.args.rg c.args.from c.open_page-to.result c.args.owner.now c.lane_of_owner-lane.result
    c.lane_of_owner-lane.ensures.value c.requires.ready c.requires.due c.requires.owned c.lane_of_owner-lane.ensures.lane c.open_page-to.ensures

pub returns-in-Done-clause-step : goal.returns-in-Done-clause-step
returns-in-Done-clause-step g c may_erase =
    live-copied (record { passes = c.args.passes.now; units = c.args.units.now }) (record { passes = c.open_page-to.new.passes; units = c.open_page-to.new.units }) c.args.owners.now c.args.classes.now c.args.rg c.args.from c.open_page-to.result c.args.owner.now c.lane_of_owner-lane.result
    c.lane_of_owner-lane.ensures.value c.requires.ready c.requires.due c.requires.owned c.lane_of_owner-lane.ensures.lane c.open_page-to.ensures
    (g.F.Flash.state c.args.flash.now) (g.F.Flash.state c.read_page.new.flash) _ _ c.requires.flash c.read_page.ensures.call (c.read_page.ensures.read c.if-not-read_page.false)
    (g.F.Flash.state c.program.new.self) (record { passes = c.add_copy.new.passes; units = c.add_copy.new.units }) c.in-Done.ensures.call c.encode-spare.ensures c.in-Done.ensures.answer c.add_copy.ensures

pub returns-in-Done-clause-run : goal.returns-in-Done-clause-run
returns-in-Done-clause-run g c may_erase =
    live-copied-run (record { passes = c.args.passes.now; units = c.args.units.now }) (record { passes = c.open_page-to.new.passes; units = c.open_page-to.new.units }) c.args.owners.now c.args.classes.now c.args.rg c.args.from c.open_page-to.result c.args.owner.now c.lane_of_owner-lane.result
    c.lane_of_owner-lane.ensures.value c.requires.ready c.requires.due c.requires.owned c.lane_of_owner-lane.ensures.lane c.open_page-to.ensures
    (g.F.Flash.state c.args.flash.now) (g.F.Flash.state c.read_page.new.flash) _ _ c.requires.flash c.read_page.ensures.call (c.read_page.ensures.read c.if-not-read_page.false)
    (g.F.Flash.state c.program.new.self) (record { passes = c.add_copy.new.passes; units = c.add_copy.new.units }) c.in-Done.ensures.call c.encode-spare.ensures may_erase (λ told. (c.requires.stored told).blank) c.in-Done.ensures.answer

pub returns-in-Failed-clause-step : goal.returns-in-Failed-clause-step
returns-in-Failed-clause-step g c may_erase =
    live-skipped (record { passes = c.args.passes.now; units = c.args.units.now }) (record { passes = c.open_page-to.new.passes; units = c.open_page-to.new.units }) c.args.owners.now c.args.classes.now c.args.rg c.args.from c.open_page-to.result c.args.owner.now c.lane_of_owner-lane.result
    c.lane_of_owner-lane.ensures.value c.requires.ready c.requires.due c.requires.owned c.lane_of_owner-lane.ensures.lane c.open_page-to.ensures
    (g.F.Flash.state c.args.flash.now) (g.F.Flash.state c.read_page.new.flash) _ _ c.requires.flash c.read_page.ensures.call (c.read_page.ensures.read c.if-not-read_page.false)
    (g.F.Flash.state c.program.new.self) (record { passes = c.skip_page.new.passes; units = c.skip_page.new.units }) c.in-Failed.ensures.call c.encode-spare.ensures c.in-Failed.ensures.answer c.skip_page.ensures

pub returns-in-Failed-clause-run : goal.returns-in-Failed-clause-run
returns-in-Failed-clause-run g c may_erase =
    live-skipped-run (record { passes = c.args.passes.now; units = c.args.units.now }) (record { passes = c.open_page-to.new.passes; units = c.open_page-to.new.units }) c.args.owners.now c.args.classes.now c.args.rg c.args.from c.open_page-to.result c.args.owner.now c.lane_of_owner-lane.result
    c.lane_of_owner-lane.ensures.value c.requires.ready c.requires.due c.requires.owned c.lane_of_owner-lane.ensures.lane c.open_page-to.ensures
    (g.F.Flash.state c.args.flash.now) (g.F.Flash.state c.read_page.new.flash) _ _ c.requires.flash c.read_page.ensures.call (c.read_page.ensures.read c.if-not-read_page.false)
    (g.F.Flash.state c.program.new.self) (record { passes = c.skip_page.new.passes; units = c.skip_page.new.units }) c.in-Failed.ensures.call c.encode-spare.ensures may_erase (λ told. (c.requires.stored told).blank) c.in-Failed.ensures.answer
