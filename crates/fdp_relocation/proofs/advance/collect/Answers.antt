use Rattle.std.proofs.Common.{ap, inl, not, refl}
use Rattle.fdp_keeper.specs.fdp_collector.declared.step.Step.TheVariants as steps
use Rattle.fdp_relocation.proofs.Ends.{collects-doubt, collects-move, steps-of, still-due}
use Rattle.fdp_relocation.proofs.Kept.{keeper-of}
use Rattle.fdp_relocation.proofs.advance.collect.Goals as goal

pub erase_settled-requires-clause-due : goal.erase_settled-requires-clause-due
erase_settled-requires-clause-due g c =
    let state = g.F.Flash.state in
    let b = c.args.book.now in
    let d = c.relocate.new.self in
    still-due b d (state c.args.flash.now) (state c.relocate.new.flash) c.args.rg _ _ c.relocate.ensures.run c.relocate.result c.in-EraseDue.is c.relocate.ensures.step

pub returns-in-ReadyToMove-clause-step : goal.returns-in-ReadyToMove-clause-step
returns-in-ReadyToMove-clause-step g c =
    let state = g.F.Flash.state in
    let b = c.args.book.now in
    let d = c.relocate.new.self in
    collects-move state b d c.args.keeper.now c.args.flash.now c.relocate.new.flash _ c.args.rg _ _ c.relocate.ensures.run c.move_saved.result c.relocate.result c.in-ReadyToMove.is c.relocate.ensures.step c.move_saved.ensures.step

pub returns-in-EraseDue-clause-step : goal.returns-in-EraseDue-clause-step
returns-in-EraseDue-clause-step g c =
    let state = g.F.Flash.state in
    let b = c.args.book.now in
    let d = c.relocate.new.self in
    collects-doubt state b d c.args.keeper.now c.args.flash.now c.relocate.new.flash _ c.args.rg _ _ c.relocate.ensures.run c.erase_settled.result c.relocate.result c.in-EraseDue.is c.relocate.ensures.step c.erase_settled.ensures.step

pub returns-in-Copied-clause-step : goal.returns-in-Copied-clause-step
returns-in-Copied-clause-step g c = (c.in-Copied.field-0, steps-of g.F.Flash.state c.args.book.now c.relocate.new.self c.args.keeper.now c.args.flash.now c.relocate.new.flash c.args.rg _ c.relocate.result (steps.Copied c.in-Copied.field-0) (ap not c.is_in_doubt.ensures) c.relocate.ensures.step c.relocate.ensures.run c.in-Copied.is)

pub returns-in-Copied-clause-keeper : goal.returns-in-Copied-clause-keeper
returns-in-Copied-clause-keeper g c =
    keeper-of c.args.book.now c.relocate.new.self _ c.args.keeper.now c.args.keeper.now c.relocate.ensures.step.longer refl c.requires.can.keeper

pub returns-in-Erased-clause-step : goal.returns-in-Erased-clause-step
returns-in-Erased-clause-step g c = (c.in-Erased.field-0, inl (steps-of g.F.Flash.state c.args.book.now c.relocate.new.self c.args.keeper.now c.args.flash.now c.relocate.new.flash c.args.rg _ c.relocate.result (steps.Erased c.in-Erased.field-0) (ap not c.is_in_doubt.ensures) c.relocate.ensures.step c.relocate.ensures.run c.in-Erased.is))

pub returns-in-Erased-clause-keeper : goal.returns-in-Erased-clause-keeper
returns-in-Erased-clause-keeper g c =
    keeper-of c.args.book.now c.relocate.new.self _ c.args.keeper.now c.args.keeper.now c.relocate.ensures.step.longer refl c.requires.can.keeper

pub returns-in-Starved-clause-step : goal.returns-in-Starved-clause-step
returns-in-Starved-clause-step g c = steps-of g.F.Flash.state c.args.book.now c.relocate.new.self c.args.keeper.now c.args.flash.now c.relocate.new.flash c.args.rg _ c.relocate.result steps.Starved (ap not c.is_in_doubt.ensures) c.relocate.ensures.step c.relocate.ensures.run c.in-Starved.is

pub returns-in-Starved-clause-keeper : goal.returns-in-Starved-clause-keeper
returns-in-Starved-clause-keeper g c =
    keeper-of c.args.book.now c.relocate.new.self _ c.args.keeper.now c.args.keeper.now c.relocate.ensures.step.longer refl c.requires.can.keeper

pub returns-in-Fault-clause-step : goal.returns-in-Fault-clause-step
returns-in-Fault-clause-step g c = inl (c.in-Fault.field-0, steps-of g.F.Flash.state c.args.book.now c.relocate.new.self c.args.keeper.now c.args.flash.now c.relocate.new.flash c.args.rg _ c.relocate.result (steps.Fault c.in-Fault.field-0) (ap not c.is_in_doubt.ensures) c.relocate.ensures.step c.relocate.ensures.run c.in-Fault.is)

pub returns-in-Fault-clause-keeper : goal.returns-in-Fault-clause-keeper
returns-in-Fault-clause-keeper g c =
    keeper-of c.args.book.now c.relocate.new.self _ c.args.keeper.now c.args.keeper.now c.relocate.ensures.step.longer refl c.requires.can.keeper
