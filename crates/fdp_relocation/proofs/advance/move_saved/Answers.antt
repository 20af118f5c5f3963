use Rattle.std.proofs.Common.{◌≡◌, ◌∙◌, sym, subst}
use Rattle.fdp_relocation.specs.Collected.{Moves, Stage}
use Rattle.fdp_relocation.proofs.Ends.{move-epoch, move-keeper, move-stored, moves-of}
use Rattle.fdp_relocation.proofs.Storing.{move-geometry}
use Rattle.fdp_keeper.specs.fdp_saving.declared.saved.Saved.{Saved}
use Rattle.fdp_keeper.specs.fdp_saving.declared.saved.Saved.TheVariants as saved
use Rattle.fdp_relocation.proofs.advance.move_saved.Goals as goal

pub returns-in-Done-clause-step : goal.returns-in-Done-clause-step
returns-in-Done-clause-step g c =
    let state = g.F.Flash.state in
    let old : Stage g.row.F.Denot = record { book = c.args.book.now; keeper = c.args.keeper.now; flash = c.args.flash.now } in
    let new : Stage g.row.F.Denot = record { book = c.save_move.new.book; keeper = c.save_move.new.self; flash = c.save_move.new.flash } in
    let answer = c.save_move.result in
    let h : Moves state old new c.args.rg answer = moves-of state old new c.args.rg answer c.save_move.ensures.none c.save_move.ensures.some c.requires.due c.save_move.ensures.moved in
    subst (λ (x : Saved). Moves state old new c.args.rg x) c.in-Done.is h

pub returns-in-Done-clause-stored : goal.returns-in-Done-clause-stored
returns-in-Done-clause-stored g c =
    let state = g.F.Flash.state in
    let old : Stage g.row.F.Denot = record { book = c.args.book.now; keeper = c.args.keeper.now; flash = c.args.flash.now } in
    let new : Stage g.row.F.Denot = record { book = c.save_move.new.book; keeper = c.save_move.new.self; flash = c.save_move.new.flash } in
    let answer = c.save_move.result in
    let h : Moves state old new c.args.rg answer = moves-of state old new c.args.rg answer c.save_move.ensures.none c.save_move.ensures.some c.requires.due c.save_move.ensures.moved in
    move-stored state old new c.args.rg answer h c.known.ensures.units c.requires.can.geometry c.requires.said c.requires.stored

pub returns-in-Done-clause-keeper : goal.returns-in-Done-clause-keeper
returns-in-Done-clause-keeper g c =
    let state = g.F.Flash.state in
    let old : Stage g.row.F.Denot = record { book = c.args.book.now; keeper = c.args.keeper.now; flash = c.args.flash.now } in
    let new : Stage g.row.F.Denot = record { book = c.save_move.new.book; keeper = c.save_move.new.self; flash = c.save_move.new.flash } in
    let answer = c.save_move.result in
    let h : Moves state old new c.args.rg answer = moves-of state old new c.args.rg answer c.save_move.ensures.none c.save_move.ensures.some c.requires.due c.save_move.ensures.moved in
    move-keeper state old new c.args.rg answer h c.requires.can.keeper

pub returns-in-Done-clause-epoch : goal.returns-in-Done-clause-epoch
returns-in-Done-clause-epoch g c =
    let state = g.F.Flash.state in
    let old : Stage g.row.F.Denot = record { book = c.args.book.now; keeper = c.args.keeper.now; flash = c.args.flash.now } in
    let new : Stage g.row.F.Denot = record { book = c.save_move.new.book; keeper = c.save_move.new.self; flash = c.save_move.new.flash } in
    let answer = c.save_move.result in
    let h : Moves state old new c.args.rg answer = moves-of state old new c.args.rg answer c.save_move.ensures.none c.save_move.ensures.some c.requires.due c.save_move.ensures.moved in
    move-epoch state old new c.args.rg answer h

pub returns-in-Done-clause-geometry : goal.returns-in-Done-clause-geometry
returns-in-Done-clause-geometry g c =
    let state = g.F.Flash.state in
    let old : Stage g.row.F.Denot = record { book = c.args.book.now; keeper = c.args.keeper.now; flash = c.args.flash.now } in
    let new : Stage g.row.F.Denot = record { book = c.save_move.new.book; keeper = c.save_move.new.self; flash = c.save_move.new.flash } in
    let answer = c.save_move.result in
    let h : Moves state old new c.args.rg answer = moves-of state old new c.args.rg answer c.save_move.ensures.none c.save_move.ensures.some c.requires.due c.save_move.ensures.moved in
    move-geometry state old new c.args.rg answer h.saved

pub returns-in-Doubtful-clause-step : goal.returns-in-Doubtful-clause-step
returns-in-Doubtful-clause-step g c =
    let state = g.F.Flash.state in
    let old : Stage g.row.F.Denot = record { book = c.args.book.now; keeper = c.args.keeper.now; flash = c.args.flash.now } in
    let new : Stage g.row.F.Denot = record { book = c.save_move.new.book; keeper = c.save_move.new.self; flash = c.save_move.new.flash } in
    let answer = c.save_move.result in
    let h : Moves state old new c.args.rg answer = moves-of state old new c.args.rg answer c.save_move.ensures.none c.save_move.ensures.some c.requires.due c.save_move.ensures.moved in
    (answer, (λ same. apart (sym c.in-Doubtful.is ∙ same)), h) where
      apart : saved.Doubtful c.in-Doubtful.moment ≡ saved.Done → ⊥
      apart e = cc

pub returns-in-Doubtful-clause-stored : goal.returns-in-Doubtful-clause-stored
returns-in-Doubtful-clause-stored g c =
    let state = g.F.Flash.state in
    let old : Stage g.row.F.Denot = record { book = c.args.book.now; keeper = c.args.keeper.now; flash = c.args.flash.now } in
    let new : Stage g.row.F.Denot = record { book = c.save_move.new.book; keeper = c.save_move.new.self; flash = c.save_move.new.flash } in
    let answer = c.save_move.result in
    let h : Moves state old new c.args.rg answer = moves-of state old new c.args.rg answer c.save_move.ensures.none c.save_move.ensures.some c.requires.due c.save_move.ensures.moved in
    move-stored state old new c.args.rg answer h c.known.ensures.units c.requires.can.geometry c.requires.said c.requires.stored

pub returns-in-Doubtful-clause-keeper : goal.returns-in-Doubtful-clause-keeper
returns-in-Doubtful-clause-keeper g c =
    let state = g.F.Flash.state in
    let old : Stage g.row.F.Denot = record { book = c.args.book.now; keeper = c.args.keeper.now; flash = c.args.flash.now } in
    let new : Stage g.row.F.Denot = record { book = c.save_move.new.book; keeper = c.save_move.new.self; flash = c.save_move.new.flash } in
    let answer = c.save_move.result in
    let h : Moves state old new c.args.rg answer = moves-of state old new c.args.rg answer c.save_move.ensures.none c.save_move.ensures.some c.requires.due c.save_move.ensures.moved in
    move-keeper state old new c.args.rg answer h c.requires.can.keeper

pub returns-in-Doubtful-clause-epoch : goal.returns-in-Doubtful-clause-epoch
returns-in-Doubtful-clause-epoch g c =
    let state = g.F.Flash.state in
    let old : Stage g.row.F.Denot = record { book = c.args.book.now; keeper = c.args.keeper.now; flash = c.args.flash.now } in
    let new : Stage g.row.F.Denot = record { book = c.save_move.new.book; keeper = c.save_move.new.self; flash = c.save_move.new.flash } in
    let answer = c.save_move.result in
    let h : Moves state old new c.args.rg answer = moves-of state old new c.args.rg answer c.save_move.ensures.none c.save_move.ensures.some c.requires.due c.save_move.ensures.moved in
    move-epoch state old new c.args.rg answer h

pub returns-in-Doubtful-clause-geometry : goal.returns-in-Doubtful-clause-geometry
returns-in-Doubtful-clause-geometry g c =
    let state = g.F.Flash.state in
    let old : Stage g.row.F.Denot = record { book = c.args.book.now; keeper = c.args.keeper.now; flash = c.args.flash.now } in
    let new : Stage g.row.F.Denot = record { book = c.save_move.new.book; keeper = c.save_move.new.self; flash = c.save_move.new.flash } in
    let answer = c.save_move.result in
    let h : Moves state old new c.args.rg answer = moves-of state old new c.args.rg answer c.save_move.ensures.none c.save_move.ensures.some c.requires.due c.save_move.ensures.moved in
    move-geometry state old new c.args.rg answer h.saved

pub returns-in-Unsaved-clause-step : goal.returns-in-Unsaved-clause-step
returns-in-Unsaved-clause-step g c =
    let state = g.F.Flash.state in
    let old : Stage g.row.F.Denot = record { book = c.args.book.now; keeper = c.args.keeper.now; flash = c.args.flash.now } in
    let new : Stage g.row.F.Denot = record { book = c.save_move.new.book; keeper = c.save_move.new.self; flash = c.save_move.new.flash } in
    let answer = c.save_move.result in
    let h : Moves state old new c.args.rg answer = moves-of state old new c.args.rg answer c.save_move.ensures.none c.save_move.ensures.some c.requires.due c.save_move.ensures.moved in
    (answer, (λ same. apart (sym c.in-Unsaved.is ∙ same)), h) where
      apart : saved.Unsaved c.in-Unsaved.moment ≡ saved.Done → ⊥
      apart e = cc

pub returns-in-Unsaved-clause-stored : goal.returns-in-Unsaved-clause-stored
returns-in-Unsaved-clause-stored g c =
    let state = g.F.Flash.state in
    let old : Stage g.row.F.Denot = record { book = c.args.book.now; keeper = c.args.keeper.now; flash = c.args.flash.now } in
    let new : Stage g.row.F.Denot = record { book = c.save_move.new.book; keeper = c.save_move.new.self; flash = c.save_move.new.flash } in
    let answer = c.save_move.result in
    let h : Moves state old new c.args.rg answer = moves-of state old new c.args.rg answer c.save_move.ensures.none c.save_move.ensures.some c.requires.due c.save_move.ensures.moved in
    move-stored state old new c.args.rg answer h c.known.ensures.units c.requires.can.geometry c.requires.said c.requires.stored

pub returns-in-Unsaved-clause-keeper : goal.returns-in-Unsaved-clause-keeper
returns-in-Unsaved-clause-keeper g c =
    let state = g.F.Flash.state in
    let old : Stage g.row.F.Denot = record { book = c.args.book.now; keeper = c.args.keeper.now; flash = c.args.flash.now } in
    let new : Stage g.row.F.Denot = record { book = c.save_move.new.book; keeper = c.save_move.new.self; flash = c.save_move.new.flash } in
    let answer = c.save_move.result in
    let h : Moves state old new c.args.rg answer = moves-of state old new c.args.rg answer c.save_move.ensures.none c.save_move.ensures.some c.requires.due c.save_move.ensures.moved in
    move-keeper state old new c.args.rg answer h c.requires.can.keeper

pub returns-in-Unsaved-clause-epoch : goal.returns-in-Unsaved-clause-epoch
returns-in-Unsaved-clause-epoch g c =
    let state = g.F.Flash.state in
    let old : Stage g.row.F.Denot = record { book = c.args.book.now; keeper = c.args.keeper.now; flash = c.args.flash.now } in
    let new : Stage g.row.F.Denot = record { book = c.save_move.new.book; keeper = c.save_move.new.self; flash = c.save_move.new.flash } in
    let answer = c.save_move.result in
    let h : Moves state old new c.args.rg answer = moves-of state old new c.args.rg answer c.save_move.ensures.none c.save_move.ensures.some c.requires.due c.save_move.ensures.moved in
    move-epoch state old new c.args.rg answer h

pub returns-in-Unsaved-clause-geometry : goal.returns-in-Unsaved-clause-geometry
returns-in-Unsaved-clause-geometry g c =
    let state = g.F.Flash.state in
    let old : Stage g.row.F.Denot = record { book = c.args.book.now; keeper = c.args.keeper.now; flash = c.args.flash.now } in
    let new : Stage g.row.F.Denot = record { book = c.save_move.new.book; keeper = c.save_move.new.self; flash = c.save_move.new.flash } in
    let answer = c.save_move.result in
    let h : Moves state old new c.args.rg answer = moves-of state old new c.args.rg answer c.save_move.ensures.none c.save_move.ensures.some c.requires.due c.save_move.ensures.moved in
    move-geometry state old new c.args.rg answer h.saved
