use Rattle.std.proofs.Common.{arith, ◌≡◌, take, drop, ◌++◌, ◌<◌, ◌∙◌, ℕ, List, [], length, refl, ap, sym, subst, inr}
use Rattle.fdp_base.specs.declared.entry.Entry.TheVariants as entries
use Rattle.fdp_base.specs.declared.status.TheConstants.Status as statuses
use Rattle.fdp_base.specs.Pattern.{HasBlock, payload_block}
use Rattle.fdp_relocation.specs.fdp_book.declared.next_page.NextPage.TheVariants as next
use Rattle.fdp_relocation.specs.fdp_book.Book.{BookSeen, point_in, state_in}
use Rattle.fdp_relocation.specs.fdp_book.Shutting.{ShutsAndEnds}
use Rattle.fdp_relocation.specs.fdp_book.Steps as book
use Rattle.fdp_relocation.specs.fdp_book.Tickets.{ComesTo, IsNextSpot, IsTicketOf}
use Rattle.fdp_calls.specs.Calls.{FailedAt}
use Rattle.fdp_calls.specs.Media.{IsProgrammedTo}
use Rattle.fdp_calls.proofs.Made.{failed-last}
use Rattle.fdp_core.specs.Answers.{EndsInPlacing, FailsToPlace, Places}
use Rattle.fdp_core.specs.Seen.{Seen}
use Rattle.fdp_core.proofs.Places.{places-last, places-more, places-page, shut-follows}
use Rattle.fdp_core.proofs.Placing.{asked-as, filled-buffer, next-block, sound-placed, sound-shut, spot-begun}
use Rattle.fdp_core.proofs.Sound.{begun}
use Rattle.fdp_flash.specs.declared.cell.Cell.TheVariants.{Whole}
use Rattle.fdp_flash.specs.Layout.{page_number}
use Rattle.fdp_loading.specs.fdp_isolation.Laned.{IsKnown}
use Rattle.fdp_loading.proofs.fdp_ledger.Blank.{emptied-placed, emptied-shut}
use Rattle.fdp_rules.specs.PlainState.{Going}
use Rattle.fdp_rules.specs.Step.{IsHandle}
use Rattle.fdp_core.proofs.group.Group.place_at.Given.{Over}
use Rattle.fdp_core.proofs.Apart.{safe-now}
use Rattle.fdp_core.proofs.group.Group.place_at.Goals as goal
use Rattle.fdp_core.proofs.group.Group.place_at.Goals.{then-last, else-last}
use Rattle.fdp_relocation.specs.fdp_keeper.Keeper.{CanSave, KeeperSeen, KeepsEntry}
use Rattle.fdp_loading.specs.fdp_ledger.Calls.{FailsToProgram}
use Rattle.fdp_flash.specs.FlashState.{FlashState}
use Rattle.fdp_loading.specs.fdp_survival.Books.{IsInOrder}
use Rattle.fdp_core.specs.Sound.{IsSound, IsWhole}
use Rattle.fdp_core.specs.Stops.{OutlastsStops}
use Rattle.fdp_relocation.specs.fdp_saving.declared.saved.Saved.{Saved}
use Rattle.fdp_relocation.specs.fdp_book.declared.write_place.WritePlace.{WritePlace}
use Rattle.fdp_core.proofs.Pages.{fails-to-place, page-kept, page-stops, shut-stops, shut-whole}
use Rattle.fdp_loading.proofs.fdp_survival.Steps.{at-unplaced}

pub program-programmed-requires-clause-payload : goal.program-programmed-requires-clause-payload
program-programmed-requires-clause-payload g c =
    let ticket = c.requires.ticket in
    let here = subst (λ (s : Seen g.row.F.Denot). IsTicketOf (state_in s.book) c.args.ticket ticket.going) (sym c.self.view_is) ticket.ticket_is in
    let comes = subst (λ (s : Seen g.row.F.Denot). ComesTo s.book c.args.ticket ticket.going (next.At c.args.spot c.args.index c.args.spare.now)) (sym c.self.view_is) (c.requires.next ticket.going ticket.ticket_is) in
    subst (λ (n : ℕ). HasBlock n c.payload-payload.result.now c.args.index) (ap length (sym c.deref_mut.ensures.value))
    (next-block c.self.inside.book c.self.inside.block.items c.args.ticket ticket.going c.payload-payload.result.now c.args.index
    (subst (λ (s : Seen g.row.F.Denot). IsInOrder s.book) (sym c.self.view_is) c.can_save.ensures.order).known.orderly c.self.invariant.sound.buffer here ticket.asked comes.1 (λ w write. c.payload-payload.ensures ticket.going w here write))

pub program-programmed-requires-clause-order : goal.program-programmed-requires-clause-order
program-programmed-requires-clause-order g c told =
    let ticket = c.requires.ticket in
    let comes = subst (λ (s : Seen g.row.F.Denot). ComesTo s.book c.args.ticket ticket.going (next.At c.args.spot c.args.index c.args.spare.now)) (sym c.self.view_is) (c.requires.next ticket.going ticket.ticket_is) in
    let goes = comes.0 in
    let blank = (c.self.invariant.sound.stored told).blank c.args.spot.unit goes.is_unit goes.kept in
    let fresh = goes.fresh in
    record { blank = λ page from below. blank.blank page (omega (arith, from, fresh)) below }

pub place-last-requires-clause-next : goal.place-last-requires-clause-next
place-last-requires-clause-next g c going =
    subst (λ (b : BookSeen). IsTicketOf (state_in b) c.args.ticket going → IsNextSpot b c.args.ticket going c.args.spot) (sym c.begin.ensures)
    (λ here. spot-begun c.self.inside.book c.args.ticket going c.args.spot
    (subst (λ (s : Seen g.row.F.Denot). IsTicketOf (state_in s.book) c.args.ticket going → IsNextSpot s.book c.args.ticket going c.args.spot) (sym c.self.view_is) (λ is. (c.requires.next going is).0) here))

pub end_shut-done-requires-clause-next : goal.end_shut-done-requires-clause-next
end_shut-done-requires-clause-next g c going =
    subst (λ (b : BookSeen). IsTicketOf (state_in b) c.args.ticket going → IsNextSpot b c.args.ticket going c.args.spot) (sym c.begin-in-Err.ensures)
    (λ here. spot-begun c.self.inside.book c.args.ticket going c.args.spot
    (subst (λ (s : Seen g.row.F.Denot). IsTicketOf (state_in s.book) c.args.ticket going → IsNextSpot s.book c.args.ticket going c.args.spot) (sym c.self.view_is) (λ is. (c.requires.next going is).0) here))

-- the place of a write is that of the one that is going
shut-as : (b : BookSeen) (k l : KeeperSeen) (f n : FlashState) (g : Going) (place : WritePlace) (answer : Saved) → place ≡ record { rg = g.rg; ruh = g.ruh } → KeepsEntry b (entries.Shut (record { rg = place.rg; ruh = place.ruh })) k l f n answer → KeepsEntry b (entries.Shut (record { rg = g.rg; ruh = g.ruh })) k l f n answer
shut-as b k l f n g place answer same h = subst (λ (x : WritePlace). KeepsEntry b (entries.Shut (record { rg = x.rg; ruh = x.ruh })) k l f n answer) same h

-- ---- it was programmed

pub invariant_of-self : goal.invariant_of-self
invariant_of-self g c =
    let old = c.self.inside in
    let ticket = c.requires.ticket in
    let order = subst (λ (s : Seen g.row.F.Denot). IsInOrder s.book) (sym c.self.view_is) c.can_save.ensures.order in
    let here = subst (λ (s : Seen g.row.F.Denot). IsTicketOf (state_in s.book) c.args.ticket ticket.going) (sym c.self.view_is) ticket.ticket_is in
    let comes = subst (λ (s : Seen g.row.F.Denot). ComesTo s.book c.args.ticket ticket.going (next.At c.args.spot c.args.index c.args.spare.now)) (sym c.self.view_is) (c.requires.next ticket.going ticket.ticket_is) in
    let placed = subst (λ (b : BookSeen). IsTicketOf (state_in b) c.args.ticket ticket.going → book.Places b c.place-last.new.self c.args.ticket ticket.going c.args.spot c.place-last.result) c.begin.ensures (c.place-last.ensures ticket.going) here in
    record {
      sound = sound-placed old.handed (g.F.Flash.state old.flash) (g.F.Flash.state c.program-programmed.new.flash) old.book c.place-last.new.self old.block.items _ c.args.ticket ticket.going c.args.spot c.args.index c.args.spare.now c.payload-payload.result.now c.place-last.result
          c.self.invariant.sound order.known c.known.ensures.led
          (record { ticket_is = here; next = comes.0; at = comes.1; spare_is = comes.2; carries = λ w write. c.payload-payload.ensures ticket.going w here write })
          (subst (λ (xs : List ℕ). IsProgrammedTo (g.F.Flash.state old.flash) (g.F.Flash.state c.program-programmed.new.flash) (page_number (g.F.Flash.state old.flash).geometry c.args.spot) (Whole c.args.spare.now (payload_block (length xs) c.payload-payload.result.now c.args.index))) c.deref_mut.ensures.value c.in-Ok.ensures.done)
          c.in-Ok.ensures.called
          (filled-buffer old.block.len old.block.items c.program-programmed.new.block (ap length (sym c.deref_mut.ensures.value) ∙ c.deref_mut.ensures.len) (c.program-programmed.ensures.size ∙ ap length c.deref_mut.ensures.value))
          placed;
      kept = page-kept g.F.Flash.state old.flash c.program-programmed.new.flash old.handed old.book c.place-last.new.self old.keeper old.block.items c.args.ticket ticket.going c.args.spot c.args.spare.now _ c.place-last.result order c.self.invariant comes.0 c.in-Ok.ensures.done c.program-programmed.ensures.stops placed here comes.2;
    }

pub returns-after-last-clause-step : goal.returns-after-last-clause-step
returns-after-last-clause-step g c going is =
    let old = c.self.inside in
    let before : Seen g.row.F.Denot = record { book = old.book; keeper = old.keeper; handed = old.handed; flash = old.flash } in
    let new : Seen g.row.F.Denot = record { book = c.place-last.new.self; keeper = old.keeper; handed = old.handed; flash = c.program-programmed.new.flash } in
    let asked = asked-as (state_in c.args.self.now.book) c.args.ticket c.requires.ticket.going going c.requires.ticket.ticket_is is c.requires.ticket.asked in
    subst (λ (s : Seen g.row.F.Denot). IsTicketOf (state_in s.book) c.args.ticket going → ComesTo s.book c.args.ticket going (next.At c.args.spot c.args.index c.args.spare.now) → 0 < s.book.spare → Places g.F.Flash.state s new c.args.ticket going c.if-last.result) c.self.view_is
    (λ here comes spare.
    let placed = subst (λ (b : BookSeen). IsTicketOf (state_in b) c.args.ticket going → book.Places b c.place-last.new.self c.args.ticket going c.args.spot c.place-last.result) c.begin.ensures (c.place-last.ensures going) here in
    let page = places-page g.F.Flash.state before new c.args.ticket going c.args.spot c.place-last.result _ _ spare refl comes.0
    (λ es. emptied-placed old.book (g.F.Flash.state old.flash) (g.F.Flash.state c.program-programmed.new.flash) c.args.ticket going c.args.spot c.args.spare.now _ (subst (λ (s : Seen g.row.F.Denot). IsInOrder s.book) (sym c.self.view_is) c.can_save.ensures.order).known.joined (subst (λ (s : Seen g.row.F.Denot). IsInOrder s.book) (sym c.self.view_is) c.can_save.ensures.order).known.units c.self.invariant.sound.geometry c.self.invariant.sound.stored comes.0 es c.in-Ok.ensures.done)
    c.in-Ok.ensures.called c.in-Ok.ensures.done placed in
    elim c.if-last.branch [
      | then-last w ↦ places-last g.F.Flash.state before new c.args.ticket going c.place-last.result c.if-last.result page w.if-last.true placed.last_is w.result-is
      | else-last w ↦ places-more g.F.Flash.state before new c.args.ticket going c.place-last.result c.if-last.result page w.if-last.false asked placed.last_is w.result-is
    ])
    is (c.requires.next going is) c.requires.spare

pub returns-after-last-clause-stops : goal.returns-after-last-clause-stops
returns-after-last-clause-stops g c =
    let old = c.self.inside in
    let ticket = c.requires.ticket in
    let new : Seen g.row.F.Denot = record { book = c.place-last.new.self; keeper = c.self.inside.keeper; handed = c.self.inside.handed; flash = c.program-programmed.new.flash } in
    let order = (subst (λ (s : Seen g.row.F.Denot). IsInOrder s.book) (sym c.self.view_is) c.can_save.ensures.order) in
    let here = subst (λ (s : Seen g.row.F.Denot). IsTicketOf (state_in s.book) c.args.ticket ticket.going) (sym c.self.view_is) ticket.ticket_is in
    let comes = subst (λ (s : Seen g.row.F.Denot). ComesTo s.book c.args.ticket ticket.going (next.At c.args.spot c.args.index c.args.spare.now)) (sym c.self.view_is) (c.requires.next ticket.going ticket.ticket_is) in
    let placed = subst (λ (b : BookSeen). IsTicketOf (state_in b) c.args.ticket ticket.going → book.Places b c.place-last.new.self c.args.ticket ticket.going c.args.spot c.place-last.result) c.begin.ensures (c.place-last.ensures ticket.going) here in
    subst (λ (s : Seen g.row.F.Denot). OutlastsStops g.F.Flash.state s new) c.self.view_is
    (page-stops g.F.Flash.state old.flash c.program-programmed.new.flash old.handed old.book c.place-last.new.self old.keeper old.block.items c.args.ticket ticket.going c.args.spot c.args.spare.now _ c.place-last.result order c.self.invariant comes.0 c.in-Ok.ensures.done c.program-programmed.ensures.stops placed here comes.2
    (safe-now old.handed (g.F.Flash.state c.program-programmed.new.flash) c.place-last.new.self old.keeper _
    (record { config = c.known.ensures.config; orderly = c.known.ensures.orderly; units = c.known.ensures.units; joined = c.known.ensures.joined; led = c.known.ensures.led; generation = c.known.ensures.generation })
    (invariant_of-self g c)))

-- ---- that failed

pub save_shut-saved-requires-clause-can : goal.save_shut-saved-requires-clause-can
save_shut-saved-requires-clause-can g c =
    let old = c.self.inside in
    let can = subst (λ (s : Seen g.row.F.Denot). CanSave s.book s.keeper (g.F.Flash.state s.flash)) (sym c.self.view_is) c.can_save.ensures.can in
    let comes = subst (λ (s : Seen g.row.F.Denot). ComesTo s.book c.args.ticket c.requires.ticket.going (next.At c.args.spot c.args.index c.args.spare.now)) (sym c.self.view_is) (c.requires.next c.requires.ticket.going c.requires.ticket.ticket_is) in
    let safe =
    at-unplaced old.book c.args.ticket c.requires.ticket.going c.args.spot c.args.spare.now _ old.keeper.saver old.keeper.firm (g.F.Flash.state old.flash) (g.F.Flash.state c.program-programmed.new.flash) c.self.invariant.sound.geometry c.self.invariant.sound.stored comes.0 c.self.invariant.kept.safe.at
    c.in-Err.ensures.failed.run.told c.in-Err.ensures.left in
    record { keeper = can.keeper; geometry = c.in-Err.ensures.failed.run.geometry ∙ can.geometry; epoch = can.epoch; saver = λ told. (safe.durable told).saver }

pub save_shut-saved-requires-clause-handle : goal.save_shut-saved-requires-clause-handle
save_shut-saved-requires-clause-handle g c =
    let b = c.self.inside.book in
    let going = c.requires.ticket.going in
    let order = subst (λ (s : Seen g.row.F.Denot). IsInOrder s.book) (sym c.self.view_is) c.can_save.ensures.order in
    let here = subst (λ (s : Seen g.row.F.Denot). IsTicketOf (state_in s.book) c.args.ticket going) (sym c.self.view_is) c.requires.ticket.ticket_is in
    let comes = subst (λ (s : Seen g.row.F.Denot). ComesTo s.book c.args.ticket going (next.At c.args.spot c.args.index c.args.spare.now)) (sym c.self.view_is) (c.requires.next going c.requires.ticket.ticket_is) in
    let write = order.known.orderly.state.writes c.args.ticket.queue going here.going_is in
    subst (λ (x : WritePlace). IsHandle b.config (point_in b) x.rg x.ruh) (sym (c.place_of_write-rg.ensures going here)) (record { group = write.group; handle = write.in_force comes.0.there })

module _ (g : Over) (c : goal.After-known-in-Err g) where
  abbrev before : Seen g.row.F.Denot
  before = record { book = c.self.inside.book; keeper = c.self.inside.keeper; handed = c.self.inside.handed; flash = c.self.inside.flash }

  abbrev behind : Seen g.row.F.Denot
  behind = record { book = c.end_shut-done.new.self; keeper = c.save_shut-saved.new.self; handed = c.self.inside.handed; flash = c.save_shut-saved.new.flash }

  order-Err : IsInOrder c.self.inside.book
  order-Err = subst (λ (s : Seen g.row.F.Denot). IsInOrder s.book) (sym c.self.view_is) c.can_save.ensures.order

  known-Err : IsKnown c.end_shut-done.new.self
  known-Err = record { config = c.known-in-Err.ensures.config; orderly = c.known-in-Err.ensures.orderly; units = c.known-in-Err.ensures.units; joined = c.known-in-Err.ensures.joined; led = c.known-in-Err.ensures.led; generation = c.known-in-Err.ensures.generation }

  failed : FailsToProgram (g.F.Flash.state c.self.inside.flash) (g.F.Flash.state c.program-programmed.new.flash) c.args.spot c.args.spare.now (payload_block (length c.deref_mut.result.now) c.payload-payload.result.now c.args.index)
  failed = record { made = c.in-Err.ensures.failed; programs = c.in-Err.ensures.not_done; left = c.in-Err.ensures.left }

  module _ (going : Going) (here : IsTicketOf (state_in c.self.inside.book) c.args.ticket going) (comes : ComesTo c.self.inside.book c.args.ticket going (next.At c.args.spot c.args.index c.args.spare.now)) where
    shuts : ShutsAndEnds (begun c.self.inside.book) c.end_shut-done.new.self c.args.ticket going c.args.spot statuses.WRITE_FAULT c.moment-moment.result c.end_shut-done.result
    shuts = subst (λ (b : BookSeen). IsTicketOf (state_in b) c.args.ticket going → ShutsAndEnds b c.end_shut-done.new.self c.args.ticket going c.args.spot statuses.WRITE_FAULT c.moment-moment.result c.end_shut-done.result) c.begin-in-Err.ensures (c.end_shut-done.ensures going) here

    keeps : KeepsEntry c.self.inside.book (entries.Shut (record { rg = going.rg; ruh = going.ruh })) c.self.inside.keeper c.save_shut-saved.new.self (g.F.Flash.state c.program-programmed.new.flash) (g.F.Flash.state c.save_shut-saved.new.flash) c.save_shut-saved.result
    keeps = shut-as c.self.inside.book c.self.inside.keeper c.save_shut-saved.new.self (g.F.Flash.state c.program-programmed.new.flash) (g.F.Flash.state c.save_shut-saved.new.flash) going _ c.save_shut-saved.result (c.place_of_write-rg.ensures going here) c.save_shut-saved.ensures

    whole : IsSound c.self.inside.handed (g.F.Flash.state c.program-programmed.new.flash) c.end_shut-done.new.self (take c.self.inside.block.len (c.program-programmed.new.block ++ drop (length c.program-programmed.new.block) c.self.inside.block.items)) → IsWhole c.self.inside.handed (g.F.Flash.state c.save_shut-saved.new.flash) c.end_shut-done.new.self c.save_shut-saved.new.self (take c.self.inside.block.len (c.program-programmed.new.block ++ drop (length c.program-programmed.new.block) c.self.inside.block.items))
    whole =
        shut-whole g.F.Flash.state c.self.inside.flash c.program-programmed.new.flash c.save_shut-saved.new.flash c.self.inside.handed c.self.inside.book c.end_shut-done.new.self c.self.inside.keeper c.save_shut-saved.new.self c.self.inside.block.items (take c.self.inside.block.len (c.program-programmed.new.block ++ drop (length c.program-programmed.new.block) c.self.inside.block.items)) c.args.ticket going c.args.spot c.args.spare.now _
        c.moment-moment.result c.end_shut-done.result c.save_shut-saved.result order-Err known-Err c.self.invariant comes.0 failed c.program-programmed.ensures.stops keeps shuts here comes.2

    stops : IsSound c.self.inside.handed (g.F.Flash.state c.program-programmed.new.flash) c.end_shut-done.new.self (take c.self.inside.block.len (c.program-programmed.new.block ++ drop (length c.program-programmed.new.block) c.self.inside.block.items)) → OutlastsStops g.F.Flash.state before behind
    stops =
        shut-stops g.F.Flash.state c.self.inside.flash c.program-programmed.new.flash c.save_shut-saved.new.flash c.self.inside.handed c.self.inside.book c.end_shut-done.new.self c.self.inside.keeper c.save_shut-saved.new.self c.self.inside.block.items (take c.self.inside.block.len (c.program-programmed.new.block ++ drop (length c.program-programmed.new.block) c.self.inside.block.items)) c.args.ticket going c.args.spot c.args.spare.now _
        c.moment-moment.result c.end_shut-done.result c.save_shut-saved.result order-Err known-Err c.self.invariant comes.0 failed c.program-programmed.ensures.stops keeps shuts here comes.2

    fails : 0 < c.self.inside.book.spare → FailsToPlace g.F.Flash.state before behind c.args.ticket going c.end_shut-done.result
    fails spare =
        fails-to-place g.F.Flash.state c.self.inside.flash c.program-programmed.new.flash c.save_shut-saved.new.flash c.self.inside.handed c.self.inside.book c.end_shut-done.new.self c.self.inside.keeper c.save_shut-saved.new.self c.self.inside.block.items (take c.self.inside.block.len (c.program-programmed.new.block ++ drop (length c.program-programmed.new.block) c.self.inside.block.items)) c.args.ticket going c.args.spot c.args.spare.now _
        c.moment-moment.result c.end_shut-done.result c.save_shut-saved.result order-Err known-Err c.self.invariant comes.0 failed c.program-programmed.ensures.stops keeps shuts here comes.2 spare (g.met.F.Flash.well_formed c.program-programmed.new.flash)
        (λ es. emptied-shut c.self.inside.book (g.F.Flash.state c.self.inside.flash) (g.F.Flash.state c.program-programmed.new.flash) c.args.ticket going c.args.spot c.args.spare.now _ order-Err.known.joined order-Err.known.units c.self.invariant.sound.geometry c.self.invariant.sound.stored comes.0 es failed)
        c.moment-moment.ensures

  ready : IsTicketOf (state_in c.self.inside.book) c.args.ticket c.requires.ticket.going
  ready = subst (λ (s : Seen g.row.F.Denot). IsTicketOf (state_in s.book) c.args.ticket c.requires.ticket.going) (sym c.self.view_is) c.requires.ticket.ticket_is

  goes : ComesTo c.self.inside.book c.args.ticket c.requires.ticket.going (next.At c.args.spot c.args.index c.args.spare.now)
  goes = subst (λ (s : Seen g.row.F.Denot). ComesTo s.book c.args.ticket c.requires.ticket.going (next.At c.args.spot c.args.index c.args.spare.now)) (sym c.self.view_is) (c.requires.next c.requires.ticket.going c.requires.ticket.ticket_is)

  sound-Err : IsSound c.self.inside.handed (g.F.Flash.state c.program-programmed.new.flash) c.end_shut-done.new.self (take c.self.inside.block.len (c.program-programmed.new.block ++ drop (length c.program-programmed.new.block) c.self.inside.block.items))
  sound-Err =
      let old = c.self.inside in
      let f = g.F.Flash.state old.flash in
      let n = g.F.Flash.state c.program-programmed.new.flash in
      let ticket = c.requires.ticket in
      let ended = shuts ticket.going ready goes in
      sound-shut old.handed f n old.book c.end_shut-done.new.self old.block.items _ c.args.ticket ticket.going c.args.spot c.args.spare.now _ statuses.WRITE_FAULT c.moment-moment.result c.end_shut-done.result
      c.self.invariant.sound order-Err.known known-Err.led ready goes.0 goes.2 failed c.moment-moment.ensures
      (shut-follows old.handed f n old.book c.args.ticket ticket.going c.args.spot c.moment-moment.result order-Err.known c.self.invariant.sound.ledger c.program-programmed.ensures.kept.moment ready goes.0 ticket.asked
      (subst (FailedAt f n) (sym c.moment-moment.ensures) (failed-last f n [] _ (g.met.F.Flash.well_formed c.program-programmed.new.flash) c.in-Err.ensures.failed refl)) ended.follows)
      (filled-buffer old.block.len old.block.items c.program-programmed.new.block (ap length (sym c.deref_mut.ensures.value) ∙ c.deref_mut.ensures.len) (c.program-programmed.ensures.size ∙ ap length c.deref_mut.ensures.value))
      ended

pub invariant_of-self-in-Err : goal.invariant_of-self-in-Err
invariant_of-self-in-Err g c = whole g c c.requires.ticket.going (ready g c) (goes g c) (sound-Err g c)

pub returns-in-Err-clause-step : goal.returns-in-Err-clause-step
returns-in-Err-clause-step g c going is =
    subst (λ (s : Seen g.row.F.Denot). IsTicketOf (state_in s.book) c.args.ticket going → ComesTo s.book c.args.ticket going (next.At c.args.spot c.args.index c.args.spare.now) → 0 < s.book.spare → EndsInPlacing g.F.Flash.state s (behind g c) c.args.ticket going c.end_shut-done.result) c.self.view_is
    (λ here comes spare. inr (inr (inr (inr (fails g c going here comes spare))))) is (c.requires.next going is) c.requires.spare

pub returns-in-Err-clause-stops : goal.returns-in-Err-clause-stops
returns-in-Err-clause-stops g c = subst (λ (s : Seen g.row.F.Denot). OutlastsStops g.F.Flash.state s (behind g c)) c.self.view_is (stops g c c.requires.ticket.going (ready g c) (goes g c) (sound-Err g c))
