use Rattle.std.proofs.Common.{◌≡◌, ◌∙◌, ℕ, Bool, List, Option, Some, ap, length, refl, slice_set, subst, sym, [], ◌∷◌, ◌++◌}
use Rattle.std.specs.Vec.{with_item}
use Rattle.fdp_base.specs.declared.entry.Entry.{Entry}
use Rattle.fdp_base.specs.declared.entry.Entry.TheVariants as entries
use Rattle.fdp_base.specs.CommandKinds.{write_of}
use Rattle.fdp_book.specs.declared.flight.Flight.{Flight}
use Rattle.fdp_book.specs.declared.tables.Tables.{Tables}
use Rattle.fdp_book.specs.Book.{BookSeen, point_in, state_in}
use Rattle.fdp_book.specs.Flown.{IsUnfinished}
use Rattle.fdp_book.specs.Held.{IsHeld, book_of, flight_in, going_of}
use Rattle.fdp_book.specs.Steps.{Places}
use Rattle.fdp_book.specs.Tickets.{IsTicketOf}
use Rattle.fdp_book.proofs.Held.Placed.{held-placed}
use Rattle.fdp_book.proofs.Placing.Fresh.{IsFreshPage, fresh-page}
use Rattle.fdp_book.proofs.Placing.Nexts.{extent-low, write-there}
use Rattle.fdp_book.proofs.Placing.Steps.{flight_in-put, places-step, placing, slot-is}
use Rattle.fdp_readings.specs.fdp_locations.Written.{next_spare}
use Rattle.fdp_owners.specs.declared.owner.Holder.TheVariants as holders
use Rattle.fdp_owners.specs.declared.owner.Owner.{Owner}
use Rattle.fdp_readings.specs.fdp_pages.Steps.{MayPut, PutsPage}
use Rattle.fdp_rules.specs.PlainState.{Going}
use Rattle.fdp_rules.specs.Step.{Follows}
use Rattle.fdp_book.proofs.Numbers.{generation-counted, numbers-logged, small-totals}
use Rattle.fdp_book.proofs.book.Book.place.Goals as goal
use Rattle.fdp_readings.specs.fdp_locations.Held.{pages_held}

pub next_spare-requires-clause-lba : goal.next_spare-requires-clause-lba
next_spare-requires-clause-lba c =
    let f : Flight = c.flight-flight.result.now in
    let next = c.requires.next (going_of f) c.flight-flight.ensures.going in
    extent-low (write_of f.room.command) f.extent f.extent_is (c.flight-flight.ensures.end next.there)

pub place-requires-clause-page : goal.place-requires-clause-page
place-requires-clause-page c =
    let f : Flight = c.flight-flight.result.now in
    let next = c.requires.next (going_of f) c.flight-flight.ensures.going in
    subst (λ (b : BookSeen). MayPut b.pages f.rg f.ruh c.args.spot) (sym c.self.view_is) next.may

pub count-requires-clause-small : goal.count-requires-clause-small
count-requires-clause-small c =
    let old = c.self.inside in
    small-totals old.config old.origin old.log old.tables c.position.result c.self.invariant c.position.ensures.position c.position.ensures.small c.position.ensures.few

pub push_page-requires : goal.push_page-requires
push_page-requires c =
    let old = c.self.inside in
    let b : BookSeen = book_of old.config old.origin old.log old.tables in
    let k = placing b c.args.self.now old.tables c.args.ticket.now c.args.spot c.flight-flight.result.now c.self.invariant.held c.self.view_is c.requires.waiting c.requires.next c.flight-flight.ensures in
    let slot = slot-is old.tables.flights.items c.args.ticket.now.queue c.from.result c.index_mut.result.now k.0 c.from.ensures k.1.within k.1.there c.index_mut.ensures.value in
    subst (λ (o : Option Flight). IsUnfinished o) (sym slot) k.1.unfinished

pub invariant_of-self : goal.invariant_of-self
invariant_of-self c =
    let old = c.self.inside in
    let b : BookSeen = book_of old.config old.origin old.log old.tables in
    let k = placing b c.args.self.now old.tables c.args.ticket.now c.args.spot c.flight-flight.result.now c.self.invariant.held c.self.view_is c.requires.waiting c.requires.next c.flight-flight.ensures in
    let x : Flight = c.flight-flight.result.now in
    let f : Flight = k.0 in
    let spot = c.args.spot in
    let slot = slot-is old.tables.flights.items c.args.ticket.now.queue c.from.result c.index_mut.result.now f c.from.ensures k.1.within k.1.there c.index_mut.ensures.value in
    let more = c.push_page.ensures.page f slot in
    let write = write-there (write_of f.room.command) (c.self.invariant.held.orderly.state.writes c.args.ticket.now.queue (going_of f) k.1.ticket_is.going_is).write in
    let ticket : f.ticket ≡ c.args.ticket.now.position = k.1.ticket_is.position_is in
    let count : c.len-index.result ≡ length f.pages.items = c.len-index.ensures.value ∙ ap (λ (g : Going). g.placed) k.2 in
    let owner : Owner = record { holder = holders.Flight c.args.ticket.now.queue; spare = c.next_spare.result } in
    let command : write_of x.room.command ≡ Some write.0 = ap (λ (g : Going). write_of g.command) k.2 ∙ write.1 in
    let spare : c.next_spare.result ≡ next_spare (state_in b) (going_of f) write.0 =
    c.next_spare.ensures write.0 command ∙ ap (λ (y : BookSeen). next_spare (state_in y) (going_of x) write.0) (sym c.self.view_is) ∙ ap (λ (g : Going). next_spare (state_in b) g write.0) k.2 in
    let puts : PutsPage old.tables.pages c.place.new.self f.rg f.ruh spot owner = subst (λ (g : Going). PutsPage old.tables.pages c.place.new.self g.rg g.ruh spot owner) k.2 c.place.ensures in
    let fresh_page : IsFreshPage old.tables.pages f.rg spot = fresh-page old.tables.pages f.rg f.ruh spot c.joined.ensures k.1.next.may in
    let entry : c.push.new.self.entries ≡ old.log.entries ++ entries.Placed (record { ticket = f.ticket; index = length f.pages.items; unit = spot.unit; page = spot.page }) ∷ [] =
    c.push.ensures.entries_are
    ∙ ap (λ (n : ℕ). old.log.entries ++ entries.Placed (record { ticket = c.args.ticket.now.position; index = n; unit = spot.unit; page = spot.page }) ∷ []) count
    ∙ ap (λ (t : ℕ). old.log.entries ++ entries.Placed (record { ticket = t; index = length f.pages.items; unit = spot.unit; page = spot.page }) ∷ []) (sym ticket) in
    let now : Tables = record old.tables { outline = c.count.new.outline; flights = with_item old.tables.flights c.from.result c.push_page.new.flight; pages = c.place.new.self } in
    let held = held-placed old.config old.origin.found (pages_held old.config old.origin.cells) old.log.entries old.tables now c.args.ticket.now.queue f more.0 spot write.0 owner
    c.self.invariant.held c.joined.ensures k.1.there
    (subst (λ (t : ℕ). (told : Bool) → Follows told old.config (point_in b) (entries.Placed (record { ticket = t; index = length f.pages.items; unit = spot.unit; page = spot.page }))) (sym ticket) k.1.next.follows)
    (record {
      counts = c.count.ensures;
      map = refl;
      flights_are = ap (λ (i : ℕ). slice_set old.tables.flights.items i c.push_page.new.flight) c.from.ensures ∙ ap (λ (o : Option Flight). slice_set old.tables.flights.items c.args.ticket.now.queue o) more.1;
      flight = more.2;
      write = write.1;
      spare = spare;
      holder = refl;
      puts = puts;
      fresh = fresh_page;
    }) in
    record {
      held = subst (λ (es : List Entry). IsHeld old.config old.origin.found (pages_held old.config old.origin.cells) es now) (sym entry) held;
      before_is = c.push.ensures.before_is ∙ c.self.invariant.before_is;
      names_are = c.push.ensures.names_are ∙ c.self.invariant.names_are;
      numbers = numbers-logged old.tables.outline.generation now.outline.generation old.log c.push.new.self _ (generation-counted 1 0 old.tables.outline now.outline c.count.ensures) c.push.ensures c.self.invariant.numbers;
    }

pub returns : goal.returns
returns c g is =
    let old = c.self.inside in
    let b : BookSeen = book_of old.config old.origin old.log old.tables in
    let now : Tables = record old.tables { outline = c.count.new.outline; flights = with_item old.tables.flights c.from.result c.push_page.new.flight; pages = c.place.new.self } in
    let new : BookSeen = book_of old.config old.origin c.push.new.self now in
    let k = placing b c.args.self.now old.tables c.args.ticket.now c.args.spot c.flight-flight.result.now c.self.invariant.held c.self.view_is c.requires.waiting c.requires.next c.flight-flight.ensures in
    let f : Flight = k.0 in
    let spot = c.args.spot in
    let owner : Owner = record { holder = holders.Flight c.args.ticket.now.queue; spare = c.next_spare.result } in
    let slot = slot-is old.tables.flights.items c.args.ticket.now.queue c.from.result c.index_mut.result.now f c.from.ensures k.1.within k.1.there c.index_mut.ensures.value in
    let more = c.push_page.ensures.page f slot in
    let flights : List (Option Flight) = slice_set old.tables.flights.items c.from.result c.push_page.new.flight in
    let count : c.len-index.result ≡ length f.pages.items = c.len-index.ensures.value ∙ ap (λ (h : Going). h.placed) k.2 in
    let puts : PutsPage old.tables.pages c.place.new.self f.rg f.ruh spot owner = subst (λ (h : Going). PutsPage old.tables.pages c.place.new.self h.rg h.ruh spot owner) k.2 c.place.ensures in
    let there : flight_in flights c.args.ticket.now.queue ≡ Some more.0 =
    flight_in-put old.tables.flights.items c.args.ticket.now.queue c.from.result c.push_page.new.flight more.0 c.from.ensures k.1.within more.1 in
    subst (λ (x : BookSeen). Places x new c.args.ticket.now g spot c.push_page.result) c.self.view_is
    (places-step b new now c.args.ticket.now f more.0 spot g c.push_page.result (invariant_of-self c).held there more.2 k.1.ticket_is owner puts
    (record { config_is = refl; found_is = refl; opened_is = refl; entries_are = c.push.ensures.entries_are ∙ ap (λ (n : ℕ). old.log.entries ++ entries.Placed (record { ticket = c.args.ticket.now.position; index = n; unit = spot.unit; page = spot.page }) ∷ []) count; spare_is = c.push.ensures.spare_is; spent_is = c.push.ensures.spent_is; room_is = c.push.ensures.room_is })
    (c.push_page.ensures.last f slot)
    (subst (λ (x : BookSeen). IsTicketOf (state_in x) c.args.ticket.now g) (sym c.self.view_is) is))
