use Rattle.std.proofs.Common.{◌≡◌, ◌∙◌, ◌+◌, ◌≤◌, ℕ, List, [], ◌∷◌, ◌++◌, IsTrue, ap, arith, length, refl, slice_get, subst, sym, true}
use Rattle.fdp_base.specs.declared.config.Geometry.{Geometry}
use Rattle.fdp_base.specs.declared.entry.Entry.{Entry}
use Rattle.fdp_base.specs.declared.entry.Spot.{Spot}
use Rattle.fdp_rules.specs.Answer.{bare}
use Rattle.fdp_map.specs.MapTable.{IsPageOf, mapped_at, size_in}
use Rattle.fdp_book.specs.declared.extent.Extent.{Extent}
use Rattle.fdp_book.specs.declared.flight.Flight.{Flight}
use Rattle.fdp_book.specs.declared.tables.Tables.{Tables}
use Rattle.fdp_book.specs.Flown.{with_pages}
use Rattle.fdp_book.specs.Held.{IsHeld, book_of, going_of}
use Rattle.fdp_book.specs.Taking.{CanTake, MayTake}
use Rattle.fdp_book.proofs.Ending.{IsCommitting, committing, ended-entry}
use Rattle.fdp_book.proofs.Held.Committed.{flight-lies, held-committed, may-take, success}
use Rattle.fdp_book.proofs.Held.Faulted.{held-made}
use Rattle.fdp_readings.proofs.fdp_locations.Ended.{host}
use Rattle.fdp_readings.specs.fdp_locations.Taken.{taken_first}
use Rattle.fdp_owners.specs.Owned.{AreOwners}
use Rattle.fdp_owners.specs.OwnerTable.{owner_at}
use Rattle.fdp_pointers.specs.Facts.{Page}
use Rattle.fdp_pointers.specs.Pointers.{Behind, renamed}
use Rattle.fdp_base.specs.declared.command.Command.{Command}
use Rattle.fdp_base.specs.declared.command.Command.TheVariants as commands
use Rattle.fdp_base.specs.declared.entry.Reply.{Reply}
use Rattle.fdp_base.specs.declared.status.TheConstants.Status as statuses
use Rattle.fdp_base.proofs.Writes.{write-is}
use Rattle.fdp_book.specs.Book.{BookSeen, point_in, state_in}
use Rattle.fdp_book.specs.Changes.{IsChangeOfEntry}
use Rattle.fdp_book.specs.Outlined.{IsOutlineBehind}
use Rattle.fdp_book.specs.Tickets.{IsTicketOf}
use Rattle.fdp_book.proofs.Committing.Points.{committed}
use Rattle.fdp_book.proofs.Held.Next.{can-make, made-behind}
use Rattle.fdp_book.proofs.Outlining.{generation-said}
use Rattle.fdp_book.specs.declared.ticket.Ticket.{Ticket}
use Rattle.fdp_base.specs.declared.command.Write.{Write}
use Rattle.fdp_readings.specs.Changes.{completed}
use Rattle.fdp_records.specs.declared.change.Change.{Change}
use Rattle.fdp_rules.specs.PlainState.{Going}
use Rattle.fdp_records.specs.Borrowed.{change_of}
use Rattle.fdp_rules.specs.History.{point_of}
use Rattle.fdp_rules.specs.Next.{next}
use Rattle.fdp_rules.specs.Point.{Point}
use Rattle.fdp_book.proofs.Numbers.{numbers-logged, small-totals}
use Rattle.fdp_book.proofs.book.Book.commit.Goals as goal
use Rattle.fdp_readings.specs.fdp_locations.Held.{pages_held}

abbrev flight : goal.After-as_slice → Flight
flight c = c.take_flight-flight.result

known : (c : goal.After-as_slice) → IsCommitting (book_of c.self.inside.config c.self.inside.origin c.self.inside.log c.self.inside.tables) c.self.inside.tables c.give_up-queue.result c.args.ticket (flight c)
known c =
    let old = c.self.inside in
    committing (book_of old.config old.origin old.log old.tables) c.args.self.now old.tables c.give_up-queue.result c.args.ticket (flight c) c.self.invariant.held c.self.view_is c.give_up-queue.ensures c.take_flight-flight.ensures.flight c.requires.may c.requires.ready

pub put_pages-requires-clause-range : goal.put_pages-requires-clause-range
put_pages-requires-clause-range c =
    let old = c.self.inside in
    let k = known c in
    let pages : length c.as_slice.result.now ≡ k.w.count = ap (λ (xs : List Spot). length xs) c.as_slice.ensures.value ∙ k.count in
    let range : k.w.slba + length c.as_slice.result.now ≤ size_in old.tables.map k.w.nsid = omega (arith, pages, k.range) in
    subst (λ (y : Extent). y.slba + length c.as_slice.result.now ≤ size_in old.tables.map y.nsid) k.extent_is range

pub put_pages-requires-clause-places : goal.put_pages-requires-clause-places
put_pages-requires-clause-places c = λ index spot e.
    let old = c.self.inside in
    let k = known c in
    let h = c.self.invariant.held in
    let lie = flight-lies old.config old.origin.found (pages_held old.config old.origin.cells) old.log.entries old.tables c.give_up-queue.result (flight c) h c.take_flight-flight.ensures.flight k.may.there index spot (ap (λ (xs : List Spot). slice_get xs index) (sym c.as_slice.ensures.value) ∙ e) in
    subst (λ (g : Geometry). IsPageOf g spot) (sym h.map_is.geometry) lie.page

pub put_pages-requires-clause-pages : goal.put_pages-requires-clause-pages
put_pages-requires-clause-pages c =
    let old = c.self.inside in
    let k = known c in
    let h = c.self.invariant.held in
    let may : MayTake h.pages_are.at old.tables.map old.tables.pages c.give_up-queue.result k.w.nsid k.w.slba (flight c).pages.items =
    may-take old.config old.origin.found (pages_held old.config old.origin.cells) old.log.entries old.tables c.give_up-queue.result (flight c) k.w h c.take_flight-flight.ensures.flight k.may.there k.write in
    let can : CanTake old.tables.map old.tables.pages k.w.nsid k.w.slba (flight c).pages.items = record { at = h.pages_are.at; queue = c.give_up-queue.result; may = may } in
    subst (λ (y : Extent). CanTake old.tables.map old.tables.pages y.nsid y.slba c.as_slice.result.now) k.extent_is
    (subst (CanTake old.tables.map old.tables.pages k.w.nsid k.w.slba) (sym c.as_slice.ensures.value) can)

-- the change is that of the entry of its success
of-entry : (b now : BookSeen) (t : Tables) (queue : ℕ) (ticket : Ticket) (f : Flight) (moment : ℕ) (change : Change) → b ≡ now → queue ≡ ticket.queue → IsCommitting b t queue ticket f
    → ((g : Going) (w : Write) (reply : Reply) (m : ℕ) → IsTicketOf (state_in now) ticket g → g.command ≡ commands.Write w → IsTrue reply.applied → IsChangeOfEntry now.config (point_in now) (completed ticket.queue ticket.number (commands.Write w) reply m) change [])
    → IsChangeOfEntry b.config (point_in b) (success queue f moment) change []
of-entry b now t queue ticket f moment change same queue_is k told =
    let reply : Reply = bare statuses.SUCCESS true in
    let command : f.room.command ≡ commands.Write k.w = write-is f.room.command k.w k.write in
    let own : IsTicketOf (state_in now) ticket (going_of f) = subst (λ (x : BookSeen). IsTicketOf (state_in x) ticket (going_of f)) same k.flight.own in
    let there : IsChangeOfEntry b.config (point_in b) (host ticket.queue ticket.number (commands.Write k.w) reply moment) change [] =
    subst (λ (x : BookSeen). IsChangeOfEntry x.config (point_in x) (host ticket.queue ticket.number (commands.Write k.w) reply moment) change []) (sym same) (told (going_of f) k.w reply moment own command refl) in
    subst (λ (e : Entry). IsChangeOfEntry b.config (point_in b) e change [])
    (ap (λ (q : ℕ). host q ticket.number (commands.Write k.w) reply moment) (sym queue_is)
    ∙ ap (λ (n : ℕ). host queue n (commands.Write k.w) reply moment) (sym k.flight.own.number_is)
    ∙ ap (λ (x : Command). host queue f.number x reply moment) (sym command))
    there

pub make-requires-clause-can : goal.make-requires-clause-can
make-requires-clause-can c =
    let old = c.self.inside in
    let b : BookSeen = book_of old.config old.origin old.log old.tables in
    let f : Flight = c.take_flight-flight.result in
    let change = change_of c.change_of_write-change.result in
    let k = committing b c.args.self.now old.tables c.give_up-queue.result c.args.ticket f c.self.invariant.held c.self.view_is c.give_up-queue.ensures c.take_flight-flight.ensures.flight c.requires.may c.requires.ready in
    can-make old.config old.log.entries _ _ old.tables (success c.give_up-queue.result f c.args.moment) change [] c.self.invariant.held
    (of-entry b c.args.self.now old.tables c.give_up-queue.result c.args.ticket f c.args.moment change c.self.view_is c.give_up-queue.ensures k c.change_of_write-change.ensures.entry)

pub make-requires-clause-small : goal.make-requires-clause-small
make-requires-clause-small c =
    let old = c.self.inside in
    small-totals old.config old.origin old.log old.tables c.position.result c.self.invariant c.position.ensures.position c.position.ensures.small c.position.ensures.few

-- the outline behind it
behind : (c : goal.After-push_host) → IsOutlineBehind c.self.inside.config c.self.inside.origin.found c.self.inside.log.entries (success c.give_up-queue.result c.take_flight-flight.result c.args.moment) c.make.new.outline
behind c =
    let old = c.self.inside in
    let b : BookSeen = book_of old.config old.origin old.log old.tables in
    let f : Flight = c.take_flight-flight.result in
    let change = change_of c.change_of_write-change.result in
    let k = committing b c.args.self.now old.tables c.give_up-queue.result c.args.ticket f c.self.invariant.held c.self.view_is c.give_up-queue.ensures c.take_flight-flight.ensures.flight c.requires.may c.requires.ready in
    made-behind old.config old.origin.found (pages_held old.config old.origin.cells) old.log.entries old.tables (success c.give_up-queue.result f c.args.moment) change [] c.make.new.outline c.self.invariant.held
    (omega (arith, k.flight.orderly.count.1, c.self.invariant.held.config.ranges.blocks_per_command.1))
    (of-entry b c.args.self.now old.tables c.give_up-queue.result c.args.ticket f c.args.moment change c.self.view_is c.give_up-queue.ensures k c.change_of_write-change.ensures.entry) c.make.ensures

pub invariant_of-self : goal.invariant_of-self
invariant_of-self c =
    let old = c.self.inside in
    let f : Flight = c.take_flight-flight.result in
    let k = committing (book_of old.config old.origin old.log old.tables) c.args.self.now old.tables c.give_up-queue.result c.args.ticket f c.self.invariant.held c.self.view_is c.give_up-queue.ensures c.take_flight-flight.ensures.flight c.requires.may c.requires.ready in
    let pages : c.as_slice.result.now ≡ f.pages.items = c.as_slice.ensures.value in
    let put : mapped_at c.put_pages.new.map ≡ with_pages (mapped_at old.tables.map) k.w.nsid k.w.slba old.tables.map.geometry f.pages.items k.w.count =
    c.put_pages.ensures.blocks
    ∙ ap (λ (y : Extent). with_pages (mapped_at old.tables.map) y.nsid y.slba old.tables.map.geometry c.as_slice.result.now (length c.as_slice.result.now)) (sym k.extent_is)
    ∙ ap (λ (xs : List Spot). with_pages (mapped_at old.tables.map) k.w.nsid k.w.slba old.tables.map.geometry xs (length xs)) pages
    ∙ ap (λ (n : ℕ). with_pages (mapped_at old.tables.map) k.w.nsid k.w.slba old.tables.map.geometry f.pages.items n) k.count in
    let owners : (at : Behind Page) (q : ℕ) → MayTake at old.tables.map old.tables.pages q k.w.nsid k.w.slba f.pages.items → AreOwners (owner_at c.put_pages.new.pages.owners) (renamed (taken_first q k.w.nsid k.w.slba k.w.count) at) =
    λ at q may.
    let taken : AreOwners (owner_at c.put_pages.new.pages.owners) (renamed (taken_first q k.w.nsid k.w.slba (length c.as_slice.result.now)) at) =
    subst (λ (y : Extent). AreOwners (owner_at c.put_pages.new.pages.owners) (renamed (taken_first q y.nsid y.slba (length c.as_slice.result.now)) at)) (sym k.extent_is)
    (c.put_pages.ensures.owners at q (subst (λ (y : Extent). MayTake at old.tables.map old.tables.pages q y.nsid y.slba c.as_slice.result.now) k.extent_is (subst (MayTake at old.tables.map old.tables.pages q k.w.nsid k.w.slba) (sym pages) may))) in
    subst (λ (n : ℕ). AreOwners (owner_at c.put_pages.new.pages.owners) (renamed (taken_first q k.w.nsid k.w.slba n) at)) (ap (λ (xs : List Spot). length xs) pages ∙ k.count) taken in
    let now : Tables = record old.tables { outline = c.make.new.outline; map = c.put_pages.new.map; flights = c.take_flight-flight.new.flights; pages = c.put_pages.new.pages } in
    let held = held-committed old.config old.origin.found (pages_held old.config old.origin.cells) old.log.entries old.tables now c.give_up-queue.result c.args.moment f k.w
    c.self.invariant.held c.take_flight-flight.ensures.flight k.may k.write
    (record {
      put = put;
      sizes = c.put_pages.ensures.sizes;
      geometry = c.put_pages.ensures.geometry;
      flights_are = c.take_flight-flight.ensures.rest;
      owners = owners;
      pages = c.put_pages.ensures.pages;
    })
    (behind c) in
    let longer : c.push_host.new.log.entries ≡ old.log.entries ++ host c.give_up-queue.result f.number f.room.command (bare c.args.status true) c.args.moment ∷ [] =
    c.push_host.ensures.log.entries_are
    ∙ ap (λ (e : Entry). old.log.entries ++ e ∷ []) (ended-entry c.give_up-queue.result f.number c.args.moment f c.end-command.result.0 c.end-command.result.1 (bare c.args.status true) c.end-command.ensures.command c.end-command.ensures.reply) in
    let p : Point = point_of old.config old.origin.found old.log.entries in
    let generation : now.outline.generation ≡ old.tables.outline.generation =
    sym (generation-said old.config (next old.config p (success c.give_up-queue.result f c.args.moment)) now.outline (behind c).at)
    ∙ (committed old.config p c.give_up-queue.result f.number f.room.command c.args.moment k.w k.write).alike.generation
    ∙ generation-said old.config p old.tables.outline c.self.invariant.held.outline_is in
    record {
      held = subst (λ (es : List Entry). IsHeld old.config old.origin.found (pages_held old.config old.origin.cells) es now) (sym longer)
          (held-made old.config old.origin.found (pages_held old.config old.origin.cells) old.log.entries c.give_up-queue.result f.number f.room.command c.args.moment old.tables now c.args.status c.requires.status c.self.invariant.held held);
      before_is = c.push_host.ensures.log.before_is ∙ c.self.invariant.before_is;
      names_are = c.push_host.ensures.log.names_are ∙ c.self.invariant.names_are;
      numbers = numbers-logged old.tables.outline.generation now.outline.generation old.log c.push_host.new.log _ generation c.push_host.ensures.log c.self.invariant.numbers;
    }
