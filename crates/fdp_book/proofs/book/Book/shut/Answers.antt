use Rattle.std.proofs.Common.{◌≡◌, ◌∙◌, ◌<◌, ℕ, List, arith, refl, subst, sym, [], ◌∷◌}
use Rattle.fdp_base.specs.declared.entry.Entry.{Entry}
use Rattle.fdp_base.specs.declared.entry.Spot.{Spot}
use Rattle.fdp_book.specs.declared.ticket.Ticket.{Ticket}
use Rattle.fdp_book.specs.declared.tables.Tables.{Tables}
use Rattle.fdp_book.specs.Book.{BookSeen, IsLonger, point_in, state_in}
use Rattle.fdp_book.specs.Held.{IsHeld, book_of}
use Rattle.fdp_book.specs.Shutting.{IsNextOfHandle, Shuts}
use Rattle.fdp_book.specs.Steps.{IsWaiting}
use Rattle.fdp_history.specs.Orderly.{IsOrderly}
use Rattle.fdp_rules.specs.PlainState.{Going}
use Rattle.fdp_book.specs.Tickets.{IsTicketOf}
use Rattle.fdp_book.proofs.Held.Shut.{held-shut, shut-follows, shut_entry}
use Rattle.fdp_book.proofs.Placing.Fresh.{fresh-page}
use Rattle.fdp_book.proofs.Shutting.{IsWaitingFor, still-going, waiting-for}
use Rattle.fdp_history.specs.OrderlyState.{IsOrderlyState}
use Rattle.fdp_readings.specs.fdp_pages.Steps.{MayPut}
use Rattle.fdp_rules.specs.Room.{handles_in_force}
use Rattle.fdp_book.specs.Changes.{IsChangeOfEntry}
use Rattle.fdp_book.specs.Outlined.{IsOutlineBehind}
use Rattle.fdp_book.proofs.Held.Next.{can-make, made-behind}
use Rattle.fdp_book.proofs.Making.Entries.{of-shut}
use Rattle.fdp_book.proofs.Numbers.{numbers-logged, small-totals}
use Rattle.fdp_book.proofs.Held.Shut.{generation-shut}
use Rattle.fdp_records.specs.declared.change.Change.TheVariants as changes
use Rattle.fdp_records.specs.Limits.{is_within_limits}
use Rattle.fdp_book.proofs.book.Book.shut.Goals as goal
use Rattle.fdp_readings.specs.fdp_locations.Held.{pages_held}

may-put : (b : BookSeen) (ticket : Ticket) (rg ruh : ℕ) (spot : Spot) → IsWaitingFor b ticket rg ruh spot → MayPut b.pages rg ruh spot
may-put b ticket rg ruh spot w = subst (λ (k : ℕ). MayPut b.pages rg k spot) (sym w.next.ruh_is) (subst (λ (k : ℕ). MayPut b.pages k w.going.ruh spot) (sym w.next.rg_is) w.next.next.may)

pub shut-requires : goal.shut-requires
shut-requires c =
    let old = c.self.inside in
    let b : BookSeen = book_of old.config old.origin old.log old.tables in
    record { page = may-put b c.args.ticket.now c.args.rg c.args.ruh c.args.spot (waiting-for b c.args.self.now c.args.ticket.now c.args.rg c.args.ruh c.args.spot c.self.view_is c.requires.waiting c.requires.next) }

-- the handle, which is one of its group
record IsOfGroup (b : BookSeen) (rg ruh : ℕ) : Type 0 where
  group : rg < b.config.groups
  handle : ruh < handles_in_force b.config (state_in b)

of-group : (b : BookSeen) (ticket : Ticket) (rg ruh : ℕ) (spot : Spot) → IsOrderlyState b.config (state_in b) → IsWaitingFor b ticket rg ruh spot → IsOfGroup b rg ruh
of-group b ticket rg ruh spot orderly w =
    let going = orderly.writes ticket.queue w.going w.ticket_is.going_is in
    record {
      group = omega (arith, going.group, w.next.rg_is);
      handle = omega (arith, going.in_force w.next.next.there, w.next.ruh_is);
    }

-- what the change of the entry is
of-entry : (b now : BookSeen) (ticket : Ticket) (rg ruh : ℕ) (spot : Spot) → IsOrderly b.config (point_in b) → b ≡ now → IsWaiting now ticket → ((g : Going) → IsTicketOf (state_in now) ticket g → IsNextOfHandle now ticket g rg ruh spot) → IsChangeOfEntry b.config (point_in b) (shut_entry rg ruh) (changes.Shut rg ruh) []
of-entry b now ticket rg ruh spot orderly same waiting next =
    let of = of-group b ticket rg ruh spot orderly.state (waiting-for b now ticket rg ruh spot same waiting next) in
    of-shut b.config (point_in b) rg ruh orderly (record { group = of.group; handle = of.handle })

pub make-requires-clause-can : goal.make-requires-clause-can
make-requires-clause-can c = can-make c.self.inside.config c.self.inside.log.entries _ _ c.self.inside.tables (shut_entry c.args.rg c.args.ruh) (changes.Shut c.args.rg c.args.ruh) [] c.self.invariant.held
    (of-entry _ c.args.self.now c.args.ticket.now c.args.rg c.args.ruh c.args.spot c.self.invariant.held.orderly c.self.view_is c.requires.waiting c.requires.next)

pub make-requires-clause-small : goal.make-requires-clause-small
make-requires-clause-small c =
    let old = c.self.inside in
    small-totals old.config old.origin old.log old.tables c.position.result c.self.invariant c.position.ensures.position c.position.ensures.small c.position.ensures.few

pub make-requires-clause-limits : goal.make-requires-clause-limits
unfolding is_within_limits
make-requires-clause-limits c = refl

-- the outline behind it
behind : (c : goal.After-push) → IsOutlineBehind c.self.inside.config c.self.inside.origin.found c.self.inside.log.entries (shut_entry c.args.rg c.args.ruh) c.make.new.outline
behind c =
    let old = c.self.inside in
    made-behind old.config old.origin.found (pages_held old.config old.origin.cells) old.log.entries old.tables (shut_entry c.args.rg c.args.ruh) (changes.Shut c.args.rg c.args.ruh) [] c.make.new.outline c.self.invariant.held (omega arith)
    (of-entry (book_of old.config old.origin old.log old.tables) c.args.self.now c.args.ticket.now c.args.rg c.args.ruh c.args.spot c.self.invariant.held.orderly c.self.view_is c.requires.waiting c.requires.next) c.make.ensures

pub invariant_of-self : goal.invariant_of-self
invariant_of-self c =
    let old = c.self.inside in
    let b : BookSeen = book_of old.config old.origin old.log old.tables in
    let w = waiting-for b c.args.self.now c.args.ticket.now c.args.rg c.args.ruh c.args.spot c.self.view_is c.requires.waiting c.requires.next in
    let may : MayPut old.tables.pages c.args.rg c.args.ruh c.args.spot = may-put b c.args.ticket.now c.args.rg c.args.ruh c.args.spot w in
    let of = of-group b c.args.ticket.now c.args.rg c.args.ruh c.args.spot c.self.invariant.held.orderly.state w in
    let now : Tables = record old.tables { outline = c.make.new.outline; pages = c.shut.new.self } in
    record {
      held = subst (λ (es : List Entry). IsHeld old.config old.origin.found (pages_held old.config old.origin.cells) es now) (sym c.push.ensures.entries_are)
          (held-shut old.config old.origin.found (pages_held old.config old.origin.cells) old.log.entries old.tables now c.args.rg c.args.ruh c.args.spot c.self.invariant.held of.group of.handle
          (fresh-page old.tables.pages c.args.rg c.args.ruh c.args.spot c.joined.ensures may) c.shut.ensures refl (behind c));
      before_is = c.push.ensures.before_is ∙ c.self.invariant.before_is;
      names_are = c.push.ensures.names_are ∙ c.self.invariant.names_are;
      numbers = numbers-logged old.tables.outline.generation now.outline.generation old.log c.push.new.self _ (generation-shut old.config old.origin.found old.log.entries c.args.rg c.args.ruh old.tables.outline now.outline c.self.invariant.held.outline_is (behind c)) c.push.ensures c.self.invariant.numbers;
    }

pub returns : goal.returns
returns c g is =
    let old = c.self.inside in
    let b : BookSeen = book_of old.config old.origin old.log old.tables in
    let w = waiting-for b c.args.self.now c.args.ticket.now c.args.rg c.args.ruh c.args.spot c.self.view_is c.requires.waiting c.requires.next in
    let of = of-group b c.args.ticket.now c.args.rg c.args.ruh c.args.spot c.self.invariant.held.orderly.state w in
    let now : Tables = record old.tables { outline = c.make.new.outline; pages = c.shut.new.self } in
    let new : BookSeen = book_of old.config old.origin c.push.new.self now in
    let longer : IsLonger b new (shut_entry c.args.rg c.args.ruh ∷ []) = record { config_is = refl; found_is = refl; opened_is = refl; entries_are = c.push.ensures.entries_are; spare_is = c.push.ensures.spare_is; spent_is = c.push.ensures.spent_is; room_is = c.push.ensures.room_is } in
    let before : IsTicketOf (state_in b) c.args.ticket.now g = subst (λ (x : BookSeen). IsTicketOf (state_in x) c.args.ticket.now g) (sym c.self.view_is) is in
    subst (λ (x : BookSeen). Shuts x new c.args.ticket.now g c.args.rg c.args.ruh c.args.spot) c.self.view_is
    (record {
      longer = longer;
      follows = λ told. shut-follows told old.config (point_in b) c.args.rg c.args.ruh of.group of.handle;
      going = still-going b new c.args.ticket.now g c.args.rg c.args.ruh longer before;
      unit = c.shut.ensures;
    })
