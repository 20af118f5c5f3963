use Rattle.std.proofs.Common.{◌∙◌, ℕ, Option, ap, refl, slice_set, subst, sym}
use Rattle.fdp_book.specs.declared.flight.Flight.{Flight}
use Rattle.fdp_book.specs.Held.{flight_in}
use Rattle.fdp_book.specs.Moving.{HasPageAt, HasPageIn, IsMovedIn, PutsPageAt}
use Rattle.fdp_book.proofs.Placing.Steps.{slot-is}
use Rattle.fdp_book.proofs.Relocating.Placing.{row-there}
use Rattle.fdp_owners.specs.declared.owner.Holder.{Holder}
use Rattle.fdp_book.proofs.book.move_pass.put_owned.Goals as goal

pub put_page-requires : goal.put_page-requires
put_page-requires c =
    let has : HasPageAt (flight_in c.args.flights.now.items c.in-Flight.queue) c.args.owner.spare.index = subst (λ (x : Holder). HasPageIn c.args.map.now c.args.flights.now.items x c.args.owner.spare) c.in-Flight.is c.requires.page in
    let slot = slot-is c.args.flights.now.items c.in-Flight.queue c.from.result c.index_mut-flight.result.now has.flight c.from.ensures (row-there c.args.flights.now.items c.in-Flight.queue has.flight has.flight_is) has.flight_is c.index_mut-flight.ensures.value in
    record { flight = has.flight; flight_is = slot; within = has.within }

pub returns-in-Flight : goal.returns-in-Flight
returns-in-Flight c =
    let has : HasPageAt (flight_in c.args.flights.now.items c.in-Flight.queue) c.args.owner.spare.index = subst (λ (x : Holder). HasPageIn c.args.map.now c.args.flights.now.items x c.args.owner.spare) c.in-Flight.is c.requires.page in
    let slot = slot-is c.args.flights.now.items c.in-Flight.queue c.from.result c.index_mut-flight.result.now has.flight c.from.ensures (row-there c.args.flights.now.items c.in-Flight.queue has.flight has.flight_is) has.flight_is c.index_mut-flight.ensures.value in
    subst (λ (x : Holder). IsMovedIn c.args.map.now c.args.map.now c.args.flights.now.items (slice_set c.args.flights.now.items c.from.result c.put_page.new.flight) x c.args.owner.spare c.args.to) (sym c.in-Flight.is) (
      record {
        flight = c.put_page.new.flight;
        flight_is = subst (λ (o : Option Flight). PutsPageAt o c.put_page.new.flight c.args.owner.spare.index c.args.to) (slot ∙ sym has.flight_is) c.put_page.ensures;
        flights_are = ap (λ (i : ℕ). slice_set c.args.flights.now.items i c.put_page.new.flight) c.from.ensures;
      },
      refl,
    )
