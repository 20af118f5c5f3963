use Rattle.std.proofs.Common.{◌≡◌, ◌∙◌, ℕ, Option, Some, ap, arith, subst, sym}
use Rattle.std.specs.Option.{option_flatten}
use Rattle.std.proofs.lemmas.Option.{slice_get-get_or}
use Rattle.fdp_book.specs.declared.flight.Flight.{Flight}
use Rattle.fdp_book.specs.Held.{flight_in}
use Rattle.fdp_book.specs.Namespaces.{Releases, pages_to}
use Rattle.fdp_book.proofs.Releasing.{next-owned, releases-next, releases-none}
use Rattle.fdp_owners.specs.OwnerTable.{owner_at}
use Rattle.fdp_readings.specs.fdp_pages.Steps.{AreOwned, without}
use Rattle.fdp_book.proofs.book.namespaces.release_writes.Goals as goal

pub loop-queue-init : goal.loop-queue-init
loop-queue-init c = releases-none c.args.outline.now c.args.flights.now c.args.nsid c.args.pages.now c.joined.ensures

pub release_write-requires : goal.release_write-requires
release_write-requires c =
    let row : flight_in c.args.flights.now c.loop-queue.queue ≡ c.index-flights-queue.result = ap option_flatten (slice_get-get_or c.args.flights.now c.loop-queue.queue c.index-flights-queue.result c.loop-queue-test.true ∙ ap Some (sym c.index-flights-queue.is)) in
    subst (λ (o : Option Flight). AreOwned c.loop-queue.pages.owners (pages_to c.args.outline.now c.args.nsid o)) row
    (next-owned c.args.outline.now c.args.flights.now c.args.nsid c.loop-queue.queue c.args.pages.now c.loop-queue.pages c.requires c.loop-queue.invariant)

pub loop-queue-preserved : goal.loop-queue-preserved
loop-queue-preserved c =
    let row : flight_in c.args.flights.now c.loop-queue.queue ≡ c.index-flights-queue.result = ap option_flatten (slice_get-get_or c.args.flights.now c.loop-queue.queue c.index-flights-queue.result c.loop-queue-test.true ∙ ap Some (sym c.index-flights-queue.is)) in
    releases-next c.args.outline.now c.args.flights.now c.args.nsid c.loop-queue.queue c.args.pages.now c.loop-queue.pages c.release_write.new.pages
    (c.release_write.ensures.owners ∙ ap (λ (o : Option Flight). without (owner_at c.loop-queue.pages.owners) (pages_to c.args.outline.now c.args.nsid o)) (sym row))
    c.release_write.ensures.rest c.loop-queue.invariant

pub returns : goal.returns
returns c =
    subst (λ (k : ℕ). Releases c.args.outline.now c.args.flights.now c.args.nsid k c.args.pages.now c.loop-queue.pages) (omega (arith, c.loop-queue.auto.queue-end, c.loop-queue-test.false)) c.loop-queue.invariant
