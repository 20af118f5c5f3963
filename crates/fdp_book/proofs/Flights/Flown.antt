-- The flight of a ticket.
use Rattle.std.proofs.Common.{◌≡◌, ℕ, zero, suc, ◌+◌, ◌<◌, ◌≤◌, Bool, List, [], ◌∷◌, length, slice_index_or, Option, Some, None, refl, sym, ◌∙◌, ap, subst, arith}
use Rattle.std.specs.Prelude.{IfSome, IsTrue, if◌then◌else◌, slice_get, option_map}
use Rattle.fdp_base.specs.CommandKinds.{write_of}
use Rattle.fdp_rules.specs.PlainState.{Going, PlainState}
use Rattle.fdp_rules.specs.Room.{size_of}
use Rattle.fdp_book.specs.declared.flight.Flight.{Flight}
use Rattle.fdp_book.specs.declared.ticket.Ticket.{Ticket}
use Rattle.fdp_book.specs.Book.{BookSeen, state_in, first_in}
use Rattle.fdp_book.specs.Steps.{IsFlying}
use Rattle.fdp_base.specs.declared.config.DriveConfig.{DriveConfig}
use Rattle.fdp_base.specs.declared.entry.Entry.{Entry}
use Rattle.fdp_base.specs.declared.entry.Spot.{Spot}
use Rattle.fdp_book.proofs.Leading.{live_of, page-led}
use Rattle.fdp_readings.specs.fdp_locations.Located.{next_in}
use Rattle.fdp_readings.specs.fdp_locations.Written.{Written}
use Rattle.fdp_pointers.specs.Contents.{PageContent, page_of_write}
use Rattle.fdp_pointers.specs.Pointers.{Pointer.of_flight}
use Rattle.fdp_pointers.proofs.Tables.{from-flight, site-at}
use Rattle.fdp_rules.specs.History.{Found, point_of}
use Rattle.fdp_rules.specs.PlainState.{PageName.written}
use Rattle.fdp_rules.specs.Point.{Point}
use Rattle.fdp_rules.specs.Sites.{is_there}
use Rattle.fdp_book.specs.Flown.{IsFlightAt}
use Rattle.fdp_book.specs.Held.{IsHeld, flight_in, going_of}
use Rattle.fdp_book.specs.Tickets.{IsTicketOf}
use Rattle.fdp_book.specs.declared.tables.Tables.{Tables}
use Rattle.fdp_base.specs.declared.command.Write.{Write}

-- the flight in a queue, by its place in the list
pub flight_in-index : (flights : List (Option Flight)) (queue : ℕ) (other : Option Flight) → queue < length flights → flight_in flights queue ≡ slice_index_or flights queue other
flight_in-index [] queue other there = absurd (omega (arith, there))
flight_in-index (x ∷ xs) zero other there = refl
flight_in-index (x ∷ xs) (suc queue) other there = flight_in-index xs queue other (omega (arith, there))

-- a fact of a write, where there is one, by a weaker one
pub if_write : (P Q : Write → Type 0) (w : Option Write) → ((x : Write) → P x → Q x) → IfSome w P → IfSome w Q
if_write P Q None f h = tt
if_write P Q (Some x) f h = f x h

-- what is said of a write that is going in a queue, of the flight there
pub flown-going : (s : PlainState) (flights : List (Option Flight)) (queue : ℕ) (f : Flight) (g : Going) → ((q : ℕ) → s.going q ≡ option_map going_of (flight_in flights q)) → flight_in flights queue ≡ Some f → s.going queue ≡ Some g → going_of f ≡ g
flown-going s flights queue f g all is e =
    let one : Some (going_of f) ≡ Some g = ap (option_map going_of) (sym is) ∙ sym (all queue) ∙ e in
    cc

named-site : (c : DriveConfig) (p : Point) (index : ℕ) (g : Going) (f : Flight) (x : PageContent) → g ≡ going_of f → page_of_write c g index ≡ x → p.trail.site (written f.ticket index) ≡ p.trail.site x.name
named-site c p index g f x same is = ap (λ (h : Going). p.trail.site (written h.ticket index)) (sym same) ∙ ap (λ (k : PageContent). p.trail.site k.name) is

-- each page of a flight stands where the flight says
pub page-sited : (c : DriveConfig) (found : Found) (first : Spot → Option Written) (es : List Entry) (t : Tables) (queue index : ℕ) (spot : Spot) (f : Flight) → IsHeld c found first es t → flight_in t.flights.items queue ≡ Some f → IsTrue (is_there (point_of c found es).state (going_of f)) → slice_get f.pages.items index ≡ Some spot
    → (point_of c found es).trail.site (written f.ticket index) ≡ Some spot
page-sited c found first es t queue index spot f h is there e =
    let p : Point = point_of c found es in
    let s : PlainState = p.state in
    let live : live_of s (flight_in t.flights.items queue) ≡ f.pages.items = ap (live_of s) is ∙ ap (λ (b : Bool). if b then f.pages.items else []) there in
    let page = page-led s t.map t.flights.items h.pages_are.at queue index spot h.pages_are.leads (ap (λ (xs : List Spot). slice_get xs index) live ∙ e) in
    let content = site-at c p (next_in t.pages.units) h.pages_are.at h.pages_are.led.table (of_flight queue index) page.0 page.1 in
    let flight = from-flight c s index (s.going queue) content.0 content.1 in
    let both : Some flight.0 ≡ Some (going_of f) = sym flight.1 ∙ h.flights_are.going queue ∙ ap (option_map going_of) is in
    let same : flight.0 ≡ going_of f = cc in
    named-site c p index flight.0 f content.0 same flight.3 ∙ content.2 ∙ ap Some page.2

-- the flight of a ticket is what it is said to be
pub flight_at : (b : BookSeen) (tables : Tables) (ticket : Ticket) (f : Flight) → IsHeld b.config b.found (first_in b) b.entries tables → IsFlying b ticket → flight_in tables.flights.items ticket.queue ≡ Some f → IsFlightAt b ticket f
flight_at b tables ticket f h flying is =
    let s : PlainState = state_in b in
    let same : going_of f ≡ flying.going = flown-going s tables.flights.items ticket.queue f flying.going h.flights_are.going is flying.ticket_is.going_is in
    let going : s.going ticket.queue ≡ Some (going_of f) = h.flights_are.going ticket.queue ∙ ap (option_map going_of) is in
    let orderly = h.orderly.state.writes ticket.queue (going_of f) going in
    record {
      config = h.config;
      going = subst (IsTicketOf s ticket) (sym same) flying.ticket_is;
      orderly = orderly;
      target = h.flights_are.target ticket.queue f is;
      pages = λ there index spot e. page-sited b.config b.found (first_in b) b.entries tables ticket.queue index spot f h is there e;
      end = λ there. if_write (λ w. w.slba + w.count ≤ size_of s w.nsid) (λ w. w.slba + w.count ≤ 262144) (write_of f.room.command)
          (λ w within. let size : size_of s w.nsid ≡ _ = h.map_is.sizes w.nsid in omega (arith, within, size, h.map_is.most w.nsid)) (orderly.range there);
    }

-- a queue with a write that is going has a place in the list
pub queue-below : (b : BookSeen) (tables : Tables) (ticket : Ticket) → IsHeld b.config b.found (first_in b) b.entries tables → IsFlying b ticket → ticket.queue < length tables.flights.items
queue-below b tables ticket h flying =
    let orderly = h.orderly.state.writes ticket.queue flying.going flying.ticket_is.going_is in
    omega (arith, h.flights_are.rows, orderly.queue_is.1)
