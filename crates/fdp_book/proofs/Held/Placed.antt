-- What a page that is placed leaves of the tables.
use Rattle.std.proofs.Common.{◌≡◌, ◌≢◌, ℕ, zero, suc, ◌+◌, ◌≤◌, ◌<◌, Bool, true, false, List, [], ◌∷◌, ◌++◌, length, Option, Some, None, slice_get, slice_set, refl, sym, ◌∙◌, ap, subst, arith, ⊎_elim, inl, eq-eqb, ne_eqb}
use Rattle.std.specs.Prelude.{◌==◌, ◌&&◌, IfSome, IsTrue, if◌then◌else◌, option_and_then, option_map}
use Rattle.std.proofs.lemmas.Bool.{cases_eq}
use Rattle.std.proofs.Math.ListN.{length-set}
use Rattle.fdp_base.specs.declared.command.Write.{Write}
use Rattle.fdp_base.specs.declared.config.DriveConfig.{DriveConfig}
use Rattle.fdp_base.specs.declared.entry.Entry.{Entry}
use Rattle.fdp_base.specs.declared.entry.Entry.TheVariants as entries
use Rattle.fdp_base.specs.declared.entry.Spot.{Spot}
use Rattle.fdp_base.specs.CommandKinds.{write_of}
use Rattle.fdp_base.specs.Numbers.{with_at}
use Rattle.fdp_book.specs.declared.flight.Flight.{Flight}
use Rattle.fdp_book.specs.declared.tables.Tables.{Tables}
use Rattle.fdp_book.specs.Flown.{IsPageMore}
use Rattle.fdp_book.specs.Held.{AreFlightsOf, IsHeld, IsMapOf, flight_in, going_of, lead_in, page_in}
use Rattle.fdp_book.specs.Outlined.{Counts}
use Rattle.fdp_book.proofs.Flights.Rows.{flight_in-set, flown-set, going-set}
use Rattle.fdp_book.proofs.Held.Ended.{passes-same}
use Rattle.fdp_book.proofs.Held.Next.{held-next}
use Rattle.fdp_book.proofs.Kept.{IsAlike, flight-alike, map-alike, there-alike}
use Rattle.fdp_book.proofs.Leading.{pages-same}
use Rattle.fdp_book.proofs.Outlining.{behind-counted}
use Rattle.fdp_book.proofs.Placing.Fresh.{IsFreshPage, fresh-apart}
use Rattle.fdp_history.proofs.Placing.{going_with-is}
use Rattle.fdp_history.specs.OrderlyState.{IsOrderlyState}
use Rattle.fdp_readings.specs.fdp_locations.Located.{LeadsTo, next_in}
use Rattle.fdp_readings.specs.fdp_locations.Written.{Written, next_spare, written_by}
use Rattle.fdp_readings.proofs.fdp_locations.Placed.{IsNewPage, going-placed, led-placed}
use Rattle.fdp_readings.proofs.fdp_locations.Units.{changed-next, puts-alike, units-referring}
use Rattle.fdp_handles.specs.HandleTable.{reference_at}
use Rattle.fdp_map.specs.MapTable.{MapTable}
use Rattle.fdp_base.specs.declared.spare.DataSpare.{DataSpare}
use Rattle.fdp_owners.specs.OwnerTable.{pointer_in}
use Rattle.fdp_owners.specs.declared.owner.Holder.{Holder}
use Rattle.fdp_owners.specs.declared.owner.Holder.TheVariants as holders
use Rattle.fdp_owners.specs.declared.owner.Owner.{Owner}
use Rattle.fdp_owners.specs.Owned.{page_of}
use Rattle.fdp_owners.specs.OwnerTable.{pointer_of}
use Rattle.fdp_readings.specs.fdp_pages.Joined.{AreJoined}
use Rattle.fdp_readings.specs.fdp_pages.PageTables.{copies_at, passes_at}
use Rattle.fdp_readings.specs.fdp_pages.Steps.{PutsPage}
use Rattle.fdp_passes.specs.GroupPasses.{GroupPasses, Pass}
use Rattle.fdp_pointers.specs.Facts.{Page}
use Rattle.fdp_pointers.specs.Pointers.{Behind, Pointer.of_block, Pointer.of_flight, pointed}
use Rattle.fdp_rules.specs.Change.{after, changed_by, one_less, one_more_placed, placed_references}
use Rattle.fdp_rules.specs.Effect.{with_reference}
use Rattle.fdp_rules.specs.History.{Found, point_of}
use Rattle.fdp_rules.specs.Next.{next}
use Rattle.fdp_rules.specs.PlainState.{Going, PlainState, Reference}
use Rattle.fdp_rules.specs.Point.{Point}
use Rattle.fdp_rules.specs.Sites.{is_there}
use Rattle.fdp_rules.specs.Step.{Follows, IsOnTarget, IsPlaced}
use Rattle.fdp_readings.proofs.fdp_trails.Grouping.{all-placed}
use Rattle.fdp_units.specs.UnitTable.{Cut}

abbrev placed_entry : ℕ → ℕ → Spot → Entry
placed_entry ticket index spot = entries.Placed (record { ticket = ticket; index = index; unit = spot.unit; page = spot.page })

placed-alike : (c : DriveConfig) (p : Point) (ticket index : ℕ) (spot : Spot) → IsAlike p.state (next c p (placed_entry ticket index spot)).state
unfolding next after changed_by
placed-alike c p ticket index spot = record { enabled = refl; index = refl; generation = refl; namespaces = refl }

placed-blocks : (c : DriveConfig) (p : Point) (ticket index : ℕ) (spot : Spot) → (next c p (placed_entry ticket index spot)).state.blocks ≡ p.state.blocks
unfolding next after changed_by
placed-blocks c p ticket index spot = refl

-- the references after it
record HasReferences (c : DriveConfig) (s n : PlainState) (rg ruh unit : ℕ) : Type 0 where
  references : n.references ≡ with_reference s.references rg ruh (one_less c unit (s.references rg ruh))
  is_lost : n.is_lost ≡ s.is_lost
  is_worn : n.is_worn ≡ s.is_worn

placed-references : (c : DriveConfig) (p : Point) (queue index : ℕ) (f : Flight) (spot : Spot) → IsOrderlyState c p.state → 1 ≤ queue → queue ≤ c.queues → p.state.going queue ≡ Some (going_of f) → HasReferences c p.state (next c p (placed_entry f.ticket index spot)).state f.rg f.ruh spot.unit
unfolding next after changed_by
placed-references c p queue index f spot orderly low high going = record {
  references = ap (placed_references c p.state.references spot.unit) (going_with-is c p.state queue f.ticket (going_of f) orderly low high going refl);
  is_lost = refl;
  is_worn = refl;
}

-- ---- where the pointers lead

shown : (b : Bool) (xs ys : List Spot) (i : ℕ) → slice_get xs i ≡ slice_get ys i → (if b then slice_get xs i else None) ≡ (if b then slice_get ys i else None)
shown true xs ys i e = e
shown false xs ys i e = refl

no_spots : List Spot
no_spots = []

get-past : (k : ℕ) → slice_get no_spots k ≡ slice_get no_spots (suc k)
unfolding no_spots
get-past zero = refl
get-past (suc k) = refl

get-more : (xs : List Spot) (x : Spot) (i : ℕ) → i ≢ length xs → slice_get (xs ++ x ∷ []) i ≡ slice_get xs i
unfolding no_spots
get-more [] x zero ne = absurd (ne refl)
get-more [] x (suc i) ne = get-past i
get-more (y ∷ ys) x zero ne = refl
get-more (y ∷ ys) x (suc i) ne = get-more ys x i (λ e. ne (ap suc e))

get-last : (xs : List Spot) (x : Spot) → slice_get (xs ++ x ∷ []) (length xs) ≡ Some x
get-last [] x = refl
get-last (y ∷ ys) x = get-last ys x

-- the pages of the flight with one page more
page-more : (s n : PlainState) (f more : Flight) (spot : Spot) (i : ℕ) → n.namespaces ≡ s.namespaces → IsPageMore f spot more → i ≢ length f.pages.items → page_in n i more ≡ page_in s i f
page-more s n f more spot i same h ne =
    let command : more.room.command ≡ f.room.command = ap (λ (g : Going). g.command) h.going_is in
    let birth : more.birth ≡ f.birth = ap (λ (g : Going). g.birth) h.going_is in
    let there : is_there n (going_of more) ≡ is_there s (going_of f) = ap (is_there n) h.going_is ∙ there-alike s n (going_of f) same in
    ap (λ (b : Bool). if b then slice_get more.pages.items i else None) there
    ∙ shown (is_there s (going_of f)) more.pages.items f.pages.items i (ap (λ (xs : List Spot). slice_get xs i) h.pages_are ∙ get-more f.pages.items spot i ne)

page-last : (s n : PlainState) (f more : Flight) (spot : Spot) → n.namespaces ≡ s.namespaces → IsPageMore f spot more → IsTrue (is_there s (going_of f)) → page_in n (length f.pages.items) more ≡ Some spot
page-last s n f more spot same h there =
    ap (λ (b : Bool). if b then slice_get more.pages.items (length f.pages.items) else None) (ap (is_there n) h.going_is ∙ there-alike s n (going_of f) same ∙ there)
    ∙ ap (λ (xs : List Spot). slice_get xs (length f.pages.items)) h.pages_are ∙ get-last f.pages.items spot

leads-more : (s n : PlainState) (map : MapTable) (flights new : List (Option Flight)) (queue : ℕ) (f more : Flight) (spot : Spot) (y : Page) (at : Behind Page) → n.namespaces ≡ s.namespaces → queue < length flights → flight_in flights queue ≡ Some f → new ≡ slice_set flights queue (Some more) → IsPageMore f spot more → IsTrue (is_there s (going_of f)) → y.spot ≡ spot → LeadsTo (lead_in s map flights) at → LeadsTo (lead_in n map new) (pointed at queue (length f.pages.items) y)
leads-more s n map flights new queue f more spot y at same there is new_is h ns page leads (of_block nsid lba) = leads (of_block nsid lba)
leads-more s n map flights new queue f more spot y at same there is new_is h ns page leads (of_flight q i) =
    let row : flight_in new q ≡ with_at (flight_in flights) queue (Some more) q = ap (λ (fs : List (Option Flight)). flight_in fs q) new_is ∙ flight_in-set flights queue (Some more) there q in
    ⊎_elim
    (λ (e : q ≡ queue).
    let here : flight_in new q ≡ Some more = row ∙ ap (λ (b : Bool). if b then Some more else flight_in flights q) (eq-eqb q queue e) in
    ⊎_elim
    (λ (last : i ≡ length f.pages.items).
    ap (λ (b : Bool). option_map (λ (z : Page). z.spot) (if b && i == length f.pages.items then Some y else at (of_flight q i))) (eq-eqb q queue e)
    ∙ ap (λ (b : Bool). option_map (λ (z : Page). z.spot) (if b then Some y else at (of_flight q i))) (eq-eqb i (length f.pages.items) last)
    ∙ ap Some page
    ∙ sym (ap (option_and_then (page_in n i)) here ∙ ap (λ (k : ℕ). page_in n k more) last ∙ page-last s n f more spot same h ns))
    (λ (ne : i ≢ length f.pages.items).
    ap (λ (b : Bool). option_map (λ (z : Page). z.spot) (if b && i == length f.pages.items then Some y else at (of_flight q i))) (eq-eqb q queue e)
    ∙ ap (λ (b : Bool). option_map (λ (z : Page). z.spot) (if b then Some y else at (of_flight q i))) (ne_eqb i (length f.pages.items) ne)
    ∙ leads (of_flight q i)
    ∙ ap (option_and_then (page_in s i)) (ap (flight_in flights) e ∙ is)
    ∙ sym (ap (option_and_then (page_in n i)) here ∙ page-more s n f more spot i same h ne))
    (cases_eq i (length f.pages.items)))
    (λ (ne : q ≢ queue).
    ap (λ (b : Bool). option_map (λ (z : Page). z.spot) (if b && i == length f.pages.items then Some y else at (of_flight q i))) (ne_eqb q queue ne)
    ∙ leads (of_flight q i)
    ∙ sym (ap (option_and_then (page_in n i)) (row ∙ ap (λ (b : Bool). if b then Some more else flight_in flights q) (ne_eqb q queue ne)) ∙ pages-same s n i (flight_in flights q) same))
    (cases_eq q queue)

-- who points to a page in the hands of a write
points-to : (x : Owner) (queue index : ℕ) → x.holder ≡ holders.Flight queue → x.spare.index ≡ index → pointer_of x ≡ of_flight queue index
points-to x queue index holder is = ap (λ (h : Holder). pointer_in h x.spare) holder ∙ ap (of_flight queue) is

-- ---- the tables

-- the tables with a page more of the flight in a queue
pub record HasPageMore (s : PlainState) (old new : Tables) (queue : ℕ) (f more : Flight) (spot : Spot) (w : Write) (x : Owner) : Type 0 where
  pub counts : Counts 1 0 old.outline new.outline
  pub map : new.map ≡ old.map
  pub flights_are : new.flights.items ≡ slice_set old.flights.items queue (Some more)
  pub flight : IsPageMore f spot more
  pub write : write_of f.room.command ≡ Some w
  pub spare : x.spare ≡ next_spare s (going_of f) w
  pub holder : x.holder ≡ holders.Flight queue
  pub puts : PutsPage old.pages new.pages f.rg f.ruh spot x
  pub fresh : IsFreshPage old.pages f.rg spot

flights-more : (c : DriveConfig) (p : Point) (index : ℕ) (flights new : List (Option Flight)) (queue : ℕ) (f more : Flight) (spot : Spot) → IsOrderlyState c p.state → (placed : IsPlaced c p f.ticket index spot.unit spot.page) → placed.queue ≡ queue → placed.going ≡ going_of f → queue < length flights → flight_in flights queue ≡ Some f → new ≡ slice_set flights queue (Some more) → IsPageMore f spot more →
    AreFlightsOf c p.state flights → AreFlightsOf c (next c p (placed_entry f.ticket index spot)).state new
flights-more c p index flights new queue f more spot orderly placed queue_is going_is there is new_is h flights_are =
    let n : PlainState = (next c p (placed_entry f.ticket index spot)).state in
    let a : IsAlike p.state n = placed-alike c p f.ticket index spot in
    subst (λ (xs : List (Option Flight)). AreFlightsOf c n xs) (sym new_is)
    (record {
      rows = length-set flights queue (Some more) ∙ flights_are.rows;
      going = λ k.
          going-placed c p f.ticket index spot.unit spot.page orderly placed k
          ∙ ap (λ (q : ℕ). with_at p.state.going q (Some (one_more_placed placed.going)) k) queue_is
          ∙ ap (λ (g : Going). with_at p.state.going queue (Some (one_more_placed g)) k) going_is
          ∙ going-set p.state.going flights queue (Some (one_more_placed (going_of f))) (Some more) there (ap (λ (g : Going). Some g) (sym h.going_is)) flights_are.going k;
      target = flown-set (λ x. IsTrue (is_there n (going_of x)) → IsOnTarget c n (going_of x)) flights queue (Some more) there
          (λ x e. let one : more ≡ x = cc in subst (λ (y : Flight). IsTrue (is_there n (going_of y)) → IsOnTarget c n (going_of y)) one
          (subst (λ (g : Going). IsTrue (is_there n g) → IsOnTarget c n g) (sym h.going_is) (flight-alike c p.state n f a (flights_are.target queue f is))))
          (λ k x e. flight-alike c p.state n x a (flights_are.target k x e));
    })

pub held-placed : (c : DriveConfig) (found : Found) (first : Spot → Option Written) (es : List Entry) (t now : Tables) (queue : ℕ) (f more : Flight) (spot : Spot) (w : Write) (x : Owner) →
    IsHeld c found first es t → AreJoined t.pages → flight_in t.flights.items queue ≡ Some f →
    ((told : Bool) → Follows told c (point_of c found es) (placed_entry f.ticket (length f.pages.items) spot)) →
    HasPageMore (point_of c found es).state t now queue f more spot w x →
    IsHeld c found first (es ++ placed_entry f.ticket (length f.pages.items) spot ∷ []) now
unfolding Follows
held-placed c found first es t now queue f more spot w x h joined is follows m =
    let index : ℕ = length f.pages.items in
    let e : Entry = placed_entry f.ticket index spot in
    let p : Point = point_of c found es in
    let q : Point = next c p e in
    let a : IsAlike p.state q.state = placed-alike c p f.ticket index spot in
    let going : p.state.going queue ≡ Some (going_of f) = h.flights_are.going queue ∙ ap (option_map going_of) is in
    let write_going = h.orderly.state.writes queue (going_of f) going in
    let there : queue < length t.flights.items = omega (arith, write_going.queue_is.1, h.flights_are.rows) in
    let placed : IsPlaced c p f.ticket index spot.unit spot.page = follows true in
    let queue_is : placed.queue ≡ queue = h.orderly.state.tickets placed.queue queue placed.going (going_of f) placed.going_is going placed.same in
    let one : Some placed.going ≡ Some (going_of f) = sym placed.going_is ∙ ap p.state.going queue_is ∙ going in
    let going_is : placed.going ≡ going_of f = cc in
    let ns : IsTrue (is_there p.state (going_of f)) = ap (is_there p.state) (sym going_is) ∙ placed.there in
    let references = placed-references c p queue index f spot h.orderly.state write_going.queue_is.0 write_going.queue_is.1 going in
    let pages = h.pages_are in
    let y : Page = page_of spot x in
    let refer : reference_at now.pages.handles ≡ with_reference (reference_at t.pages.handles) f.rg f.ruh (one_less c spot.unit (p.state.references f.rg f.ruh)) =
    m.puts.handles.references c h.units_are.unit_pages ∙ ap (λ (r : Reference). with_reference (reference_at t.pages.handles) f.rg f.ruh (one_less c spot.unit r)) (sym (h.units_are.references f.rg f.ruh)) in
    let at_is : pointed pages.at placed.queue placed.going.placed y ≡ pointed pages.at queue index y = ap (λ (k : ℕ). pointed pages.at k placed.going.placed y) queue_is ∙ ap (λ (g : Going). pointed pages.at queue g.placed y) going_is in
    let new : IsNewPage c p t.pages now.pages placed.queue placed.going w spot x = record {
      write = ap (λ (g : Going). write_of g.command) going_is ∙ m.write;
      fresh = m.fresh.fresh;
      spare = m.spare ∙ ap (λ (g : Going). next_spare p.state g w) (sym going_is);
      points = points-to x queue index m.holder (ap (λ (s : DataSpare). s.index) m.spare) ∙ ap (λ (k : ℕ). of_flight k index) (sym queue_is) ∙ ap (λ (g : Going). of_flight placed.queue g.placed) (sym going_is);
      owners = m.puts.owners;
      next = λ unit. changed-next t.pages.units now.pages.units spot.unit _ m.puts.unit unit ∙ sym (ap (λ (n : ℕ). with_at (next_in t.pages.units) spot.unit (n + 1) unit) m.fresh.fresh);
    } in
    held-next true c found first es e t now h (follows true)
    (record {
      map_is = subst (λ (z : MapTable). IsMapOf c q.state z) (sym m.map) (map-alike c p.state q.state t.map a (placed-blocks c p f.ticket index spot) h.map_is);
      flights_are = flights-more c p index t.flights.items now.flights.items queue f more spot h.orderly.state placed queue_is going_is there is m.flights_are m.flight h.flights_are;
      units_are = units-referring c p.state q.state t.pages now.pages f.rg f.ruh (one_less c spot.unit (p.state.references f.rg f.ruh)) a.enabled a.index references.is_lost references.is_worn references.references refer m.puts.handles.rest
          (puts-alike t.pages now.pages f.rg f.ruh spot x m.fresh.kept m.puts) h.units_are;
    })
    (behind-counted c found es e t.outline now.outline refl h.orderly h.standing (λ no. follows true) h.outline_is h.few m.counts)
    (record {
      at = pointed pages.at placed.queue placed.going.placed y;
      led = led-placed c p f.ticket index spot (written_by c found first es) pages.at t.pages now.pages w x h.orderly.state h.standing placed new
          (all-placed c p (record { ticket = f.ticket; index = index; unit = spot.unit; page = spot.page }) placed.queue placed.going.placed y pages.at c.groups (passes_at t.pages) (passes_at now.pages)
          (λ rg low. inl (passes-same t.pages now.pages m.puts.passes rg))
          (λ rg low. subst (λ (ps : List GroupPasses). IfSome (passes_at (record t.pages { passes = ps }) rg).pass (λ (pass : Pass). spot.unit ≢ pass.victim)) (sym m.puts.passes) (fresh-apart t.pages f.rg rg spot joined m.fresh (subst (λ (k : ℕ). rg < k) (sym (ap (λ (u : Cut). u.groups) h.units_are.cut)) low)))
          pages.led.passes)
          (λ rg. ap (λ (ps : List GroupPasses). copies_at (record t.pages { passes = ps }) rg) m.puts.passes)
          pages.led;
      leads = subst (λ (z : MapTable). LeadsTo (lead_in q.state z now.flights.items) (pointed pages.at placed.queue placed.going.placed y)) (sym m.map)
          (subst (λ (k : Behind Page). LeadsTo (lead_in q.state t.map now.flights.items) k) (sym at_is)
          (leads-more p.state q.state t.map t.flights.items now.flights.items queue f more spot y pages.at a.namespaces there is m.flights_are m.flight ns refl pages.leads));
    })
