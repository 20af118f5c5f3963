-- The pages of the writes to a namespace are let go, queue by queue.
use Rattle.std.proofs.Common.{◌≡◌, ◌≢◌, ◌⊎◌, ⊎_elim, inl, inr, ℕ, zero, suc, ◌+◌, Bool, true, false, List, [], length, slice_get, Option, Some, None, refl, sym, ◌∙◌, ap, subst, arith, eq-eqb, ne_eqb}
use Rattle.std.specs.Prelude.{◌&&◌, if◌then◌else◌, nat_lt, not, option_and_then, option_map}
use Rattle.std.specs.List.{list_any}
use Rattle.std.specs.Option.{option_flatten, option_map_or}
use Rattle.std.proofs.lemmas.Bool.{and_right, cases_eq, le-ltb, lt-ltb, ltb-false, ltb-true}
use Rattle.std.proofs.lemmas.Option.{slice_get_past}
use Rattle.fdp_base.specs.declared.entry.Spot.{Spot}
use Rattle.fdp_book.specs.declared.flight.Flight.{Flight}
use Rattle.fdp_book.specs.Commanded.{LetsGo}
use Rattle.fdp_book.specs.Forgetting.{live_pages}
use Rattle.fdp_book.specs.Held.{flight_in}
use Rattle.fdp_book.specs.Namespaces.{AreFlown, HasFlights, Releases, goes_to, is_apart, is_to, pages_to}
use Rattle.fdp_book.proofs.Clearing.{lets-none, lets-on}
use Rattle.fdp_book.proofs.Leading.{LeadsAlong, its-along, owned-along}
use Rattle.fdp_readings.proofs.fdp_locations.Ended.{owners-released}
use Rattle.fdp_owners.specs.declared.owner.Owner.{Owner}
use Rattle.fdp_owners.specs.Owned.{AreOwners}
use Rattle.fdp_owners.specs.OwnerTable.{OwnerTable, owner_at}
use Rattle.fdp_owners.proofs.Owned.{owners-apart}
use Rattle.fdp_readings.specs.fdp_pages.Joined.{AreJoined}
use Rattle.fdp_readings.specs.fdp_pages.PageTables.{PageTables}
use Rattle.fdp_readings.specs.fdp_pages.Steps.{AreOwned, ChangesOwners, without}
use Rattle.fdp_pointers.specs.Facts.{Page}
use Rattle.fdp_pointers.specs.Pointers.{Behind, Pointer, Pointer.of_block, Pointer.of_flight, is_of_another, only, renamed}
use Rattle.fdp_rules.specs.Sites.{is_spot}
use Rattle.fdp_snapshot.specs.declared.state.Summary.{Summary}

-- ---- pages that lose their owners

only-kept : (b : Bool) (p : Pointer) (at : Behind Page) → option_and_then at (if b then Some p else None) ≡ (if b then at p else None)
only-kept true p at = refl
only-kept false p at = refl

released-only : (owners : Spot → Option Owner) (spots : List Spot) (spot : Spot) (b : Bool) → list_any (is_spot spot) spots ≡ b → (without owners spots spot ≡ owners spot) ⊎ (without owners spots spot ≡ None)
released-only owners spots spot true is = inr (ap (λ (b : Bool). if b then None else owners spot) is)
released-only owners spots spot false is = inl (ap (λ (b : Bool). if b then None else owners spot) is)

pub lets-released : (t now : PageTables) (spots : List Spot) → owner_at now.owners ≡ without (owner_at t.owners) spots → ChangesOwners t now → LetsGo t now
lets-released t now spots owners changes = record {
  changes = changes;
  only = λ spot. subst (λ (o : Spot → Option Owner). (o spot ≡ owner_at t.owners spot) ⊎ (o spot ≡ None)) (sym owners) (released-only (owner_at t.owners) spots spot (list_any (is_spot spot) spots) refl);
}

-- ---- which pointers are apart

-- no queue
apart-none : (flights : List (Option Flight)) (nsid : ℕ) (at : Behind Page) (p : Pointer) → at p ≡ renamed (only (is_apart flights nsid 0)) at p
apart-none flights nsid at (of_block n l) = refl
apart-none flights nsid at (of_flight q i) = sym (ap (λ (b : Bool). option_and_then at (if not (b && is_to flights nsid q) then Some (of_flight q i) else None)) (le-ltb q 0 (omega arith)))

-- all queues
pub apart-all : (flights : List (Option Flight)) (nsid q i : ℕ) → is_apart flights nsid (length flights) (of_flight q i) ≡ not (is_to flights nsid q)
apart-all flights nsid q i = by (nat_lt q (length flights)) refl
  where
    by : (b : Bool) → nat_lt q (length flights) ≡ b → not (nat_lt q (length flights) && is_to flights nsid q) ≡ not (is_to flights nsid q)
    by true is = ap (λ (b : Bool). not (b && is_to flights nsid q)) is
    by false is =
        let none : is_to flights nsid q ≡ false = ap (λ (o : Option (Option Flight)). option_map_or (goes_to nsid) (option_flatten o) false) (slice_get_past flights q (ltb-false q (length flights) is)) in
        ap (λ (b : Bool). not (b && is_to flights nsid q)) is ∙ sym (ap not none)

lt-other : (n m : ℕ) → n ≢ m → nat_lt n (m + 1) ≡ nat_lt n m
lt-other n m ne =
    (elim (nat_lt n m) as (λ b. nat_lt n m ≡ b → nat_lt n (m + 1) ≡ b) [
      | true ↦ λ e. lt-ltb n (m + 1) (omega (arith, ltb-true n m e))
      | false ↦ λ e. le-ltb n (m + 1) (omega (arith, ltb-false n m e, ne))
    ]) refl

-- a queue more, whose write goes to the namespace
apart-more : (flights : List (Option Flight)) (nsid queue : ℕ) (at : Behind Page) (p : Pointer) → is_to flights nsid queue ≡ true → renamed (only (is_of_another queue)) (renamed (only (is_apart flights nsid queue)) at) p ≡ renamed (only (is_apart flights nsid (queue + 1))) at p
apart-more flights nsid queue at (of_block n l) goes = refl
apart-more flights nsid queue at (of_flight q i) goes =
    ⊎_elim
    (λ (e : q ≡ queue).
    let own : is_apart flights nsid (queue + 1) (of_flight q i) ≡ false = ap (λ (b : Bool). not (b && is_to flights nsid q)) (lt-ltb q (queue + 1) (omega (arith, e))) ∙ ap (λ (k : ℕ). not (is_to flights nsid k)) e ∙ ap not goes in
    ap (λ (b : Bool). option_and_then (renamed (only (is_apart flights nsid queue)) at) (if not b then Some (of_flight q i) else None)) (eq-eqb q queue e)
    ∙ sym (ap (λ (b : Bool). option_and_then at (if b then Some (of_flight q i) else None)) own))
    (λ (ne : q ≢ queue).
    ap (λ (b : Bool). option_and_then (renamed (only (is_apart flights nsid queue)) at) (if not b then Some (of_flight q i) else None)) (ne_eqb q queue ne)
    ∙ ap (λ (b : Bool). option_and_then at (if not (b && is_to flights nsid q) then Some (of_flight q i) else None)) (sym (lt-other q queue ne)))
    (cases_eq q queue)

-- a queue more, whose write does not
apart-less : (flights : List (Option Flight)) (nsid queue : ℕ) (at : Behind Page) (p : Pointer) → is_to flights nsid queue ≡ false → renamed (only (is_apart flights nsid queue)) at p ≡ renamed (only (is_apart flights nsid (queue + 1))) at p
apart-less flights nsid queue at (of_block n l) other = refl
apart-less flights nsid queue at (of_flight q i) other =
    ⊎_elim
    (λ (e : q ≡ queue).
    let none : is_to flights nsid q ≡ false = ap (is_to flights nsid) e ∙ other in
    let to : (m : ℕ) → is_apart flights nsid m (of_flight q i) ≡ true = λ m. ap (λ (b : Bool). not (nat_lt q m && b)) none ∙ ap not (and_right (nat_lt q m) false refl) in
    ap (λ (b : Bool). option_and_then at (if b then Some (of_flight q i) else None)) (to queue ∙ sym (to (queue + 1))))
    (λ (ne : q ≢ queue). ap (λ (b : Bool). option_and_then at (if not (b && is_to flights nsid q) then Some (of_flight q i) else None)) (sym (lt-other q queue ne)))
    (cases_eq q queue)

-- the write of the next queue has what it had
next-along : (outline : Summary) (flights : List (Option Flight)) (nsid queue : ℕ) (at : Behind Page) (t : PageTables) → AreFlown at outline flights t → LeadsAlong (renamed (only (is_apart flights nsid queue)) at) queue (live_pages outline (flight_in flights queue))
next-along outline flights nsid queue at t h index =
    ap (λ (b : Bool). option_map (λ (y : Page). y.spot) (option_and_then at (if not (b && is_to flights nsid queue) then Some (of_flight queue index) else None))) (le-ltb queue queue (omega arith)) ∙ h.flown queue index

-- ---- the pages of the next queue

to-pages : (outline : Summary) (nsid : ℕ) (o : Option Flight) → option_map_or (goes_to nsid) o false ≡ true → pages_to outline nsid o ≡ live_pages outline o
to-pages outline nsid None goes = absurd cc
to-pages outline nsid (Some f) goes = ap (λ (b : Bool). if b then live_pages outline (Some f) else []) goes

to-none : (outline : Summary) (nsid : ℕ) (o : Option Flight) → option_map_or (goes_to nsid) o false ≡ false → pages_to outline nsid o ≡ []
to-none outline nsid None other = refl
to-none outline nsid (Some f) other = ap (λ (b : Bool). if b then live_pages outline (Some f) else []) other

none-owned : (o : OwnerTable) → AreOwned o []
none-owned o = record { owned = λ spot has. absurd (omega (arith, has.1)); differ = λ i j spot a b. absurd (empty i spot a) }
  where
    empty : (i : ℕ) (spot : Spot) → slice_get [] i ≡ Some spot → ⊥
    empty zero spot e = cc
    empty (suc i) spot e = cc

by-test : (P : Type 0) (b : Bool) → (b ≡ true → P) → (b ≡ false → P) → P
by-test P true first other = first refl
by-test P false first other = other refl

pub next-owned : (outline : Summary) (flights : List (Option Flight)) (nsid queue : ℕ) (t u : PageTables) → HasFlights outline flights t → Releases outline flights nsid queue t u → AreOwned u.owners (pages_to outline nsid (flight_in flights queue))
next-owned outline flights nsid queue t u has h =
    let at : Behind Page = renamed (only (is_apart flights nsid queue)) has.at in
    let owned : AreOwners (owner_at u.owners) at = h.owners has.at has.are in
    by-test (AreOwned u.owners (pages_to outline nsid (flight_in flights queue))) (is_to flights nsid queue)
    (λ goes. subst (AreOwned u.owners) (sym (to-pages outline nsid (flight_in flights queue) goes)) (owned-along at u.owners queue (live_pages outline (flight_in flights queue)) owned (owners-apart (owner_at u.owners) at owned) (next-along outline flights nsid queue has.at t has.are)))
    (λ other. subst (AreOwned u.owners) (sym (to-none outline nsid (flight_in flights queue) other)) (none-owned u.owners))

pub releases-none : (outline : Summary) (flights : List (Option Flight)) (nsid : ℕ) (t : PageTables) → AreJoined t → Releases outline flights nsid 0 t t
releases-none outline flights nsid t joined = record {
  owners = λ at are. subst (λ (x : Behind Page). AreOwners (owner_at t.owners) x) (λ e p. apart-none flights nsid at p e) are.owned;
  pages = lets-none t joined;
}

pub releases-next : (outline : Summary) (flights : List (Option Flight)) (nsid queue : ℕ) (t u v : PageTables) → owner_at v.owners ≡ without (owner_at u.owners) (pages_to outline nsid (flight_in flights queue)) → ChangesOwners u v → Releases outline flights nsid queue t u → Releases outline flights nsid (queue + 1) t v
releases-next outline flights nsid queue t u v owners changes h = record {
  owners = λ at are.
      let first : Behind Page = renamed (only (is_apart flights nsid queue)) at in
      let owned : AreOwners (owner_at u.owners) first = h.owners at are in
      by-test (AreOwners (owner_at v.owners) (renamed (only (is_apart flights nsid (queue + 1))) at)) (is_to flights nsid queue)
      (λ goes.
      let spots : List Spot = live_pages outline (flight_in flights queue) in
      subst (λ (x : Behind Page). AreOwners (owner_at v.owners) x) (λ e p. apart-more flights nsid queue at p goes e)
      (owners-released (owner_at u.owners) (owner_at v.owners) first queue spots owned (its-along first queue spots (owners-apart (owner_at u.owners) first owned) (next-along outline flights nsid queue at t are))
      (owners ∙ ap (without (owner_at u.owners)) (to-pages outline nsid (flight_in flights queue) goes))))
      (λ other.
      subst (λ (x : Behind Page). AreOwners (owner_at v.owners) x) (λ e p. apart-less flights nsid queue at p other e)
      (subst (λ (o : Spot → Option Owner). AreOwners o first) (sym (owners ∙ ap (without (owner_at u.owners)) (to-none outline nsid (flight_in flights queue) other))) owned));
  pages = lets-on t u v h.pages (lets-released u v (pages_to outline nsid (flight_in flights queue)) owners changes);
}
