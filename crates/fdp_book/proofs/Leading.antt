-- Where the pointers lead by the map and the flights.
use Rattle.std.proofs.Common.{◌≡◌, ◌≢◌, ℕ, zero, suc, ◌<◌, Bool, true, false, List, [], ◌∷◌, length, Option, Some, None, refl, sym, ◌∙◌, ap, subst, ⊎_elim, eq-eqb, ne_eqb, slice_get, slice_set}
use Rattle.std.specs.Prelude.{◌==◌, ◌||◌, Contains, IsSome, if◌then◌else◌, is_some, not, option_and_then, option_map}
use Rattle.std.specs.List.{list_any}
use Rattle.std.specs.Option.{option_map_or}
use Rattle.std.proofs.lemmas.Bool.{cases_eq, false_from_ne_true}
use Rattle.std.proofs.lemmas.Option.{slice_get-get_or}
use Rattle.fdp_base.specs.declared.command.Command.{Command}
use Rattle.fdp_base.specs.declared.command.Write.{Write}
use Rattle.fdp_base.specs.declared.entry.Spot.{Spot}
use Rattle.fdp_base.specs.CommandKinds.{nsid_of, write_of}
use Rattle.fdp_base.specs.Numbers.{with_at}
use Rattle.fdp_base.proofs.Writes.{write-is}
use Rattle.fdp_book.specs.declared.extent.Extent.{Extent}
use Rattle.fdp_book.specs.Extent.{extent}
use Rattle.fdp_book.specs.declared.flight.Flight.{Flight}
use Rattle.fdp_book.specs.Forgetting.{is_there_in, live_pages}
use Rattle.fdp_book.specs.Held.{flight_in, going_of, lead_in, page_in}
use Rattle.fdp_book.proofs.Flights.Rows.{flight_in-set}
use Rattle.fdp_book.proofs.Kept.{there-alike}
use Rattle.fdp_readings.specs.fdp_locations.Located.{LeadsTo}
use Rattle.fdp_readings.proofs.fdp_locations.Ended.{AreItsPages}
use Rattle.fdp_map.specs.MapTable.{MapTable}
use Rattle.fdp_owners.specs.declared.owner.Owner.{Owner}
use Rattle.fdp_owners.specs.Owned.{AreOwners}
use Rattle.fdp_owners.specs.OwnerTable.{OwnerTable, owner_at}
use Rattle.fdp_owners.proofs.Tables.{is_spot-same}
use Rattle.fdp_readings.specs.fdp_pages.Steps.{AreOwned}
use Rattle.fdp_pointers.specs.Facts.{IsApart, Page}
use Rattle.fdp_pointers.specs.Pointers.{Behind, Pointer, Pointer.of_block, Pointer.of_flight, is_of_another, only, renamed}
use Rattle.fdp_pointers.proofs.Copies.{same-spot}
use Rattle.fdp_rules.specs.PlainState.{Namespace, PlainState}
use Rattle.fdp_rules.specs.Sites.{is_spot, is_there}
use Rattle.fdp_outline.specs.Handles.{namespace_at}
use Rattle.fdp_snapshot.specs.declared.state.Summary.{Summary}

never : {X : Type 0} {x : X} → None ≡ Some x → ⊥
never e = cc

-- ---- with the same namespaces

pub page_in-same : (s n : PlainState) (index : ℕ) (f : Flight) → n.namespaces ≡ s.namespaces → page_in n index f ≡ page_in s index f
page_in-same s n index f same = ap (λ (b : Bool). if b then slice_get f.pages.items index else None) (there-alike s n (going_of f) same)

pub pages-same : (s n : PlainState) (index : ℕ) (o : Option Flight) → n.namespaces ≡ s.namespaces → option_and_then (page_in n index) o ≡ option_and_then (page_in s index) o
pages-same s n index None same = refl
pages-same s n index (Some f) same = page_in-same s n index f same

pub lead-same : (s n : PlainState) (map : MapTable) (flights : List (Option Flight)) → n.namespaces ≡ s.namespaces → (p : Pointer) → lead_in n map flights p ≡ lead_in s map flights p
lead-same s n map flights same (of_block nsid lba) = refl
lead-same s n map flights same (of_flight queue index) = pages-same s n index (flight_in flights queue) same

pub leads-same : (s n : PlainState) (map : MapTable) (flights : List (Option Flight)) (at : Behind Page) → n.namespaces ≡ s.namespaces → LeadsTo (lead_in s map flights) at → LeadsTo (lead_in n map flights) at
leads-same s n map flights at same h p = h p ∙ sym (lead-same s n map flights same p)

-- ---- a queue gets a flight without pages, or none

no_spots : List Spot
no_spots = []

get-none : (i : ℕ) → slice_get no_spots i ≡ None
unfolding no_spots
get-none zero = refl
get-none (suc i) = refl

shown-none : (b : Bool) (index : ℕ) → (if b then slice_get no_spots index else None) ≡ None
shown-none true index = get-none index
shown-none false index = refl

no-page : (n : PlainState) (index : ℕ) (x : Option Flight) → ((f : Flight) → x ≡ Some f → f.pages.items ≡ []) → option_and_then (page_in n index) x ≡ None
unfolding no_spots
no-page n index None empty = refl
no-page n index (Some f) empty = ap (λ (xs : List Spot). if is_there n (going_of f) then slice_get xs index else None) (empty f refl) ∙ shown-none (is_there n (going_of f)) index

pub leads-without : (s n : PlainState) (map : MapTable) (flights new : List (Option Flight)) (queue : ℕ) (x : Option Flight) (at : Behind Page) → n.namespaces ≡ s.namespaces → queue < length flights → new ≡ slice_set flights queue x → ((f : Flight) → x ≡ Some f → f.pages.items ≡ []) → LeadsTo (lead_in s map flights) at → LeadsTo (lead_in n map new) (renamed (only (is_of_another queue)) at)
leads-without s n map flights new queue x at same there is empty h (of_block nsid lba) = h (of_block nsid lba)
leads-without s n map flights new queue x at same there is empty h (of_flight q i) =
    let row : flight_in new q ≡ with_at (flight_in flights) queue x q = ap (λ (fs : List (Option Flight)). flight_in fs q) is ∙ flight_in-set flights queue x there q in
    ⊎_elim
    (λ (e : q ≡ queue).
    ap (λ (b : Bool). option_map (λ (y : Page). y.spot) (option_and_then at (if not b then Some (of_flight q i) else None))) (eq-eqb q queue e)
    ∙ sym (ap (option_and_then (page_in n i)) (row ∙ ap (λ (b : Bool). if b then x else flight_in flights q) (eq-eqb q queue e)) ∙ no-page n i x empty))
    (λ (ne : q ≢ queue).
    ap (λ (b : Bool). option_map (λ (y : Page). y.spot) (option_and_then at (if not b then Some (of_flight q i) else None))) (ne_eqb q queue ne)
    ∙ h (of_flight q i)
    ∙ sym (ap (option_and_then (page_in n i)) (row ∙ ap (λ (b : Bool). if b then x else flight_in flights q) (ne_eqb q queue ne)) ∙ pages-same s n i (flight_in flights q) same))
    (cases_eq q queue)

-- ---- the pages of a queue's write

any-at : (test : Spot → Bool) (xs : List Spot) (index : ℕ) (x : Spot) → slice_get xs index ≡ Some x → test x ≡ true → list_any test xs ≡ true
any-at test [] zero x e is = absurd cc
any-at test [] (suc index) x e is = absurd cc
any-at test (y ∷ ys) zero x e is = let same : y ≡ x = cc in ap (λ (b : Bool). b || list_any test ys) (ap test same ∙ is)
any-at test (y ∷ ys) (suc index) x e is = ap (λ (b : Bool). test y || b) (any-at test ys index x e is) ∙ or-true (test y)
  where
    or-true : (b : Bool) → (b || true) ≡ true
    or-true true = refl
    or-true false = refl

at-any : (test : Spot → Bool) (xs : List Spot) → list_any test xs ≡ true → (index : ℕ) × (x : Spot) × (slice_get xs index ≡ Some x) × (test x ≡ true)
at-any test [] e = absurd cc
at-any test (y ∷ ys) e =
    (elim (test y) as (λ b. test y ≡ b → (b || list_any test ys) ≡ true → (index : ℕ) × (x : Spot) × (slice_get (y ∷ ys) index ≡ Some x) × (test x ≡ true)) [
      | true ↦ λ is any. (0, y, refl, is)
      | false ↦ λ is any. let later = at-any test ys any in (suc later.0, later.1, later.2, later.3)
    ]) refl e

contained-at : (xs : List Spot) (x : Spot) → Contains xs x → (index : ℕ) × (slice_get xs index ≡ Some x)
contained-at xs x has = (has.0, slice_get-get_or xs has.0 x has.1 ∙ ap Some has.2)

-- the pages of a write that may be going, while its namespace is there
abbrev pub live_of : PlainState → Option Flight → List Spot
live_of s None = []
live_of s (Some f) = if is_there s (going_of f) then f.pages.items else []

shown-pages : (b : Bool) (xs : List Spot) (index : ℕ) → slice_get (if b then xs else []) index ≡ (if b then slice_get xs index else None)
unfolding no_spots
shown-pages true xs index = refl
shown-pages false xs index = get-none index

live-at : (s : PlainState) (index : ℕ) (o : Option Flight) → slice_get (live_of s o) index ≡ option_and_then (page_in s index) o
unfolding no_spots
live-at s index None = get-none index
live-at s index (Some f) = shown-pages (is_there s (going_of f)) f.pages.items index

pub led-page : (o : Option Page) (spot : Spot) → option_map (λ (y : Page). y.spot) o ≡ Some spot → (y : Page) × (o ≡ Some y) × (y.spot ≡ spot)
led-page None spot e = absurd cc
led-page (Some y) spot e = (y, refl, cc)

-- the pointers to the pages of a queue's write lead to these
abbrev pub LeadsAlong : Behind Page → ℕ → List Spot → Type 0
LeadsAlong at queue spots = (index : ℕ) → option_map (λ (y : Page). y.spot) (at (of_flight queue index)) ≡ slice_get spots index

along-page : (at : Behind Page) (queue index : ℕ) (spots : List Spot) (spot : Spot) → LeadsAlong at queue spots → slice_get spots index ≡ Some spot → (y : Page) × (at (of_flight queue index) ≡ Some y) × (y.spot ≡ spot)
along-page at queue index spots spot h e = led-page (at (of_flight queue index)) spot (h index ∙ e)

pub its-along : (at : Behind Page) (queue : ℕ) (spots : List Spot) → IsApart at → LeadsAlong at queue spots → AreItsPages at queue spots
its-along at queue spots apart h = record {
  each = λ index y e. any-at (is_spot y.spot) spots index y.spot (sym (h index) ∙ ap (option_map (λ (z : Page). z.spot)) e) (is_spot-same y.spot);
  none = λ p y other e.
      false_from_ne_true (list_any (is_spot y.spot) spots)
      (λ any.
      let found = at-any (is_spot y.spot) spots any in
      let page = along-page at queue found.0 spots found.1 h found.2 in
      let same : y.spot ≡ page.0.spot = same-spot y.spot found.1 found.3 ∙ sym page.2 in
      let pointer : p ≡ of_flight queue found.0 = apart p (of_flight queue found.0) y page.0 e page.1 same in
      own queue found.0 (sym (ap (is_of_another queue) pointer) ∙ other));
}
  where
    own : (queue index : ℕ) → is_of_another queue (of_flight queue index) ≡ true → ⊥
    own queue index e = let no : false ≡ true = sym (ap not (eq-eqb queue queue refl)) ∙ e in cc

flight-index : (queue i j : ℕ) → of_flight queue i ≡ of_flight queue j → i ≡ j
flight-index queue i j e = cc

pub owned-along : (at : Behind Page) (o : OwnerTable) (queue : ℕ) (spots : List Spot) → AreOwners (owner_at o) at → IsApart at → LeadsAlong at queue spots → AreOwned o spots
owned-along at o queue spots owned apart h = record {
  owned = λ spot has.
      let place = contained-at spots spot has in
      let page = along-page at queue place.0 spots spot h place.1 in
      let own = owned.owned (of_flight queue place.0) page.0 page.1 in
      subst (λ (z : Spot). IsSome (owner_at o z)) page.2 (ap (λ (x : Option Owner). is_some x) own.is_owner);
  differ = λ i j spot a b.
      let one = along-page at queue i spots spot h a in
      let two = along-page at queue j spots spot h b in
      flight-index queue i j (apart (of_flight queue i) (of_flight queue j) one.0 two.0 one.1 two.1 (one.2 ∙ sym two.2));
}

-- those that lead by the map and the flights
led-along : (s : PlainState) (map : MapTable) (flights : List (Option Flight)) (at : Behind Page) (queue : ℕ) → LeadsTo (lead_in s map flights) at → LeadsAlong at queue (live_of s (flight_in flights queue))
led-along s map flights at queue h index = h (of_flight queue index) ∙ sym (live-at s index (flight_in flights queue))

-- the page of a queue's write by its index
pub page-led : (s : PlainState) (map : MapTable) (flights : List (Option Flight)) (at : Behind Page) (queue index : ℕ) (spot : Spot) → LeadsTo (lead_in s map flights) at → slice_get (live_of s (flight_in flights queue)) index ≡ Some spot → (y : Page) × (at (of_flight queue index) ≡ Some y) × (y.spot ≡ spot)
page-led s map flights at queue index spot h e = along-page at queue index (live_of s (flight_in flights queue)) spot (led-along s map flights at queue h) e

pub its-pages : (s : PlainState) (map : MapTable) (flights : List (Option Flight)) (at : Behind Page) (queue : ℕ) → IsApart at → LeadsTo (lead_in s map flights) at → AreItsPages at queue (live_of s (flight_in flights queue))
its-pages s map flights at queue apart h = its-along at queue (live_of s (flight_in flights queue)) apart (led-along s map flights at queue h)

pub pages-owned : (s : PlainState) (map : MapTable) (flights : List (Option Flight)) (at : Behind Page) (o : OwnerTable) (queue : ℕ) → AreOwners (owner_at o) at → IsApart at → LeadsTo (lead_in s map flights) at → AreOwned o (live_of s (flight_in flights queue))
pages-owned s map flights at o queue owned apart h = owned-along at o queue (live_of s (flight_in flights queue)) owned apart (led-along s map flights at queue h)

-- ---- by an outline

nsid-of : (command : Command) (x : Extent) (o : Option Write) → write_of command ≡ o → Some x ≡ option_map extent o → x.nsid ≡ nsid_of command
nsid-of command x None is e = absurd cc
nsid-of command x (Some w) is e =
    let same : x ≡ extent w = cc in
    ap (λ (y : Extent). y.nsid) same ∙ sym (ap nsid_of (write-is command w is))

pub nsid-known : (f : Flight) → f.extent.nsid ≡ nsid_of f.room.command
nsid-known f = nsid-of f.room.command f.extent (write_of f.room.command) refl f.extent_is

pub there-known : (s : PlainState) (outline : Summary) (f : Flight) → ((nsid : ℕ) → s.namespaces nsid ≡ namespace_at outline nsid) → is_there_in outline f ≡ is_there s (going_of f)
there-known s outline f all = sym (ap (λ (nsid : ℕ). option_map_or (λ (x : Namespace). x.birth == f.birth) (s.namespaces nsid) false) (sym (nsid-known f)) ∙ ap (λ (o : Option Namespace). option_map_or (λ (x : Namespace). x.birth == f.birth) o false) (all f.extent.nsid))

pub live-known : (s : PlainState) (outline : Summary) (o : Option Flight) → ((nsid : ℕ) → s.namespaces nsid ≡ namespace_at outline nsid) → live_pages outline o ≡ live_of s o
live-known s outline None all = refl
live-known s outline (Some f) all = ap (λ (b : Bool). if b then f.pages.items else []) (there-known s outline f all)

-- the pointers of going writes lead where their flights say, by an outline
pub flown-known : (s : PlainState) (map : MapTable) (outline : Summary) (flights : List (Option Flight)) (at : Behind Page) (queue : ℕ) → ((nsid : ℕ) → s.namespaces nsid ≡ namespace_at outline nsid) → LeadsTo (lead_in s map flights) at → LeadsAlong at queue (live_pages outline (flight_in flights queue))
flown-known s map outline flights at queue all h = subst (λ (xs : List Spot). LeadsAlong at queue xs) (sym (live-known s outline (flight_in flights queue) all)) (led-along s map flights at queue h)
