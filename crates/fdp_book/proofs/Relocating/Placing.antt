-- What an owner points to gets another page.
use Rattle.std.proofs.Common.{◌≡◌, ℕ, ◌<◌, Bool, true, false, List, [], ◌∷◌, length, length-set, slice_get, slice_set, Option, Some, None, refl, sym, ◌∙◌, ap, arith}
use Rattle.std.specs.Prelude.{◌==◌, ◌&&◌, if◌then◌else◌, option_and_then, option_map}
use Rattle.std.specs.List.{refill}
use Rattle.std.specs.Option.{option_flatten}
use Rattle.std.proofs.lemmas.Bool.{eqb-true}
use Rattle.std.proofs.lemmas.Option.{slice_get_within}
use Rattle.fdp_base.specs.declared.entry.Spot.{Spot}
use Rattle.fdp_base.specs.Numbers.{with_at}
use Rattle.fdp_book.specs.declared.flight.Flight.{Flight}
use Rattle.fdp_book.specs.Held.{flight_in, going_of, page_in}
use Rattle.fdp_book.specs.Moving.{HasPageAt, KeepsFlights, KeepsGroups, PutsBlock, PutsFlight, SetsPage, moved_to}
use Rattle.fdp_book.proofs.Flights.Rows.{flight_in-set}
use Rattle.fdp_map.specs.declared.mapped.Mapped.{Mapped}
use Rattle.fdp_map.specs.MapTable.{MapTable, mapped_at, with_mapped}
use Rattle.fdp_rules.specs.PlainState.{Going, PlainState}
use Rattle.fdp_rules.specs.Sites.{is_there}

-- a list as long as another takes its place
refill-same : {X : Type 0} (xs ws : List X) → length ws ≡ length xs → refill (length xs) xs ws ≡ ws
refill-same [] [] e = refl
refill-same [] (w ∷ ws) e = absurd (omega (arith, e))
refill-same (x ∷ xs) [] e = absurd (omega (arith, e))
refill-same (x ∷ xs) (w ∷ ws) e = ap (λ zs. w ∷ zs) (refill-same xs ws (omega (arith, e)))

-- a page of a flight becomes another
pub page-set : (f g new : Flight) (index from : ℕ) (to : Spot) (ws : List Spot) → Some g ≡ Some f → new.pages.items ≡ refill (length g.pages.items) g.pages.items (slice_set ws from to) → ws ≡ g.pages.items → from ≡ index → going_of new ≡ record (going_of g) { placed = length new.pages.items } → (x : Flight) × (Some new ≡ Some x) × SetsPage f index to x
page-set f g new index from to ws e pages same at rest =
    let is : g ≡ f = cc in
    let items : new.pages.items ≡ slice_set g.pages.items index to =
    pages
    ∙ ap (λ (xs : List Spot). refill (length g.pages.items) g.pages.items (slice_set xs from to)) same
    ∙ ap (λ (i : ℕ). refill (length g.pages.items) g.pages.items (slice_set g.pages.items i to)) at
    ∙ refill-same g.pages.items (slice_set g.pages.items index to) (length-set g.pages.items index to) in
    let count : length new.pages.items ≡ length g.pages.items = ap length items ∙ length-set g.pages.items index to in (
      new,
      refl,
      record {
        going_is = rest ∙ ap (λ (n : ℕ). record (going_of g) { placed = n }) count ∙ ap going_of is;
        pages_are = items ∙ ap (λ (h : Flight). slice_set h.pages.items index to) is;
      },
    )

-- ---- the map

-- the blocks with another value at one place
pub mapped-with : (table : ℕ → ℕ → Option Mapped) (nsid lba : ℕ) (value : Option Mapped) (n l : ℕ) → with_mapped table nsid lba value n l ≡ (if n == nsid && l == lba then value else table n l)
mapped-with table nsid lba value n l = chosen (n == nsid) refl
  where
    chosen : (b : Bool) → (n == nsid) ≡ b → (if b then with_at (table nsid) lba value else table n) l ≡ (if b && l == lba then value else table n l)
    chosen true e = ap (λ (k : ℕ). if l == lba then value else table k l) (sym (eqb-true n nsid e))
    chosen false e = refl

group-kept : (to : Spot) (o : Option Mapped) → option_map (λ (m : Mapped). m.rg) (option_map (moved_to to) o) ≡ option_map (λ (m : Mapped). m.rg) o
group-kept to None = refl
group-kept to (Some m) = refl

pub block-groups : (old new : MapTable) (nsid lba : ℕ) (to : Spot) → PutsBlock old new nsid lba to → KeepsGroups old new
block-groups old new nsid lba to h = record {
  geometry = h.geometry;
  sizes = h.sizes;
  groups = λ n l. ap (λ (f : ℕ → ℕ → Option Mapped). option_map (λ (m : Mapped). m.rg) (f n l)) h.blocks ∙ ap (option_map (λ (m : Mapped). m.rg)) (mapped-with (mapped_at old) nsid lba (option_map (moved_to to) (mapped_at old nsid lba)) n l) ∙ chosen n l (n == nsid) (l == lba) refl refl;
}
  where
    chosen : (n l : ℕ) (a b : Bool) → (n == nsid) ≡ a → (l == lba) ≡ b → option_map (λ (m : Mapped). m.rg) (if a && b then option_map (moved_to to) (mapped_at old nsid lba) else mapped_at old n l) ≡ option_map (λ (m : Mapped). m.rg) (mapped_at old n l)
    chosen n l true true e f =
        group-kept to (mapped_at old nsid lba)
        ∙ ap (λ (k : ℕ). option_map (λ (m : Mapped). m.rg) (mapped_at old k lba)) (sym (eqb-true n nsid e))
        ∙ ap (λ (k : ℕ). option_map (λ (m : Mapped). m.rg) (mapped_at old n k)) (sym (eqb-true l lba f))
    chosen n l true false e f = refl
    chosen n l false b e f = refl

-- ---- the flights

-- a flight that is in a queue has a row
pub row-there : (flights : List (Option Flight)) (queue : ℕ) (f : Flight) → flight_in flights queue ≡ Some f → queue < length flights
row-there flights queue f e = at (slice_get flights queue) refl e
  where
    at : (o : Option (Option Flight)) → slice_get flights queue ≡ o → option_flatten o ≡ Some f → queue < length flights
    at None same is = let never : None ≡ Some f = is in absurd cc
    at (Some x) same is = slice_get_within flights queue x same

-- what a flight is that has a page put
pub record IsPut (flights now : List (Option Flight)) (queue index : ℕ) (to : Spot) : Type 0 where
  pub old : Flight
  pub old_is : flight_in flights queue ≡ Some old
  pub row : queue < length flights
  pub within : index < length old.pages.items
  pub new : Flight
  pub sets : SetsPage old index to new
  pub now_is : (q : ℕ) → flight_in now q ≡ with_at (flight_in flights) queue (Some new) q
  pub rows : length now ≡ length flights

pub flight-put : (flights now : List (Option Flight)) (queue index : ℕ) (to : Spot) → HasPageAt (flight_in flights queue) index → PutsFlight flights now queue index to → IsPut flights now queue index to
flight-put flights now queue index to has puts =
    let row = row-there flights queue has.flight has.flight_is in
    let new = puts.flight_is has.flight has.flight_is in
    record {
      old = has.flight;
      old_is = has.flight_is;
      row = row;
      within = has.within;
      new = new.0;
      sets = new.2;
      now_is = λ q. ap (λ (xs : List (Option Flight)). flight_in xs q) puts.flights_are ∙ flight_in-set flights queue puts.flight row q ∙ ap (λ (o : Option Flight). with_at (flight_in flights) queue o q) new.1;
      rows = ap length puts.flights_are ∙ length-set flights queue puts.flight;
    }

pub flight-kept : (flights now : List (Option Flight)) (queue index : ℕ) (to : Spot) → IsPut flights now queue index to → KeepsFlights flights now
flight-kept flights now queue index to h = record {
  rows = h.rows;
  going = λ q. ap (option_map going_of) (h.now_is q) ∙ chosen q (q == queue) refl;
}
  where
    chosen : (q : ℕ) (b : Bool) → (q == queue) ≡ b → option_map going_of (if b then Some h.new else flight_in flights q) ≡ option_map going_of (flight_in flights q)
    chosen q true e = ap (λ (g : Going). Some g) h.sets.going_is ∙ sym (ap (option_map going_of) (ap (flight_in flights) (eqb-true q queue e) ∙ h.old_is))
    chosen q false e = refl

-- the flight of which a page is seen
pub record IsShown (s : PlainState) (index : ℕ) (o : Option Flight) (spot : Spot) : Type 0 where
  pub flight : Flight
  pub flight_is : o ≡ Some flight
  pub there : is_there s (going_of flight) ≡ true
  pub page : slice_get flight.pages.items index ≡ Some spot

pub page-shown : (s : PlainState) (index : ℕ) (o : Option Flight) (spot : Spot) → option_and_then (page_in s index) o ≡ Some spot → IsShown s index o spot
page-shown s index None spot e = absurd cc
page-shown s index (Some f) spot e = chosen (is_there s (going_of f)) refl e
  where
    chosen : (b : Bool) → is_there s (going_of f) ≡ b → (if b then slice_get f.pages.items index else None) ≡ Some spot → IsShown s index (Some f) spot
    chosen true there is = record { flight = f; flight_is = refl; there = there; page = is }
    chosen false there is = absurd cc

pub shown-there : (s : PlainState) (index : ℕ) (o : Option Flight) (spot : Spot) → IsShown s index o spot → HasPageAt o index
shown-there s index o spot h = record { flight = h.flight; flight_is = h.flight_is; within = slice_get_within h.flight.pages.items index spot h.page }
