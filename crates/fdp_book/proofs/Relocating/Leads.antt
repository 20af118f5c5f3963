-- The map and the flights lead where the owners of the pages say, after the owner of one page got another.
use Rattle.std.proofs.Common.{◌≡◌, ℕ, Bool, true, false, List, slice_get, Option, Some, None, refl, sym, ◌∙◌, ap, subst}
use Rattle.std.specs.Prelude.{◌==◌, ◌&&◌, if◌then◌else◌, is_some, option_and_then, option_map}
use Rattle.std.proofs.lemmas.Bool.{eqb-true}
use Rattle.fdp_base.specs.declared.entry.Copied.{Copied}
use Rattle.fdp_base.specs.declared.entry.Spot.{Spot}
use Rattle.fdp_base.specs.declared.spare.DataSpare.{DataSpare}
use Rattle.fdp_base.specs.Numbers.{with_at}
use Rattle.fdp_book.specs.declared.flight.Flight.{Flight}
use Rattle.fdp_book.specs.declared.tables.Tables.{Tables}
use Rattle.fdp_book.specs.Held.{flight_in, going_of, lead_in, page_in}
use Rattle.fdp_book.specs.Moving.{HasPageIn, IsMoved, IsMovedIn, KeepsFlights, KeepsGroups, KeepsLead, PutsBlock, moved_to}
use Rattle.fdp_book.proofs.Relocating.Placing.{IsPut, IsShown, block-groups, flight-kept, flight-put, mapped-with, page-shown, shown-there}
use Rattle.fdp_handles.proofs.Rows.{slice_get-set}
use Rattle.fdp_readings.specs.fdp_locations.Located.{LeadsTo}
use Rattle.fdp_map.specs.declared.mapped.Mapped.{Mapped}
use Rattle.fdp_map.specs.MapTable.{MapTable, mapped_at}
use Rattle.fdp_owners.specs.declared.owner.Holder.{Holder}
use Rattle.fdp_owners.specs.declared.owner.Holder.TheVariants as holders
use Rattle.fdp_owners.specs.declared.owner.Owner.{Owner}
use Rattle.fdp_owners.specs.Owned.{AreOwners, page_of, with_pointer}
use Rattle.fdp_owners.specs.OwnerTable.{owner_at, pointer_in, pointer_of}
use Rattle.fdp_owners.proofs.Owned.{owners-moved}
use Rattle.fdp_readings.specs.fdp_pages.Steps.{ChangesOwners, moved}
use Rattle.fdp_pointers.specs.Facts.{Page}
use Rattle.fdp_pointers.specs.Pointers.{Behind, Pointer, Pointer.of_block, Pointer.of_flight}
use Rattle.fdp_rules.specs.PlainState.{PlainState}
use Rattle.fdp_rules.specs.Sites.{is_there}
use Rattle.fdp_readings.proofs.fdp_trails.Moving.{moved-none, moved-some}

never : {X : Type 0} {x : X} → None ≡ Some x → ⊥
never e = cc

-- ---- owners say where the pointers lead

owners-one : (o : Spot → Option Owner) (a b : Behind Page) → AreOwners o a → AreOwners o b → (p : Pointer) (y : Page) → a p ≡ Some y → b p ≡ Some y
owners-one o a b h k p y e =
    let w = h.owned p y e in
    let led : b (pointer_of w.owner) ≡ Some (page_of y.spot w.owner) = k.led y.spot w.owner w.is_owner in
    let page : page_of y.spot w.owner ≡ y = λ d. record { spot = y.spot; spare = w.spare d } in
    ap b (sym w.points) ∙ led ∙ ap (λ (z : Page). Some z) page

pub owners-same : (o : Spot → Option Owner) (a b : Behind Page) → AreOwners o a → AreOwners o b → (p : Pointer) → a p ≡ b p
owners-same o a b h k p = cases (a p) (b p) refl refl
  where
    cases : (x y : Option Page) → a p ≡ x → b p ≡ y → a p ≡ b p
    cases (Some x) y e f = e ∙ sym (owners-one o a b h k p x e)
    cases None None e f = e ∙ sym f
    cases None (Some y) e f = absurd (never (sym e ∙ owners-one o b a k h p y f))

pub leads-as : (lead : Pointer → Option Spot) (a b : Behind Page) → ((p : Pointer) → a p ≡ b p) → LeadsTo lead a → LeadsTo lead b
leads-as lead a b same h p = ap (option_map (λ (y : Page). y.spot)) (sym (same p)) ∙ h p

-- ---- what an owner points to is there

spot-some : (o : Option Mapped) (spot : Spot) → option_map (λ (m : Mapped). m.spot) o ≡ Some spot → (m : Mapped) × (o ≡ Some m)
spot-some None spot e = absurd cc
spot-some (Some m) spot e = (m, refl)

led-spot : (a : Behind Page) (p : Pointer) (y : Page) (spot : Option Spot) → a p ≡ Some y → option_map (λ (z : Page). z.spot) (a p) ≡ spot → spot ≡ Some y.spot
led-spot a p y spot e h = sym h ∙ ap (option_map (λ (z : Page). z.spot)) e

pub page-there : (s : PlainState) (map : MapTable) (flights : List (Option Flight)) (a : Behind Page) (holder : Holder) (spare : DataSpare) (y : Page) → LeadsTo (lead_in s map flights) a → a (pointer_in holder spare) ≡ Some y → HasPageIn map flights holder spare
page-there s map flights a holders.Block spare y h e =
    let found = spot-some (mapped_at map spare.nsid spare.lba) y.spot (led-spot a (of_block spare.nsid spare.lba) y _ e (h (of_block spare.nsid spare.lba))) in
    ap (λ (o : Option Mapped). is_some o) found.1
page-there s map flights a (holders.Flight queue) spare y h e =
    shown-there s spare.index (flight_in flights queue) y.spot (page-shown s spare.index (flight_in flights queue) y.spot (led-spot a (of_flight queue spare.index) y _ e (h (of_flight queue spare.index))))

-- ---- it gets another page

module _ (s : PlainState) (map new : MapTable) (flights now : List (Option Flight)) (a : Behind Page) (z : Page) (h : LeadsTo (lead_in s map flights) a) where
  -- a block
  block-leads : (nsid lba : ℕ) (y : Page) → a (of_block nsid lba) ≡ Some y → PutsBlock map new nsid lba z.spot → now ≡ flights → LeadsTo (lead_in s new now) (with_pointer a (of_block nsid lba) (Some z))
  block-leads nsid lba y e puts same (of_flight q i) = h (of_flight q i) ∙ ap (λ (xs : List (Option Flight)). option_and_then (page_in s i) (flight_in xs q)) (sym same)
  block-leads nsid lba y e puts same (of_block n l) =
      chosen (n == nsid && l == lba)
      ∙ sym (ap (λ (f : ℕ → ℕ → Option Mapped). option_map (λ (m : Mapped). m.spot) (f n l)) puts.blocks ∙ ap (option_map (λ (m : Mapped). m.spot)) (mapped-with (mapped_at map) nsid lba (option_map (moved_to z.spot) (mapped_at map nsid lba)) n l))
    where
      found : (m : Mapped) × (mapped_at map nsid lba ≡ Some m)
      found = spot-some (mapped_at map nsid lba) y.spot (led-spot a (of_block nsid lba) y _ e (h (of_block nsid lba)))

      chosen : (b : Bool) → option_map (λ (x : Page). x.spot) (if b then Some z else a (of_block n l)) ≡ option_map (λ (m : Mapped). m.spot) (if b then option_map (moved_to z.spot) (mapped_at map nsid lba) else mapped_at map n l)
      chosen true = sym (ap (λ (o : Option Mapped). option_map (λ (m : Mapped). m.spot) (option_map (moved_to z.spot) o)) found.1)
      chosen false = h (of_block n l)

  -- a block of a going write
  flight-leads : (queue index : ℕ) (y : Page) → a (of_flight queue index) ≡ Some y → IsPut flights now queue index z.spot → new ≡ map → LeadsTo (lead_in s new now) (with_pointer a (of_flight queue index) (Some z))
  flight-leads queue index y e put same (of_block n l) = h (of_block n l) ∙ ap (λ (m : MapTable). option_map (λ (x : Mapped). x.spot) (mapped_at m n l)) (sym same)
  flight-leads queue index y e put same (of_flight q i) = chosen (q == queue) refl ∙ sym (ap (option_and_then (page_in s i)) (put.now_is q))
    where
      shown : IsShown s index (flight_in flights queue) y.spot
      shown = page-shown s index (flight_in flights queue) y.spot (led-spot a (of_flight queue index) y _ e (h (of_flight queue index)))

      known : shown.flight ≡ put.old
      known = let both : Some shown.flight ≡ Some put.old = sym shown.flight_is ∙ put.old_is in cc

      there : is_there s (going_of put.new) ≡ true
      there = ap (is_there s) put.sets.going_is ∙ ap (λ (f : Flight). is_there s (going_of f)) (sym known) ∙ shown.there

      old-there : is_there s (going_of put.old) ≡ true
      old-there = ap (λ (f : Flight). is_there s (going_of f)) (sym known) ∙ shown.there

      -- what the flight has at each index
      pages : page_in s i put.new ≡ with_at (slice_get put.old.pages.items) index (Some z.spot) i
      pages = ap (λ (b : Bool). if b then slice_get put.new.pages.items i else None) there ∙ ap (λ (xs : List Spot). slice_get xs i) put.sets.pages_are ∙ slice_get-set put.old.pages.items index z.spot put.within i

      before : option_map (λ (x : Page). x.spot) (a (of_flight queue i)) ≡ slice_get put.old.pages.items i
      before = h (of_flight queue i) ∙ ap (option_and_then (page_in s i)) put.old_is ∙ ap (λ (b : Bool). if b then slice_get put.old.pages.items i else None) old-there

      own : (b : Bool) → option_map (λ (x : Page). x.spot) (if b then Some z else a (of_flight queue i)) ≡ (if b then Some z.spot else slice_get put.old.pages.items i)
      own true = refl
      own false = before

      chosen : (b : Bool) → (q == queue) ≡ b → option_map (λ (x : Page). x.spot) (if b && i == index then Some z else a (of_flight q i)) ≡ option_and_then (page_in s i) (if b then Some put.new else flight_in flights q)
      chosen true is = ap (λ (k : ℕ). option_map (λ (x : Page). x.spot) (if i == index then Some z else a (of_flight k i))) (eqb-true q queue is) ∙ own (i == index) ∙ sym pages
      chosen false is = h (of_flight q i)

  pub moved-leads : (holder : Holder) (spare : DataSpare) (y : Page) → a (pointer_in holder spare) ≡ Some y → IsMovedIn map new flights now holder spare z.spot → LeadsTo (lead_in s new now) (with_pointer a (pointer_in holder spare) (Some z))
  moved-leads holders.Block spare y e moves = block-leads spare.nsid spare.lba y e moves.0 moves.1
  moved-leads (holders.Flight queue) spare y e moves = flight-leads queue spare.index y e (flight-put flights now queue spare.index z.spot (page-there s map flights a (holders.Flight queue) spare y h e) moves.0) moves.1

-- the groups of blocks and the going writes stay
groups-same : (map new : MapTable) → new ≡ map → KeepsGroups map new
groups-same map new same = subst (KeepsGroups map) (sym same) (record { geometry = refl; sizes = refl; groups = λ nsid lba. refl })

flights-same : (flights now : List (Option Flight)) → now ≡ flights → KeepsFlights flights now
flights-same flights now same = subst (KeepsFlights flights) (sym same) (record { rows = refl; going = λ queue. refl })

moved-groups : (map new : MapTable) (flights now : List (Option Flight)) (holder : Holder) (spare : DataSpare) (to : Spot) → IsMovedIn map new flights now holder spare to → KeepsGroups map new
moved-groups map new flights now holders.Block spare to moves = block-groups map new spare.nsid spare.lba to moves.0
moved-groups map new flights now (holders.Flight queue) spare to moves = groups-same map new moves.1

moved-flights : (map new : MapTable) (flights now : List (Option Flight)) (holder : Holder) (spare : DataSpare) (to : Spot) → HasPageIn map flights holder spare → IsMovedIn map new flights now holder spare to → KeepsFlights flights now
moved-flights map new flights now holders.Block spare to has moves = flights-same flights now moves.1
moved-flights map new flights now (holders.Flight queue) spare to has moves = flight-kept flights now queue spare.index to (flight-put flights now queue spare.index to has moves.0)

-- ---- a copy is moved

module _ (old new : Tables) (copy : Copied) (owners : owner_at new.pages.owners ≡ moved (owner_at old.pages.owners) copy) (pages : ChangesOwners old.pages new.pages) where
  -- its old page is live
  pub copy-moved : (x : Owner) → owner_at old.pages.owners copy.from ≡ Some x → owner_at old.pages.owners copy.to ≡ None → HasPageIn old.map old.flights.items x.holder x.spare → IsMoved old.map new.map old.flights.items new.flights.items x copy.to → new ≡ record old { map = new.map; flights = new.flights; pages = new.pages } → KeepsLead old new
  copy-moved x was free has moves rest = record {
    map = moved-groups old.map new.map old.flights.items new.flights.items x.holder x.spare copy.to moves;
    flights = moved-flights old.map new.map old.flights.items new.flights.items x.holder x.spare copy.to has moves;
    pages = pages;
    leads = λ s h. record {
      at = with_pointer h.at (pointer_of x) (Some (page_of copy.to x));
      owned = subst (λ (o : Spot → Option Owner). AreOwners o (with_pointer h.at (pointer_of x) (Some (page_of copy.to x)))) (sym (owners ∙ moved-some (owner_at old.pages.owners) copy x was))
          (owners-moved (owner_at old.pages.owners) h.at copy.from copy.to x h.owned was free);
      leads = moved-leads s old.map new.map old.flights.items new.flights.items h.at (page_of copy.to x) h.leads x.holder x.spare (page_of copy.from x) (h.owned.led copy.from x was) moves;
    };
    rest = rest;
  }

  -- its old page has no owner any more
  pub copy-passed : owner_at old.pages.owners copy.from ≡ None → new ≡ record old { pages = new.pages } → KeepsLead old new
  copy-passed none rest = record {
    map = groups-same old.map new.map (ap (λ (t : Tables). t.map) rest);
    flights = flights-same old.flights.items new.flights.items (ap (λ (t : Tables). t.flights.items) rest);
    pages = pages;
    leads = λ s h. record {
      at = h.at;
      owned = subst (λ (o : Spot → Option Owner). AreOwners o h.at) (sym (owners ∙ moved-none (owner_at old.pages.owners) copy none)) h.owned;
      leads = subst (λ (t : Tables). LeadsTo (lead_in s t.map t.flights.items) h.at) (sym rest) h.leads;
    };
    rest = rest ∙ ap (λ (t : Tables). record old { map = t.map; flights = t.flights; pages = new.pages }) (sym rest);
  }
