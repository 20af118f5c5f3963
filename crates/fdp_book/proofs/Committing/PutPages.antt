-- The places of the blocks of a write, put into the map one by one.
use Rattle.std.proofs.Common.{◌≡◌, ◌≢◌, ⊎_elim, ℕ, ◌+◌, ◌-◌, Bool, true, false, List, slice_get, Option, Some, None, refl, sym, ◌∙◌, ap, subst, arith, cond, eq-eqb, ne_eqb, ◌*◌, ◌<◌}
use Rattle.std.specs.Prelude.{◌==◌, ◌&&◌, IfSome, IsSome, is_some, option_map}
use Rattle.std.proofs.lemmas.Bool.{and_right, cases_eq}
use Rattle.std.proofs.lemmas.Bool.Decides.{nat_tests}
use Rattle.std.proofs.lemmas.Grind.{common_steps}
use Rattle.fdp_base.specs.declared.config.Geometry.{Geometry}
use Rattle.fdp_base.specs.declared.entry.Spot.{Spot}
use Rattle.fdp_base.specs.Numbers.{is_among, with_at}
use Rattle.fdp_map.specs.declared.mapped.Mapped.{Mapped}
use Rattle.fdp_map.specs.MapTable.{IsPageOf, MapTable, mapped_at, mapped_on, size_in, with_mapped}
use Rattle.fdp_book.specs.Flown.{place_in, with_pages}
use Rattle.fdp_book.specs.Taking.{CanTake, MayTake, cleared_of, with_taken}
use Rattle.fdp_readings.specs.fdp_locations.Taken.{taken_first}
use Rattle.fdp_readings.proofs.fdp_locations.Taken.{IsCleared, among-not, block-before, flight-before, taken-next, taken-none}
use Rattle.fdp_owners.specs.declared.owner.Holder.TheVariants.{Block}
use Rattle.fdp_owners.specs.declared.owner.Owner.{Owner}
use Rattle.fdp_owners.specs.Owned.{AreOwners}
use Rattle.fdp_owners.specs.OwnerTable.{held_by, owner_at, with_owner}
use Rattle.fdp_owners.proofs.Owned.{owners-apart}
use Rattle.fdp_owners.proofs.Tables.{is_spot-other}
use Rattle.fdp_readings.specs.fdp_pages.Joined.{AreJoined}
use Rattle.fdp_readings.specs.fdp_pages.PageTables.{PageTables}
use Rattle.fdp_readings.specs.fdp_pages.Steps.{ChangesOwners}
use Rattle.fdp_pointers.specs.Facts.{Page}
use Rattle.fdp_pointers.specs.Pointers.{Behind, Pointer, Pointer.of_block, Pointer.of_flight, renamed}
use Rattle.fdp_units.specs.declared.data_unit.DataUnit.{DataUnit}
use Rattle.fdp_units.specs.UnitTable.{Cut, unit_at}

among-none : (first n : ℕ) → is_among first 0 n ≡ false
among-none first n = grind (arith, common_steps, nat_tests)

among-last : (first count : ℕ) → is_among first (count + 1) (first + count) ≡ true
among-last first count = grind (arith, common_steps, nat_tests)

among-next : (first count n : ℕ) → n ≢ first + count → is_among first (count + 1) n ≡ is_among first count n
among-next first count n ne = grind (arith, common_steps, nat_tests)

and-false : (b : Bool) → (b && false) ≡ false
and-false true = refl
and-false false = refl

-- at first none
none-put : (table : ℕ → ℕ → Option Mapped) (nsid slba : ℕ) (geometry : Geometry) (pages : List Spot) (n lba : ℕ) → table n lba ≡ with_pages table nsid slba geometry pages 0 n lba
none-put table nsid slba geometry pages n lba = sym (ap (λ (b : Bool). cond (n == nsid && b) (place_in geometry pages (lba - slba)) (table n lba)) (among-none slba lba) ∙ ap (λ (b : Bool). cond b (place_in geometry pages (lba - slba)) (table n lba)) (and-false (n == nsid)))

-- a block more
put-more : (table : ℕ → ℕ → Option Mapped) (nsid slba : ℕ) (geometry : Geometry) (pages : List Spot) (count : ℕ) (mapped : Mapped) → place_in geometry pages count ≡ Some mapped → (n lba : ℕ) → with_mapped (with_pages table nsid slba geometry pages count) nsid (slba + count) (Some mapped) n lba ≡ with_pages table nsid slba geometry pages (count + 1) n lba
put-more table nsid slba geometry pages count mapped is n lba =
    ⊎_elim
    (λ (same : n ≡ nsid). ⊎_elim
    (λ (here : lba ≡ slba + count).
    let index : lba - slba ≡ count = omega (arith, here) in
    let left : with_mapped (with_pages table nsid slba geometry pages count) nsid (slba + count) (Some mapped) n lba ≡ Some mapped = rw (eq-eqb n nsid same, eq-eqb lba (slba + count) here) refl in
    let among : is_among slba (count + 1) lba ≡ true = ap (is_among slba (count + 1)) here ∙ among-last slba count in
    let right : with_pages table nsid slba geometry pages (count + 1) n lba ≡ place_in geometry pages (lba - slba) = ap (λ (b : Bool). cond (b && is_among slba (count + 1) lba) (place_in geometry pages (lba - slba)) (table n lba)) (eq-eqb n nsid same) ∙ ap (λ (b : Bool). cond b (place_in geometry pages (lba - slba)) (table n lba)) among in
    left ∙ sym (right ∙ ap (place_in geometry pages) index ∙ is))
    (λ (ne : lba ≢ slba + count).
    let left : with_mapped (with_pages table nsid slba geometry pages count) nsid (slba + count) (Some mapped) n lba ≡ with_pages table nsid slba geometry pages count nsid lba = rw (eq-eqb n nsid same, ne_eqb lba (slba + count) ne) refl in
    left ∙ ap (λ (k : ℕ). with_pages table nsid slba geometry pages count k lba) (sym same) ∙ ap (λ (b : Bool). cond (n == nsid && b) (place_in geometry pages (lba - slba)) (table n lba)) (sym (among-next slba count lba ne)))
    (cases_eq lba (slba + count)))
    (λ (ne : n ≢ nsid).
    let left : with_mapped (with_pages table nsid slba geometry pages count) nsid (slba + count) (Some mapped) n lba ≡ with_pages table nsid slba geometry pages count n lba = ap (λ (b : Bool). cond b (with_at (with_pages table nsid slba geometry pages count nsid) (slba + count) (Some mapped)) (with_pages table nsid slba geometry pages count n) lba) (ne_eqb n nsid ne) in
    let either : (k : ℕ) → with_pages table nsid slba geometry pages k n lba ≡ table n lba = λ k. ap (λ (b : Bool). cond (b && is_among slba k lba) (place_in geometry pages (lba - slba)) (table n lba)) (ne_eqb n nsid ne) in
    left ∙ either count ∙ sym (either (count + 1)))
    (cases_eq n nsid)

-- ---- with the owners of the pages

-- the first blocks of a write have their places, and own them
pub record IsPutTo (old now : MapTable) (t u : PageTables) (nsid slba : ℕ) (geometry : Geometry) (spots : List Spot) (count : ℕ) : Type 0 where
  pub blocks : mapped_at now ≡ with_pages (mapped_at old) nsid slba geometry spots count
  pub sizes : size_in now ≡ size_in old
  pub geometry_is : now.geometry ≡ old.geometry
  pub pages : ChangesOwners t u
  pub owners : (at : Behind Page) (queue : ℕ) → MayTake at old t queue nsid slba spots → AreOwners (owner_at u.owners) (renamed (taken_first queue nsid slba count) at)

-- a page of one map is one of another of the same cut
pub page-kept : (old now : MapTable) (spot : Spot) → now.geometry ≡ old.geometry → IsPageOf old.geometry spot → IsPageOf now.geometry spot
page-kept old now spot same = subst (λ (g : Geometry). IsPageOf g spot) (sym same)

pub put-cut : (old now : MapTable) (more : ℕ → ℕ → Option Mapped) (nsid lba : ℕ) (spot : Spot) → now.geometry ≡ old.geometry → more ≡ with_mapped (mapped_at now) nsid lba (Some (mapped_on now.geometry spot)) → more ≡ with_mapped (mapped_at now) nsid lba (Some (mapped_on old.geometry spot))
put-cut old now more nsid lba spot same put = put ∙ ap (λ (g : Geometry). with_mapped (mapped_at now) nsid lba (Some (mapped_on g spot))) same

pub changes-self : (t : PageTables) → AreJoined t → ChangesOwners t t
changes-self t h = record {
  size = record { unit_pages = refl; pages = refl };
  units = record { kept = λ unit. refl; counted = λ unit there. h.live.counted unit there; cut = refl; worn = refl };
  handles = refl;
  passes = refl;
}

pub changes-joined : (a b d : PageTables) → ChangesOwners a b → ChangesOwners b d → ChangesOwners a d
changes-joined a b d one two = record {
  size = record { unit_pages = two.size.unit_pages ∙ one.size.unit_pages; pages = two.size.pages ∙ one.size.pages };
  units = record {
    kept = λ unit. two.units.kept unit ∙ ap (λ (x : DataUnit). record x { live = (unit_at d.units unit).live }) (one.units.kept unit);
    counted = λ unit there. two.units.counted unit (subst (λ (x : Cut). unit < x.groups * x.group_units) (sym one.units.cut) there);
    cut = two.units.cut ∙ one.units.cut;
    worn = two.units.worn ∙ one.units.worn;
  };
  handles = two.handles ∙ one.handles;
  passes = two.passes ∙ one.passes;
}

pub put-first : (m : MapTable) (t : PageTables) (nsid slba : ℕ) (geometry : Geometry) (spots : List Spot) → AreJoined t → IsPutTo m m t t nsid slba geometry spots 0
put-first m t nsid slba geometry spots joined = record {
  blocks = λ d n lba. none-put (mapped_at m) nsid slba geometry spots n lba d;
  sizes = refl;
  geometry_is = refl;
  pages = changes-self t joined;
  owners = λ at queue may. taken-none queue nsid slba (owner_at t.owners) at may.owned;
}

-- the next block has what it had
next-unput : (table : ℕ → ℕ → Option Mapped) (nsid slba : ℕ) (geometry : Geometry) (spots : List Spot) (count : ℕ) → with_pages table nsid slba geometry spots count nsid (slba + count) ≡ table nsid (slba + count)
next-unput table nsid slba geometry spots count =
    ap (λ (b : Bool). cond b (place_in geometry spots (slba + count - slba)) (table nsid (slba + count))) (and_right (nsid == nsid) (is_among slba count (slba + count)) (among-not slba count))

-- what the next block asks for
pub record MayPutNext (now : MapTable) (u : PageTables) (nsid lba : ℕ) (spot : Spot) : Type 0 where
  pub old : IfSome (mapped_at now nsid lba) (λ (m : Mapped). IsSome (owner_at u.owners m.spot) × (m.spot ≢ spot))
  pub new : IsSome (owner_at u.owners spot)

led-from : (a : Option Page) (m : Mapped) → option_map (λ (y : Page). y.spot) a ≡ Some m.spot → (z : Page) × (a ≡ Some z) × (z.spot ≡ m.spot)
led-from None m e = absurd cc
led-from (Some z) m e = (z, refl, cc)

pub put-may : (old now : MapTable) (t u : PageTables) (nsid slba : ℕ) (geometry : Geometry) (spots : List Spot) (count : ℕ) (spot : Spot) → slice_get spots count ≡ Some spot → CanTake old t nsid slba spots → IsPutTo old now t u nsid slba geometry spots count → MayPutNext now u nsid (slba + count) spot
put-may old now t u nsid slba geometry spots count spot page can h =
    let at : Behind Page = can.at in
    let first : Behind Page = renamed (taken_first can.queue nsid slba count) at in
    let owned : AreOwners (owner_at u.owners) first = h.owners at can.queue can.may in
    let its = can.may.pages count spot page in
    let f : Pointer = of_flight can.queue count in
    let b : Pointer = of_block nsid (slba + count) in
    let there : first f ≡ Some its.page = flight-before can.queue nsid slba count at ∙ its.leads in
    let own = owned.owned f its.page there in
    let mapped : mapped_at now nsid (slba + count) ≡ mapped_at old nsid (slba + count) = ap (λ (g : ℕ → ℕ → Option Mapped). g nsid (slba + count)) h.blocks ∙ next-unput (mapped_at old) nsid slba geometry spots count in
    record {
      new = subst (λ (z : Spot). IsSome (owner_at u.owners z)) its.spot_is (ap (λ (x : Option Owner). is_some x) own.is_owner);
      old = subst (λ (o : Option Mapped). IfSome o (λ (m : Mapped). IsSome (owner_at u.owners m.spot) × (m.spot ≢ spot))) (sym mapped)
          ((elim (mapped_at old nsid (slba + count)) as (λ (o : Option Mapped). mapped_at old nsid (slba + count) ≡ o → IfSome o (λ (m : Mapped). IsSome (owner_at u.owners m.spot) × (m.spot ≢ spot))) [
            | None ↦ λ e. tt
            | Some m ↦ λ e.
                let z = led-from (at b) m (can.may.mapped (slba + count) ∙ ap (option_map (λ (x : Mapped). x.spot)) e) in
                let before : first b ≡ Some z.0 = block-before can.queue nsid slba count at ∙ z.1 in
                let mine = owned.owned b z.0 before in (
                  subst (λ (s : Spot). IsSome (owner_at u.owners s)) z.2 (ap (λ (x : Option Owner). is_some x) mine.is_owner),
                  λ same. apart nsid (slba + count) can.queue count (owners-apart (owner_at u.owners) first owned b f z.0 its.page before there (z.2 ∙ same ∙ sym its.spot_is)),
                )
          ]) refl);
    }
  where
    apart : (n l q i : ℕ) → of_block n l ≡ of_flight q i → ⊥
    apart n l q i e = cc

cleared-as : (owners : Spot → Option Owner) (a : Option Page) (o : Option Mapped) → option_map (λ (y : Page). y.spot) a ≡ option_map (λ (m : Mapped). m.spot) o → IsCleared owners (cleared_of owners o) a
cleared-as owners None None e = refl
cleared-as owners None (Some m) e = absurd cc
cleared-as owners (Some z) None e = absurd cc
cleared-as owners (Some z) (Some m) e = let same : z.spot ≡ m.spot = cc in ap (λ (s : Spot). with_owner owners s None) (sym same)

-- the next block is put at its place
pub put-next : (old now next : MapTable) (t u v : PageTables) (nsid slba : ℕ) (geometry : Geometry) (spots : List Spot) (count : ℕ) (spot : Spot) → slice_get spots count ≡ Some spot →
    mapped_at next ≡ with_mapped (mapped_at now) nsid (slba + count) (Some (mapped_on geometry spot)) → size_in next ≡ size_in now → next.geometry ≡ now.geometry →
    owner_at v.owners ≡ with_taken (owner_at u.owners) (mapped_at now nsid (slba + count)) spot → ChangesOwners u v →
    IsPutTo old now t u nsid slba geometry spots count → IsPutTo old next t v nsid slba geometry spots (count + 1)
put-next old now next t u v nsid slba geometry spots count spot page blocks sizes same_geometry owners changes h =
    let mapped : Mapped = mapped_on geometry spot in
    let is : place_in geometry spots count ≡ Some mapped = ap (λ (o : Option Spot). option_map (mapped_on geometry) o) page in
    let before : mapped_at now nsid (slba + count) ≡ mapped_at old nsid (slba + count) = ap (λ (g : ℕ → ℕ → Option Mapped). g nsid (slba + count)) h.blocks ∙ next-unput (mapped_at old) nsid slba geometry spots count in
    record {
      blocks = blocks ∙ ap (λ (k : ℕ → ℕ → Option Mapped). with_mapped k nsid (slba + count) (Some mapped)) h.blocks ∙ (λ d n lba. put-more (mapped_at old) nsid slba geometry spots count mapped is n lba d);
      sizes = sizes ∙ h.sizes;
      geometry_is = same_geometry ∙ h.geometry_is;
      pages = changes-joined t u v h.pages changes;
      owners = λ at queue may.
          let its = may.pages count spot page in
          taken-next queue nsid slba count at (owner_at u.owners) (cleared_of (owner_at u.owners) (mapped_at now nsid (slba + count))) (owner_at v.owners) its.page its.leads its.nsid_is its.lba_is (h.owners at queue may)
          (cleared-as (owner_at u.owners) (at (of_block nsid (slba + count))) (mapped_at now nsid (slba + count)) (may.mapped (slba + count) ∙ sym (ap (option_map (λ (m : Mapped). m.spot)) before)))
          (owners ∙ ap (λ (s : Spot). with_owner (cleared_of (owner_at u.owners) (mapped_at now nsid (slba + count))) s (option_map (held_by Block) (cleared_of (owner_at u.owners) (mapped_at now nsid (slba + count)) s))) (sym its.spot_is));
    }

-- ---- one page

-- a page that is not cleared has the owner that it had
pub cleared-other : (owners : Spot → Option Owner) (o : Option Mapped) (spot : Spot) → IfSome o (λ (m : Mapped). m.spot ≢ spot) → cleared_of owners o spot ≡ owners spot
cleared-other owners None spot ne = refl
cleared-other owners (Some m) spot ne = ap (λ (b : Bool). cond b None (owners spot)) (is_spot-other spot m.spot (λ e. ne (sym e)))

pub if-both : (P Q : Mapped → Type 0) (o : Option Mapped) → IfSome o (λ m. P m × Q m) → IfSome o P × IfSome o Q
if-both P Q None h = (tt, tt)
if-both P Q (Some m) h = (h.0, h.1)
