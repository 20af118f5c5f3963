-- Owners after one copy after another was moved, and the pointers after the move of the pass.
use Rattle.std.proofs.Common.{◌≡◌, ◌≢◌, zero, suc, Bool, true, false, cond, find, List, [], ◌∷◌, ◌++◌, Option, Some, None, refl, sym, ◌∙◌, ap, map, get_or, arith, ◌⊎◌, ⊎_elim, inl, inr}
use Rattle.std.specs.Prelude.{All, AllPairs, is_some, option_map}
use Rattle.std.specs.Option.{option_map_or}
use Rattle.std.proofs.lemmas.Bool.{true≢false}
use Rattle.std.proofs.lemmas.List.Elements.{All-cons, All-head, All-nil, All-tail, All-weaker}
use Rattle.fdp_base.specs.declared.entry.Copied.{Copied}
use Rattle.fdp_base.specs.declared.entry.Spot.{Spot}
use Rattle.fdp_rules.specs.Point.{Copy}
use Rattle.fdp_rules.specs.Sites.{is_spot, moved_by}
use Rattle.fdp_pointers.specs.Facts.{Page, put_at}
use Rattle.fdp_pointers.specs.Pointers.{Behind, Pointer, moved}
use Rattle.fdp_pointers.proofs.Copies.{same-spot}
use Rattle.fdp_pointers.proofs.Renaming.{moved-from}
use Rattle.fdp_owners.specs.declared.owner.Owner.{Owner}
use Rattle.fdp_owners.specs.Owned.{AreOwners, page_of}
use Rattle.fdp_owners.specs.OwnerTable.{with_owner}
use Rattle.fdp_owners.proofs.Tables.{is_spot-other, is_spot-same}
use Rattle.fdp_trails.specs.Followed.{copy_of}
use Rattle.fdp_trails.specs.Moves.{AreMovable, AreTwo, owners_moved, with_moved}
use Rattle.fdp_trails.proofs.Following.{all-back, all-front}

-- ---- pairs of a list

pub pairs-head : {X : Type 0} (R : X → X → Type 0) (x : X) (xs : List X) → AllPairs R (x ∷ xs) → All (R x) xs
pairs-head R x xs h k d low = h zero (suc k) d (omega arith) (omega (arith, low))

pub pairs-tail : {X : Type 0} (R : X → X → Type 0) (x : X) (xs : List X) → AllPairs R (x ∷ xs) → AllPairs R xs
pairs-tail R x xs h i j d less low = h (suc i) (suc j) d (omega (arith, less)) (omega (arith, low))

pub pairs-none : {X : Type 0} (R : X → X → Type 0) → AllPairs R []
pairs-none R i j d less low = absurd (omega (arith, low))

pub pairs-cons : {X : Type 0} (R : X → X → Type 0) (x : X) (xs : List X) → All (R x) xs → AllPairs R xs → AllPairs R (x ∷ xs)
pairs-cons R x xs h k i zero d less low = absurd (omega (arith, less))
pairs-cons R x xs h k zero (suc j) d less low = h j d (omega (arith, low))
pairs-cons R x xs h k (suc i) (suc j) d less low = k i j d (omega (arith, less)) (omega (arith, low))

-- each of the front with the first of the back
pub pairs-before : {X : Type 0} (R : X → X → Type 0) (xs : List X) (z : X) (zs : List X) → AllPairs R (xs ++ z ∷ zs) → All (λ (x : X). R x z) xs
pairs-before {X} R [] z zs h = All-nil (λ (x : X). R x z)
pairs-before {X} R (x ∷ xs) z zs h =
    All-cons (λ (w : X). R w z) x xs
    (All-head (R x) z zs (all-back (R x) xs (z ∷ zs) (pairs-head R x (xs ++ z ∷ zs) h)))
    (pairs-before R xs z zs (pairs-tail R x (xs ++ z ∷ zs) h))

-- ---- pages

pub cases_spot : (a b : Spot) → (a ≡ b) ⊎ (a ≢ b)
cases_spot a b = (elim (is_spot a b) as (λ t. is_spot a b ≡ t → (a ≡ b) ⊎ (a ≢ b)) [
  | true ↦ λ e. inl (same-spot a b e)
  | false ↦ λ e. inr (λ same. true≢false (sym (is_spot-same b) ∙ ap (λ (s : Spot). is_spot s b) (sym same) ∙ e))
]) refl

-- ---- the owners after the move of one copy

pub moved-none : (owners : Spot → Option Owner) (x : Copied) → owners x.from ≡ None → with_moved owners x ≡ owners
moved-none owners x e = ap (λ (o : Option Owner). cond (is_some o) (with_owner (with_owner owners x.from None) x.to o) owners) e

pub moved-some : (owners : Spot → Option Owner) (x : Copied) (w : Owner) → owners x.from ≡ Some w → with_moved owners x ≡ with_owner (with_owner owners x.from None) x.to (Some w)
moved-some owners x w e = ap (λ (o : Option Owner). cond (is_some o) (with_owner (with_owner owners x.from None) x.to o) owners) e

pub owner-here : (owners : Spot → Option Owner) (spot : Spot) (value : Option Owner) → with_owner owners spot value spot ≡ value
owner-here owners spot value = ap (λ (b : Bool). cond b value (owners spot)) (is_spot-same spot)

pub owner-there : (owners : Spot → Option Owner) (spot : Spot) (value : Option Owner) (at : Spot) → at ≢ spot → with_owner owners spot value at ≡ owners at
owner-there owners spot value at ne = ap (λ (b : Bool). cond b value (owners at)) (is_spot-other at spot ne)

-- whether a page has an owner
pub cases_owner : (o : Option Owner) → (o ≡ None) ⊎ ((w : Owner) × (o ≡ Some w))
cases_owner None = inl refl
cases_owner (Some w) = inr (w, refl)

module _ (owners : Spot → Option Owner) (x : Copied) where
  -- the new page has the owner of the old one
  moved-to : (w : Owner) → owners x.from ≡ Some w → with_moved owners x x.to ≡ Some w
  moved-to w e = ap (λ (f : Spot → Option Owner). f x.to) (moved-some owners x w e) ∙ owner-here (with_owner owners x.from None) x.to (Some w)

  -- another page has the one that it had
  moved-other : (spot : Spot) → spot ≢ x.from → spot ≢ x.to → with_moved owners x spot ≡ owners spot
  moved-other spot from to =
      ⊎_elim
      (λ none. ap (λ (f : Spot → Option Owner). f spot) (moved-none owners x none))
      (λ some. ap (λ (f : Spot → Option Owner). f spot) (moved-some owners x some.0 some.1) ∙ owner-there (with_owner owners x.from None) x.to (Some some.0) spot to ∙ owner-there owners x.from None spot from)
      (cases_owner (owners x.from))

  -- a page without an owner gets none, unless it is the new one
  moved-free : (spot : Spot) → spot ≢ x.to → owners spot ≡ None → with_moved owners x spot ≡ None
  moved-free spot to free =
      ⊎_elim
      (λ (same : spot ≡ x.from). ap (λ (f : Spot → Option Owner). f spot) (moved-none owners x (ap owners (sym same) ∙ free)) ∙ free)
      (λ ne. moved-other spot ne to ∙ free)
      (cases_spot spot x.from)

  -- whose owner it is that a page then has
  moved-was : (spot : Spot) (w : Owner) → with_moved owners x spot ≡ Some w → ((spot ≡ x.to) × (owners x.from ≡ Some w)) ⊎ ((spot ≢ x.from) × (owners spot ≡ Some w))
  moved-was spot w e =
      ⊎_elim
      (λ none.
      let was : owners spot ≡ Some w = sym (ap (λ (f : Spot → Option Owner). f spot) (moved-none owners x none)) ∙ e in
      inr (λ same. never (sym none ∙ ap owners (sym same) ∙ was), was))
      (λ some.
      let now : with_owner (with_owner owners x.from None) x.to (Some some.0) spot ≡ Some w = sym (ap (λ (f : Spot → Option Owner). f spot) (moved-some owners x some.0 some.1)) ∙ e in
      ⊎_elim
      (λ (same : spot ≡ x.to).
      let here : Some some.0 ≡ Some w = sym (owner-here (with_owner owners x.from None) x.to (Some some.0)) ∙ ap (with_owner (with_owner owners x.from None) x.to (Some some.0)) (sym same) ∙ now in
      inl (same, some.1 ∙ here))
      (λ ne.
      let left : with_owner owners x.from None spot ≡ Some w = sym (owner-there (with_owner owners x.from None) x.to (Some some.0) spot ne) ∙ now in
      ⊎_elim
      (λ (same : spot ≡ x.from). absurd (never (sym (owner-here owners x.from None) ∙ ap (with_owner owners x.from None) (sym same) ∙ left)))
      (λ other. inr (other, sym (owner-there owners x.from None spot other) ∙ left))
      (cases_spot spot x.from))
      (cases_spot spot x.to))
      (cases_owner (owners x.from)) where
        never : {z : Owner} → None ≡ Some z → ⊥
        never n = cc

-- the other copies may still be moved
pub movable-rest : (owners : Spot → Option Owner) (x : Copied) (xs : List Copied) → AreMovable owners (x ∷ xs) → AreMovable (with_moved owners x) xs
movable-rest owners x xs m = record {
  unowned = λ k d low. moved-free owners x (get_or xs k d).to (λ same. (pairs-head AreTwo x xs m.apart k d low).1 (sym same)) (All-tail (λ (z : Copied). owners z.to ≡ None) x xs m.unowned k d low);
  fresh = All-weaker (λ (z : Copied). All (λ (w : Copied). w.from ≢ z.to) (x ∷ xs)) (λ (z : Copied). All (λ (w : Copied). w.from ≢ z.to) xs) (λ z all. All-tail (λ (w : Copied). w.from ≢ z.to) x xs all) xs (All-tail (λ (z : Copied). All (λ (w : Copied). w.from ≢ z.to) (x ∷ xs)) x xs m.fresh);
  apart = pairs-tail AreTwo x xs m.apart;
}

-- a page that no copy has stays in its hands
pub still-owned : (owners : Spot → Option Owner) (copies : List Copied) (spot : Spot) → All (λ (x : Copied). (spot ≢ x.from) × (spot ≢ x.to)) copies → owners_moved owners copies spot ≡ owners spot
still-owned owners [] spot h = refl
still-owned owners (x ∷ xs) spot h =
    let here = All-head (λ (z : Copied). (spot ≢ z.from) × (spot ≢ z.to)) x xs h in
    still-owned (with_moved owners x) xs spot (All-tail (λ (z : Copied). (spot ≢ z.from) × (spot ≢ z.to)) x xs h) ∙ moved-other owners x spot here.0 here.1

-- ---- one copy after another

-- the copies before one have neither its old page nor its new one
module _ (owners : Spot → Option Owner) (done rest : List Copied) (x : Copied) (m : AreMovable owners (done ++ x ∷ rest)) where
  turn-free : owners_moved owners done x.to ≡ None
  turn-free =
      still-owned owners done x.to
      (λ k d low. (λ same. all-front (λ (z : Copied). z.from ≢ x.to) done (x ∷ rest) (All-head (λ (w : Copied). All (λ (z : Copied). z.from ≢ w.to) (done ++ x ∷ rest)) x rest (all-back (λ (w : Copied). All (λ (z : Copied). z.from ≢ w.to) (done ++ x ∷ rest)) done (x ∷ rest) m.fresh)) k d low (sym same), λ same. (pairs-before AreTwo done x rest m.apart k d low).1 (sym same)))
      ∙ All-head (λ (w : Copied). owners w.to ≡ None) x rest (all-back (λ (w : Copied). owners w.to ≡ None) done (x ∷ rest) m.unowned)

  turn-kept : owners_moved owners done x.from ≡ owners x.from
  turn-kept =
      still-owned owners done x.from
      (λ k d low. (λ same. (pairs-before AreTwo done x rest m.apart k d low).0 (sym same), λ same. All-head (λ (z : Copied). z.from ≢ (get_or done k d).to) x rest (all-back (λ (z : Copied). z.from ≢ (get_or done k d).to) done (x ∷ rest) (all-front (λ (w : Copied). All (λ (z : Copied). z.from ≢ w.to) (done ++ x ∷ rest)) done (x ∷ rest) m.fresh k d low)) same))

pub owners-free : (owners : Spot → Option Owner) (done rest : List Copied) (x : Copied) → AreMovable owners (done ++ x ∷ rest) → owners_moved owners done x.to ≡ None
owners-free owners done rest x m = turn-free owners done rest x m

pub owners-kept : (owners : Spot → Option Owner) (done rest : List Copied) (x : Copied) → AreMovable owners (done ++ x ∷ rest) → owners_moved owners done x.from ≡ owners x.from
owners-kept owners done rest x m = turn-kept owners done rest x m

-- ---- where a pass moves a page

found-first : (x : Copy) (rest : List Copy) (spot : Spot) (b : Bool) → is_spot x.from spot ≡ b → moved_by (x ∷ rest) spot ≡ option_map_or (λ (z : Copy). z.to) (cond b (Some x) (find (λ (z : Copy). is_spot z.from spot) rest)) spot
found-first x rest spot b e = ap (λ (t : Bool). option_map_or (λ (z : Copy). z.to) (cond t (Some x) (find (λ (z : Copy). is_spot z.from spot) rest)) spot) e

pub moved-here : (x : Copy) (rest : List Copy) (spot : Spot) → x.from ≡ spot → moved_by (x ∷ rest) spot ≡ x.to
moved-here x rest spot e = found-first x rest spot true (ap (is_spot x.from) (sym e) ∙ is_spot-same x.from)

pub moved-there : (x : Copy) (rest : List Copy) (spot : Spot) → x.from ≢ spot → moved_by (x ∷ rest) spot ≡ moved_by rest spot
moved-there x rest spot ne = found-first x rest spot false (is_spot-other x.from spot ne)

-- the pages that have no copy in the front of a pass are moved by its back
pub moved-back : (front back : List Copy) (spot : Spot) → All (λ (x : Copy). x.from ≢ spot) front → moved_by (front ++ back) spot ≡ moved_by back spot
moved-back [] back spot h = refl
moved-back (x ∷ xs) back spot h =
    moved-there x (xs ++ back) spot (All-head (λ (z : Copy). z.from ≢ spot) x xs h) ∙ moved-back xs back spot (All-tail (λ (z : Copy). z.from ≢ spot) x xs h)

-- a page of no copy stays
pub stays : (copies : List Copied) (spot : Spot) → All (λ (x : Copied). x.from ≢ spot) copies → moved_by (map copy_of copies) spot ≡ spot
stays [] spot h = refl
stays (x ∷ xs) spot h =
    moved-there (copy_of x) (map copy_of xs) spot (All-head (λ (z : Copied). z.from ≢ spot) x xs h) ∙ stays xs spot (All-tail (λ (z : Copied). z.from ≢ spot) x xs h)

-- ---- the owners after the move of a pass

-- the owner of a page has the page to which it is moved
owner-moved : (owners : Spot → Option Owner) (copies : List Copied) → AreMovable owners copies → (spot : Spot) (w : Owner) → owners spot ≡ Some w → owners_moved owners copies (moved_by (map copy_of copies) spot) ≡ Some w
owner-moved owners [] m spot w e = e
owner-moved owners (x ∷ xs) m spot w e =
    ⊎_elim
    (λ (same : x.from ≡ spot).
    ap (owners_moved (with_moved owners x) xs) (moved-here (copy_of x) (map copy_of xs) spot same)
    ∙ still-owned (with_moved owners x) xs x.to (λ k d low. (λ is. All-tail (λ (z : Copied). z.from ≢ x.to) x xs (All-head (λ (v : Copied). All (λ (z : Copied). z.from ≢ v.to) (x ∷ xs)) x xs m.fresh) k d low (sym is), λ is. (pairs-head AreTwo x xs m.apart k d low).1 is))
    ∙ moved-to owners x w (ap owners same ∙ e))
    (λ ne.
    let other : spot ≢ x.to = λ is. never (sym (All-head (λ (z : Copied). owners z.to ≡ None) x xs m.unowned) ∙ ap owners (sym is) ∙ e) in
    ap (owners_moved (with_moved owners x) xs) (moved-there (copy_of x) (map copy_of xs) spot ne)
    ∙ owner-moved (with_moved owners x) xs (movable-rest owners x xs m) spot w (moved-other owners x spot (λ is. ne (sym is)) other ∙ e))
    (cases_spot x.from spot) where
      never : {z : Owner} → None ≡ Some z → ⊥
      never n = cc

-- a page that then has an owner is that to which a page of it is moved
owner-was : (owners : Spot → Option Owner) (copies : List Copied) → AreMovable owners copies → (spot : Spot) (w : Owner) → owners_moved owners copies spot ≡ Some w → (old : Spot) × (owners old ≡ Some w) × (moved_by (map copy_of copies) old ≡ spot)
owner-was owners [] m spot w e = (spot, e, refl)
owner-was owners (x ∷ xs) m spot w e =
    let was = owner-was (with_moved owners x) xs (movable-rest owners x xs m) spot w e in
    ⊎_elim
    (λ new.
    let unmoved : moved_by (map copy_of xs) x.to ≡ x.to = stays xs x.to (All-tail (λ (z : Copied). z.from ≢ x.to) x xs (All-head (λ (v : Copied). All (λ (z : Copied). z.from ≢ v.to) (x ∷ xs)) x xs m.fresh)) in
    (x.from, new.1, moved-here (copy_of x) (map copy_of xs) x.from refl ∙ sym unmoved ∙ ap (moved_by (map copy_of xs)) (sym new.0) ∙ was.2))
    (λ old. (was.0, old.1, moved-there (copy_of x) (map copy_of xs) was.0 (λ is. old.0 (sym is)) ∙ was.2))
    (moved-was owners x was.0 w was.1)

pub owners-moved : (owners : Spot → Option Owner) (at : Behind Page) (copies : List Copied) → AreOwners owners at → AreMovable owners copies → AreOwners (owners_moved owners copies) (moved (put_at (moved_by (map copy_of copies))) at)
owners-moved owners at copies h m = record {
  owned = λ p z e.
      let was = moved-from (moved_by (map copy_of copies)) (at p) z e in
      let o = h.owned p was.0 was.1 in
      record {
        owner = o.owner;
        is_owner = ap (λ (y : Page). owners_moved owners copies y.spot) was.2 ∙ owner-moved owners copies m was.0.spot o.owner o.is_owner;
        points = o.points;
        spare = o.spare ∙ ap (λ (y : Page). y.spare) (sym was.2);
      };
  led = λ spot w e.
      let was = owner-was owners copies m spot w e in
      ap (option_map (put_at (moved_by (map copy_of copies)))) (h.led was.0 w was.1) ∙ ap (λ (s : Spot). Some (page_of s w)) was.2;
}

-- ---- moves that agree on the pages that are pointed to

same-behind : (f g : Spot → Spot) (o : Option Page) → ((y : Page) → o ≡ Some y → f y.spot ≡ g y.spot) → option_map (put_at f) o ≡ option_map (put_at g) o
same-behind f g None h = refl
same-behind f g (Some y) h = let same : f y.spot ≡ g y.spot = h y refl in ap (λ (s : Spot). Some (record y { spot = s })) same

pub moved-same : (f g : Spot → Spot) (at : Behind Page) → ((q : Pointer) (y : Page) → at q ≡ Some y → f y.spot ≡ g y.spot) → moved (put_at f) at ≡ moved (put_at g) at
moved-same f g at h = λ d q. same-behind f g (at q) (λ y e. h q y e) d
