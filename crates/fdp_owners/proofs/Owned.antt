-- What a change of one page makes of owners and pointers.
use Rattle.std.proofs.Common.{◌≡◌, ◌≢◌, ℕ, Bool, true, false, Option, Some, None, refl, ap, sym, ◌∙◌, subst, eq-eqb}
use Rattle.std.specs.Prelude.{◌==◌, if◌then◌else◌}
use Rattle.std.proofs.lemmas.Bool.{and_parts, eqb-true}
use Rattle.fdp_base.specs.declared.entry.Spot.{Spot}
use Rattle.fdp_rules.specs.Sites.{is_spot}
use Rattle.fdp_pointers.specs.Facts.{IsApart, IsFree, Page}
use Rattle.fdp_pointers.specs.Pointers.{Behind, Pointer, Pointer.of_block, Pointer.of_flight}
use Rattle.fdp_pointers.proofs.Copies.{same-spot}
use Rattle.fdp_owners.specs.declared.owner.Holder.{Holder}
use Rattle.fdp_owners.specs.declared.owner.Owner.{Owner}
use Rattle.fdp_owners.specs.Owned.{AreOwners, IsOwned, is_pointer, page_of, with_pointer}
use Rattle.fdp_owners.specs.OwnerTable.{held_by, pointer_of, with_owner}
use Rattle.fdp_owners.proofs.Tables.{is_spot-other, is_spot-same}

is_pointer-same : (p : Pointer) → is_pointer p p ≡ true
is_pointer-same (of_block nsid lba) = rw (eq-eqb nsid nsid refl, eq-eqb lba lba refl) refl
is_pointer-same (of_flight queue index) = rw (eq-eqb queue queue refl, eq-eqb index index refl) refl

same-pointer : (p q : Pointer) → is_pointer p q ≡ true → p ≡ q
same-pointer (of_block nsid lba) (of_block n l) e =
    let both = and_parts (nsid == n) (lba == l) e in
    let one : nsid ≡ n = eqb-true nsid n both.0 in
    let two : lba ≡ l = eqb-true lba l both.1 in
    cc
same-pointer (of_block nsid lba) (of_flight q i) e = absurd cc
same-pointer (of_flight queue index) (of_block n l) e = absurd cc
same-pointer (of_flight queue index) (of_flight q i) e =
    let both = and_parts (queue == q) (index == i) e in
    let one : queue ≡ q = eqb-true queue q both.0 in
    let two : index ≡ i = eqb-true index i both.1 in
    cc

is_pointer-other : (p q : Pointer) → p ≢ q → is_pointer p q ≡ false
is_pointer-other p q ne = cases (is_pointer p q) refl where
  cases : (t : Bool) → is_pointer p q ≡ t → is_pointer p q ≡ false
  cases true e = absurd (ne (same-pointer p q e))
  cases false e = e

never : {X : Type 0} {x : X} → None ≡ Some x → ⊥
never e = cc

-- ---- a page gets an owner, and a pointer leads there

put-owned : (owners : Spot → Option Owner) (at : Behind Page) (spot : Spot) (x : Owner) → AreOwners owners at → owners spot ≡ None → (p : Pointer) (y : Page) (b : Bool) → is_pointer p (pointer_of x) ≡ b → (if b then Some (page_of spot x) else at p) ≡ Some y → IsOwned (with_owner owners spot (Some x)) p y
put-owned owners at spot x h free p y true same e =
    let is : page_of spot x ≡ y = cc in
    subst (IsOwned (with_owner owners spot (Some x)) p) is (record {
      owner = x;
      is_owner = ap (λ (b : Bool). if b then Some x else owners spot) (is_spot-same spot);
      points = sym (same-pointer p (pointer_of x) same);
      spare = refl;
    })
put-owned owners at spot x h free p y false same e =
    let o = h.owned p y e in
    let ne : y.spot ≢ spot = λ is. never (sym free ∙ ap owners (sym is) ∙ o.is_owner) in
    record {
      owner = o.owner;
      is_owner = ap (λ (b : Bool). if b then Some x else owners y.spot) (is_spot-other y.spot spot ne) ∙ o.is_owner;
      points = o.points;
      spare = o.spare;
    }

put-led : (owners : Spot → Option Owner) (at : Behind Page) (spot : Spot) (x : Owner) → AreOwners owners at → at (pointer_of x) ≡ None → (s : Spot) (o : Owner) (b : Bool) → is_spot s spot ≡ b → (if b then Some x else owners s) ≡ Some o → with_pointer at (pointer_of x) (Some (page_of spot x)) (pointer_of o) ≡ Some (page_of s o)
put-led owners at spot x h none s o true same e =
    let place : s ≡ spot = same-spot s spot same in
    let is : x ≡ o = cc in
    subst (λ (z : Owner). with_pointer at (pointer_of x) (Some (page_of spot x)) (pointer_of z) ≡ Some (page_of s z)) is
    (ap (λ (b : Bool). if b then Some (page_of spot x) else at (pointer_of x)) (is_pointer-same (pointer_of x)) ∙ ap (λ (z : Spot). Some (page_of z x)) (sym place))
put-led owners at spot x h none s o false same e =
    let led = h.led s o e in
    let ne : pointer_of o ≢ pointer_of x = λ is. never (sym none ∙ ap at (sym is) ∙ led) in
    ap (λ (b : Bool). if b then Some (page_of spot x) else at (pointer_of o)) (is_pointer-other (pointer_of o) (pointer_of x) ne) ∙ led

pub owners-put : (owners : Spot → Option Owner) (at : Behind Page) (spot : Spot) (x : Owner) → AreOwners owners at → owners spot ≡ None → at (pointer_of x) ≡ None → AreOwners (with_owner owners spot (Some x)) (with_pointer at (pointer_of x) (Some (page_of spot x)))
owners-put owners at spot x h free none = record {
  owned = λ p y e. put-owned owners at spot x h free p y (is_pointer p (pointer_of x)) refl e;
  led = λ s o e. put-led owners at spot x h none s o (is_spot s spot) refl e;
}

-- ---- a page loses its owner, and no pointer leads there

cleared-owned : (owners : Spot → Option Owner) (at : Behind Page) (spot : Spot) (x : Owner) → AreOwners owners at → owners spot ≡ Some x → (p : Pointer) (y : Page) (b : Bool) → is_pointer p (pointer_of x) ≡ b → (if b then None else at p) ≡ Some y → IsOwned (with_owner owners spot None) p y
cleared-owned owners at spot x h was p y true same e = absurd (never e)
cleared-owned owners at spot x h was p y false same e =
    let o = h.owned p y e in
    let ne : y.spot ≢ spot = λ is.
    let both : Some x ≡ Some o.owner = sym was ∙ ap owners (sym is) ∙ o.is_owner in
    let one : x ≡ o.owner = cc in
    let again : p ≡ pointer_of x = sym o.points ∙ ap pointer_of (sym one) in
    apart (sym same ∙ ap (λ (q : Pointer). is_pointer q (pointer_of x)) again ∙ is_pointer-same (pointer_of x)) in
    record {
      owner = o.owner;
      is_owner = ap (λ (b : Bool). if b then None else owners y.spot) (is_spot-other y.spot spot ne) ∙ o.is_owner;
      points = o.points;
      spare = o.spare;
    } where
      apart : false ≡ true → ⊥
      apart e = cc

cleared-led : (owners : Spot → Option Owner) (at : Behind Page) (spot : Spot) (x : Owner) → AreOwners owners at → owners spot ≡ Some x → (s : Spot) (o : Owner) (b : Bool) → is_spot s spot ≡ b → (if b then None else owners s) ≡ Some o → with_pointer at (pointer_of x) None (pointer_of o) ≡ Some (page_of s o)
cleared-led owners at spot x h was s o true same e = absurd (never e)
cleared-led owners at spot x h was s o false same e =
    let led = h.led s o e in
    let ne : pointer_of o ≢ pointer_of x = λ is.
    let both : Some (page_of s o) ≡ Some (page_of spot x) = sym led ∙ ap at is ∙ h.led spot x was in
    let page : page_of s o ≡ page_of spot x = cc in
    let place : s ≡ spot = ap (λ (y : Page). y.spot) page in
    apart (sym same ∙ ap (λ (z : Spot). is_spot z spot) place ∙ is_spot-same spot) in
    ap (λ (b : Bool). if b then None else at (pointer_of o)) (is_pointer-other (pointer_of o) (pointer_of x) ne) ∙ led where
      apart : false ≡ true → ⊥
      apart e = cc

pub owners-cleared : (owners : Spot → Option Owner) (at : Behind Page) (spot : Spot) (x : Owner) → AreOwners owners at → owners spot ≡ Some x → AreOwners (with_owner owners spot None) (with_pointer at (pointer_of x) None)
owners-cleared owners at spot x h was = record {
  owned = λ p y e. cleared-owned owners at spot x h was p y (is_pointer p (pointer_of x)) refl e;
  led = λ s o e. cleared-led owners at spot x h was s o (is_spot s spot) refl e;
}

-- ---- the owner of a page gets another page, or the page another owner

-- what was put last counts
twice : {X : Type 0} (b : Bool) (v w x : X) → (if b then v else if b then w else x) ≡ (if b then v else x)
twice true v w x = refl
twice false v w x = refl

-- where nothing stands, nothing is taken away
gone : {X : Type 0} (b : Bool) (o : Option X) → o ≡ None → (if b then None else o) ≡ None
gone true o e = refl
gone false o e = e

pub owners-moved : (owners : Spot → Option Owner) (at : Behind Page) (from to : Spot) (x : Owner) → AreOwners owners at → owners from ≡ Some x → owners to ≡ None → AreOwners (with_owner (with_owner owners from None) to (Some x)) (with_pointer at (pointer_of x) (Some (page_of to x)))
owners-moved owners at from to x h was free =
    let without = owners-cleared owners at from x h was in
    let none : with_pointer at (pointer_of x) None (pointer_of x) ≡ None = ap (λ (b : Bool). if b then None else at (pointer_of x)) (is_pointer-same (pointer_of x)) in
    subst (AreOwners (with_owner (with_owner owners from None) to (Some x)))
    (λ d p. twice (is_pointer p (pointer_of x)) (Some (page_of to x)) None (at p) d)
    (owners-put (with_owner owners from None) (with_pointer at (pointer_of x) None) to x without (gone (is_spot to from) (owners to) free) none)

pub owners-handed : (owners : Spot → Option Owner) (at : Behind Page) (spot : Spot) (x : Owner) (holder : Holder) → AreOwners owners at → owners spot ≡ Some x → at (pointer_of (held_by holder x)) ≡ None
    → AreOwners (with_owner owners spot (Some (held_by holder x))) (with_pointer (with_pointer at (pointer_of x) None) (pointer_of (held_by holder x)) (Some (page_of spot x)))
owners-handed owners at spot x holder h was none =
    let without = owners-cleared owners at spot x h was in
    let free : with_owner owners spot None spot ≡ None = ap (λ (b : Bool). if b then None else owners spot) (is_spot-same spot) in
    subst (λ (o : Spot → Option Owner). AreOwners o (with_pointer (with_pointer at (pointer_of x) None) (pointer_of (held_by holder x)) (Some (page_of spot x))))
    (λ d s. twice (is_spot s spot) (Some (held_by holder x)) None (owners s) d)
    (owners-put (with_owner owners spot None) (with_pointer at (pointer_of x) None) spot (held_by holder x) without free (gone (is_pointer (pointer_of (held_by holder x)) (pointer_of x)) (at (pointer_of (held_by holder x))) none))

-- ---- two pointers, two pages

pub owners-apart : (owners : Spot → Option Owner) (at : Behind Page) → AreOwners owners at → IsApart at
owners-apart owners at h p q y z e f same =
    let one = h.owned p y e in
    let two = h.owned q z f in
    let both : Some one.owner ≡ Some two.owner = sym one.is_owner ∙ ap owners same ∙ two.is_owner in
    let is : one.owner ≡ two.owner = cc in
    sym one.points ∙ ap pointer_of is ∙ two.points

pub owners-none : AreOwners (λ spot. None) (λ p. None)
owners-none = record { owned = λ p y e. absurd (never e); led = λ s o e. absurd (never e) }

-- no pointer leads into a unit of which no page has an owner
pub unit-unled : (owners : Spot → Option Owner) (at : Behind Page) (unit : ℕ) → AreOwners owners at → ((spot : Spot) (x : Owner) → owners spot ≡ Some x → spot.unit ≢ unit) → IsFree unit at
unit-unled owners at unit h none p y e = let o = h.owned p y e in none y.spot o.owner o.is_owner
