-- What a success makes of owners and pointers: blocks get the pages of a write, one after another.
use Rattle.std.proofs.Common.{◌≡◌, ◌≢◌, ℕ, ◌+◌, ◌-◌, ◌≤◌, Bool, true, false, Option, Some, None, refl, sym, ◌∙◌, ap, subst, arith, ⊎_elim, eq-eqb, ne_eqb}
use Rattle.std.specs.Prelude.{◌==◌, ◌&&◌, MatchOption, if◌then◌else◌, nat_le, nat_lt, option_and_then, option_map}
use Rattle.std.proofs.lemmas.Bool.{and_from, and_parts, and_right, cases_eq, eqb-true, le-leb, le-ltb, leb-true, lt-ltb, ltb-false, ltb-true}
use Rattle.fdp_base.specs.declared.entry.Spot.{Spot}
use Rattle.fdp_base.specs.declared.spare.DataSpare.{DataSpare}
use Rattle.fdp_base.specs.Numbers.{is_among}
use Rattle.fdp_locations.specs.Taken.{taken_first}
use Rattle.fdp_owners.specs.declared.owner.Holder.TheVariants.{Block}
use Rattle.fdp_owners.specs.declared.owner.Owner.{Owner}
use Rattle.fdp_owners.specs.Owned.{AreOwners, is_pointer, page_of, with_pointer}
use Rattle.fdp_owners.specs.OwnerTable.{held_by, pointer_of, with_owner}
use Rattle.fdp_owners.proofs.Owned.{owners-cleared, owners-handed}
use Rattle.fdp_pointers.specs.Facts.{Page}
use Rattle.fdp_pointers.specs.Pointers.{Behind, Pointer, Pointer.of_block, Pointer.of_flight, renamed, taken_by}

never : {X : Type 0} {x : X} → None ≡ Some x → ⊥
never e = cc

is_pointer-same : (p : Pointer) → is_pointer p p ≡ true
is_pointer-same (of_block nsid lba) = rw (eq-eqb nsid nsid refl, eq-eqb lba lba refl) refl
is_pointer-same (of_flight queue index) = rw (eq-eqb queue queue refl, eq-eqb index index refl) refl

same-pointer : (p q : Pointer) → is_pointer p q ≡ true → p ≡ q
same-pointer (of_block nsid lba) (of_block n l) e =
    let both = and_parts (nsid == n) (lba == l) e in
    let one : nsid ≡ n = eqb-true nsid n both.0 in
    let two : lba ≡ l = eqb-true lba l both.1 in
    cc
same-pointer (of_block nsid lba) (of_flight q i) e = absurd cc
same-pointer (of_flight queue index) (of_block n l) e = absurd cc
same-pointer (of_flight queue index) (of_flight q i) e =
    let both = and_parts (queue == q) (index == i) e in
    let one : queue ≡ q = eqb-true queue q both.0 in
    let two : index ≡ i = eqb-true index i both.1 in
    cc

-- ---- numbers in a row, and one more

lt-other : (n m : ℕ) → n ≢ m → nat_lt n (m + 1) ≡ nat_lt n m
lt-other n m ne =
    (elim (nat_lt n m) as (λ b. nat_lt n m ≡ b → nat_lt n (m + 1) ≡ b) [
      | true ↦ λ e. lt-ltb n (m + 1) (omega (arith, ltb-true n m e))
      | false ↦ λ e. le-ltb n (m + 1) (omega (arith, ltb-false n m e, ne))
    ]) refl

lt-own : (n : ℕ) → nat_lt n (n + 1) ≡ true
lt-own n = lt-ltb n (n + 1) (omega arith)

lt-not : (n : ℕ) → nat_lt n n ≡ false
lt-not n = le-ltb n n (omega arith)

among-other : (slba count lba : ℕ) → lba ≢ slba + count → is_among slba (count + 1) lba ≡ is_among slba count lba
among-other slba count lba ne =
    let one : slba + (count + 1) ≡ slba + count + 1 = omega arith in
    ap (λ (b : Bool). nat_le slba lba && b) (ap (nat_lt lba) one ∙ lt-other lba (slba + count) ne)

among-own : (slba count : ℕ) → is_among slba (count + 1) (slba + count) ≡ true
among-own slba count = and_from (nat_le slba (slba + count)) (nat_lt (slba + count) (slba + (count + 1))) (le-leb slba (slba + count) (omega arith)) (lt-ltb (slba + count) (slba + (count + 1)) (omega arith))

pub among-not : (slba count : ℕ) → is_among slba count (slba + count) ≡ false
among-not slba count = and_right (nat_le slba (slba + count)) (nat_lt (slba + count) (slba + count)) (lt-not (slba + count))

-- ---- one block more

-- the next block has what it had, and the write its page
pub block-before : (queue nsid slba index : ℕ) (at : Behind Page) → renamed (taken_first queue nsid slba index) at (of_block nsid (slba + index)) ≡ at (of_block nsid (slba + index))
block-before queue nsid slba index at =
    ap (λ (b : Bool). option_and_then at (if b then Some (of_flight queue (slba + index - slba)) else Some (of_block nsid (slba + index)))) (and_right (nsid == nsid) (is_among slba index (slba + index)) (among-not slba index))

pub flight-before : (queue nsid slba index : ℕ) (at : Behind Page) → renamed (taken_first queue nsid slba index) at (of_flight queue index) ≡ at (of_flight queue index)
flight-before queue nsid slba index at =
    ap (λ (b : Bool). option_and_then at (if b then None else Some (of_flight queue index))) (and_right (queue == queue) (nat_lt index index) (lt-not index))

-- the table with the next block's page taken away, then that of the write, which the block gets
abbrev handed_table : ℕ → ℕ → ℕ → ℕ → Behind Page → Page → Behind Page
handed_table queue nsid slba index at y = with_pointer (with_pointer (with_pointer (renamed (taken_first queue nsid slba index) at) (of_block nsid (slba + index)) None) (of_flight queue index) None) (of_block nsid (slba + index)) (Some y)

block-next : (queue nsid slba index : ℕ) (at : Behind Page) (y : Page) → at (of_flight queue index) ≡ Some y → (n lba : ℕ) → handed_table queue nsid slba index at y (of_block n lba) ≡ renamed (taken_first queue nsid slba (index + 1)) at (of_block n lba)
block-next queue nsid slba index at y there n lba =
    ⊎_elim
    (λ (e : n ≡ nsid).
    ⊎_elim
    (λ (f : lba ≡ slba + index).
    let among : is_among slba (index + 1) lba ≡ true = ap (is_among slba (index + 1)) f ∙ among-own slba index in
    let place : lba - slba ≡ index = omega (arith, f) in
    rw (eq-eqb n nsid e, eq-eqb lba (slba + index) f, among, place, there) refl)
    (λ (ne : lba ≢ slba + index). rw (eq-eqb n nsid e, ne_eqb lba (slba + index) ne, among-other slba index lba ne) refl)
    (cases_eq lba (slba + index)))
    (λ (ne : n ≢ nsid). rw (ne_eqb n nsid ne) refl)
    (cases_eq n nsid)

flight-next : (queue nsid slba index : ℕ) (at : Behind Page) (y : Page) → (q i : ℕ) → handed_table queue nsid slba index at y (of_flight q i) ≡ renamed (taken_first queue nsid slba (index + 1)) at (of_flight q i)
flight-next queue nsid slba index at y q i =
    ⊎_elim
    (λ (e : q ≡ queue).
    ⊎_elim
    (λ (f : i ≡ index). rw (eq-eqb q queue e, eq-eqb i index f, ap (λ (k : ℕ). nat_lt k (index + 1)) f ∙ lt-own index) refl)
    (λ (ne : i ≢ index). rw (eq-eqb q queue e, ne_eqb i index ne, lt-other i index ne) refl)
    (cases_eq i index))
    (λ (ne : q ≢ queue). rw (ne_eqb q queue ne) refl)
    (cases_eq q queue)

table-next : (queue nsid slba index : ℕ) (at : Behind Page) (y : Page) → at (of_flight queue index) ≡ Some y → (p : Pointer) → handed_table queue nsid slba index at y p ≡ renamed (taken_first queue nsid slba (index + 1)) at p
table-next queue nsid slba index at y there (of_block n lba) = block-next queue nsid slba index at y there n lba
table-next queue nsid slba index at y there (of_flight q i) = flight-next queue nsid slba index at y q i

-- where nothing stands, nothing is taken away
unpointed : (at : Behind Page) (b : Pointer) → at b ≡ None → (p : Pointer) → with_pointer at b None p ≡ at p
unpointed at b none p =
    (elim (is_pointer p b) as (λ t. is_pointer p b ≡ t → (if t then None else at p) ≡ at p) [
      | true ↦ λ e. sym (ap at (same-pointer p b e) ∙ none)
      | false ↦ λ e. refl
    ]) refl

-- the page that the next block had has no owner any more, if it had one
abbrev pub IsCleared : (Spot → Option Owner) → (Spot → Option Owner) → Option Page → Type 0
IsCleared owners cleared o = MatchOption o (cleared ≡ owners) (λ (z : Page). cleared ≡ with_owner owners z.spot None)

block-cleared : (owners cleared : Spot → Option Owner) (at : Behind Page) (b : Pointer) (o : Option Page) → AreOwners owners at → at b ≡ o → IsCleared owners cleared o → AreOwners cleared (with_pointer at b None)
block-cleared owners cleared at b None h none is =
    subst (λ (t : Behind Page). AreOwners cleared t) (λ d p. sym (unpointed at b none p) d) (subst (λ (o : Spot → Option Owner). AreOwners o at) (sym is) h)
block-cleared owners cleared at b (Some z) h there is =
    let o = h.owned b z there in
    subst (λ (x : Spot → Option Owner). AreOwners x (with_pointer at b None)) (sym is)
    (subst (λ (q : Pointer). AreOwners (with_owner owners z.spot None) (with_pointer at q None)) o.points (owners-cleared owners at z.spot o.owner h o.is_owner))

-- one block more has its page
pub taken-next : (queue nsid slba index : ℕ) (at : Behind Page) (owners cleared handed : Spot → Option Owner) (y : Page) →
    at (of_flight queue index) ≡ Some y → y.spare.nsid ≡ nsid → y.spare.lba ≡ slba + index →
    AreOwners owners (renamed (taken_first queue nsid slba index) at) → IsCleared owners cleared (at (of_block nsid (slba + index))) →
    handed ≡ with_owner cleared y.spot (option_map (held_by Block) (cleared y.spot)) →
    AreOwners handed (renamed (taken_first queue nsid slba (index + 1)) at)
taken-next queue nsid slba index at owners cleared handed y there name address h was is =
    let b : Pointer = of_block nsid (slba + index) in
    let f : Pointer = of_flight queue index in
    let first : Behind Page = renamed (taken_first queue nsid slba index) at in
    let second : Behind Page = with_pointer first b None in
    let one : AreOwners cleared second = block-cleared owners cleared first b (at b) h (block-before queue nsid slba index at) was in
    let page : second f ≡ Some y = flight-before queue nsid slba index at ∙ there in
    let o = one.owned f y page in
    let pointer : pointer_of (held_by Block o.owner) ≡ b =
    ap (λ (s : DataSpare). of_block s.nsid s.lba) o.spare ∙ ap (λ (n : ℕ). of_block n y.spare.lba) name ∙ ap (λ (l : ℕ). of_block nsid l) address in
    let none : second b ≡ None = ap (λ (t : Bool). if t then None else first b) (is_pointer-same b) in
    let two = owners-handed cleared second y.spot o.owner Block one o.is_owner (ap second pointer ∙ none) in
    let page_is : page_of y.spot o.owner ≡ y = ap (λ (s : DataSpare). record { spot = y.spot; spare = s }) o.spare in
    let three : AreOwners (with_owner cleared y.spot (Some (held_by Block o.owner))) (handed_table queue nsid slba index at y) =
    subst (λ (z : Page). AreOwners (with_owner cleared y.spot (Some (held_by Block o.owner))) (with_pointer (with_pointer second f None) b (Some z))) page_is
    (subst (λ (q : Pointer). AreOwners (with_owner cleared y.spot (Some (held_by Block o.owner))) (with_pointer (with_pointer second f None) q (Some (page_of y.spot o.owner)))) pointer
    (subst (λ (q : Pointer). AreOwners (with_owner cleared y.spot (Some (held_by Block o.owner))) (with_pointer (with_pointer second q None) (pointer_of (held_by Block o.owner)) (Some (page_of y.spot o.owner)))) o.points two)) in
    subst (λ (x : Spot → Option Owner). AreOwners x (renamed (taken_first queue nsid slba (index + 1)) at)) (sym (is ∙ ap (λ (x : Option Owner). with_owner cleared y.spot (option_map (held_by Block) x)) o.is_owner))
    (subst (λ (t : Behind Page). AreOwners (with_owner cleared y.spot (Some (held_by Block o.owner))) t) (λ d p. table-next queue nsid slba index at y there p d) three)

-- ---- all blocks

-- before the first nothing is taken
pub taken-none : (queue nsid slba : ℕ) (owners : Spot → Option Owner) (at : Behind Page) → AreOwners owners at → AreOwners owners (renamed (taken_first queue nsid slba 0) at)
taken-none queue nsid slba owners at h = subst (λ (t : Behind Page). AreOwners owners t) (λ d p. sym (first p) d) h where
  first : (p : Pointer) → renamed (taken_first queue nsid slba 0) at p ≡ at p
  first (of_block n lba) = ap (λ (b : Bool). option_and_then at (if b then Some (of_flight queue (lba - slba)) else Some (of_block n lba))) (and_right (n == nsid) (is_among slba 0 lba) (no-one lba)) where
    no-one : (lba : ℕ) → is_among slba 0 lba ≡ false
    no-one lba =
        (elim (nat_le slba lba) as (λ b. nat_le slba lba ≡ b → (b && nat_lt lba (slba + 0)) ≡ false) [
          | true ↦ λ e. le-ltb lba (slba + 0) (omega (arith, leb-true slba lba e))
          | false ↦ λ e. refl
        ]) refl
  first (of_flight q i) = ap (λ (b : Bool). option_and_then at (if b then None else Some (of_flight q i))) (and_right (q == queue) (nat_lt i 0) (le-ltb i 0 (omega arith)))

-- after the last all are taken, where the write has no more pages
pub taken-all : (queue nsid slba count : ℕ) (owners : Spot → Option Owner) (at : Behind Page) → ((i : ℕ) → count ≤ i → at (of_flight queue i) ≡ None) → AreOwners owners (renamed (taken_first queue nsid slba count) at) → AreOwners owners (renamed (taken_by queue nsid slba count) at)
taken-all queue nsid slba count owners at none h = subst (λ (t : Behind Page). AreOwners owners t) (λ d p. last p d) h where
  last : (p : Pointer) → renamed (taken_first queue nsid slba count) at p ≡ renamed (taken_by queue nsid slba count) at p
  last (of_block n lba) = refl
  last (of_flight q i) =
      ⊎_elim
      (λ (e : q ≡ queue).
      (elim (nat_lt i count) as (λ b. nat_lt i count ≡ b → option_and_then at (if q == queue && b then None else Some (of_flight q i)) ≡ option_and_then at (if q == queue then None else Some (of_flight q i))) [
        | true ↦ λ low. rw (eq-eqb q queue e) refl
        | false ↦ λ high. rw (eq-eqb q queue e) (ap (λ (k : ℕ). at (of_flight k i)) e ∙ none i (ltb-false i count high))
      ]) refl)
      (λ (ne : q ≢ queue). rw (ne_eqb q queue ne) refl)
      (cases_eq q queue)
