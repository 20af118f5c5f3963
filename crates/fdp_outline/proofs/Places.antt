-- Rows that are put in the place of an identifier.
use Rattle.std.proofs.Common.{◌≡◌, ◌≢◌, ℕ, ◌-◌, ◌<◌, ◌≤◌, Bool, true, false, IsTrue, List, length, set, Option, Some, refl, ap, sym, ◌∙◌, arith, ⊎_elim}
use Rattle.std.specs.Prelude.{◌==◌, ◌&&◌, slice_get, if◌then◌else◌, nat_le, nat_lt}
use Rattle.std.proofs.lemmas.Bool.{eq-eqb, le-leb, leb-true, lt-ltb, ltb-true, ne_eqb}
use Rattle.std.proofs.lemmas.Bool.Decides.{eqb_tells}
use Rattle.fdp_base.specs.Geometry.{IsWithin}
use Rattle.fdp_flash.proofs.Lists.{slice_get-set_other, slice_get-set_same}
use Rattle.fdp_image.specs.CheckpointRows.{is_namespace_id}

-- what is read of a list where one element was written
pub read_set : {X Y : Type 0} (f : Option X → Y) (xs : List X) (i : ℕ) (x : X) → i < length xs → (k : ℕ) → f (slice_get (set xs i x) k) ≡ (if k == i then f (Some x) else f (slice_get xs k))
read_set f xs i x there k =
    ⊎_elim
    (λ (h : (k == i ≡ true) × (k ≡ i)). ap f (ap (slice_get (set xs i x)) h.1 ∙ slice_get-set_same xs i x there) ∙ sym (ap (λ (b : Bool). if b then f (Some x) else f (slice_get xs k)) h.0))
    (λ (h : (k == i ≡ false) × (k ≢ i)). ap f (slice_get-set_other xs i k x h.1) ∙ sym (ap (λ (b : Bool). if b then f (Some x) else f (slice_get xs k)) h.0))
    (eqb_tells k i)

-- an identifier is from 1 to 16
pub id_is : (n : ℕ) → IsTrue (is_namespace_id n) → (1 ≤ n) × (n ≤ 16)
id_is n h = of_tests (nat_le 1 n) (nat_lt n 17) refl refl h where
  of_tests : (a b : Bool) → nat_le 1 n ≡ a → nat_lt n 17 ≡ b → IsTrue (a && b) → (1 ≤ n) × (n ≤ 16)
  of_tests true true p q h = let low : 1 ≤ n = leb-true 1 n p in let high : n < 17 = ltb-true n 17 q in (low, omega arith)
  of_tests true false p q h = cc
  of_tests false b p q h = cc

-- the places of two identifiers are one place only where they are one
same-place : (n id : ℕ) → 1 ≤ n → 1 ≤ id → (n - 1 == id - 1) ≡ (n == id)
same-place n id some one =
    ⊎_elim
    (λ (h : (n == id ≡ true) × (n ≡ id)). let e : n - 1 ≡ id - 1 = omega (arith, h.1) in eq-eqb (n - 1) (id - 1) e ∙ sym h.0)
    (λ (h : (n == id ≡ false) × (n ≢ id)). let e : n - 1 ≢ id - 1 = λ (x : n - 1 ≡ id - 1). h.1 (omega (arith, x)) in ne_eqb (n - 1) (id - 1) e ∙ sym h.0)
    (eqb_tells n id)

-- what is read in the place of an identifier, where one was written
pub place_set : {X Y : Type 0} (f : Option X → Y) (none : Y) (xs : List X) (id : ℕ) (x : X) → IsTrue (is_namespace_id id) → length xs ≡ 16 → (n : ℕ)
    → (if is_namespace_id n then f (slice_get (set xs (id - 1) x) (n - 1)) else none) ≡ (if n == id then f (Some x) else (if is_namespace_id n then f (slice_get xs (n - 1)) else none))
place_set {X} {Y} f none xs id x good size n = of_id (is_namespace_id n) refl where
  range : (1 ≤ id) × (id ≤ 16)
  range = id_is id good

  there : id - 1 < length xs
  there = let low : 1 ≤ id = range.0 in let high : id ≤ 16 = range.1 in omega arith

  of_id : (b : Bool) → is_namespace_id n ≡ b
      → (if b then f (slice_get (set xs (id - 1) x) (n - 1)) else none) ≡ (if n == id then f (Some x) else (if b then f (slice_get xs (n - 1)) else none))
  of_id true is =
      let low : 1 ≤ n = (id_is n is).0 in
      read_set f xs (id - 1) x there (n - 1) ∙ ap (λ (b : Bool). if b then f (Some x) else f (slice_get xs (n - 1))) (same-place n id low range.0)
  of_id false is =
      let other : (n == id) ≡ false = ne_eqb n id (λ (e : n ≡ id). let no : false ≡ is_namespace_id id = sym is ∙ ap is_namespace_id e in cc) in
      sym (ap (λ (b : Bool). if b then f (Some x) else none) other)

-- an identifier from 1 to 16 has a place
pub id-of : (nsid : ℕ) → IsWithin 1 16 nsid → IsTrue (is_namespace_id nsid)
id-of nsid within = ap (λ (b : Bool). b && nat_lt nsid 17) (le-leb 1 nsid within.0) ∙ lt-ltb nsid 17 (omega (arith, within.1))
