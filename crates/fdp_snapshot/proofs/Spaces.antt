-- A namespace is read from its row.
use Rattle.std.proofs.Common.{◌≡◌, ℕ, ◌+◌, ◌-◌, ◌≤◌, Bool, true, false, List, length, take, drop, min, Some, None, refl, sym, ap, ◌∙◌, arith, inl, inr}
use Rattle.std.specs.Prelude.{◌==◌, if◌then◌else◌, slice_index}
use Rattle.std.proofs.lemmas.Bool.{cases_lt}
use Rattle.std.proofs.lemmas.Bool.Decides.{nat_tests}
use Rattle.std.proofs.lemmas.List.{length-drop, length-take, take_all}
use Rattle.fdp_records.specs.Bytes.{◌⊕◌, part, value}
use Rattle.fdp_snapshot.specs.declared.space.Space.{Space}
use Rattle.fdp_snapshot.specs.Rows.{IsSpaceRow, space_in}

-- of sixteen bytes no more than sixteen are taken
pub most_taken : (bytes : List ℕ) (n k : ℕ) → length bytes ≡ 40 → k ≡ min n 16 → take (24 + k - 24) (drop 24 bytes) ≡ take n (drop 24 bytes)
most_taken bytes n k size is = elim (cases_lt n 17) [
  | inl few ↦ (let e : 24 + k - 24 ≡ n = omega (arith, is, few) in ap (λ (m : ℕ). take m (drop 24 bytes)) e)
  | inr many ↦ (
      let left : length (drop 24 bytes) ≡ 16 = length-drop 24 bytes ∙ omega (arith, size) in
      take_all (24 + k - 24) (drop 24 bytes) (omega (arith, is, many, left)) ∙ sym (take_all n (drop 24 bytes) (omega (arith, many, left)))
      )
]

pub not_zero : (n : ℕ) → (n ≡ 0 → ⊥) → (n == 0) ≡ false
not_zero n h = grind (arith, nat_tests)

not_none : (b : Bool) (x : Space) → b ≡ false → Some x ≡ (if b then None else Some x)
not_none true x e = absurd cc
not_none false x e = refl

pub space_read : (bytes handles : List ℕ) (size birth : ℕ) (given : Bool) → (value (0 ⊕ 8) bytes == 0) ≡ false → size ≡ value (0 ⊕ 8) bytes → birth ≡ value (8 ⊕ 8) bytes
    → given ≡ (slice_index bytes 16 == 1) → handles ≡ part (24 ⊕ slice_index bytes 17) bytes
    → Some (record { size = size; birth = birth; given = given; handles = handles }) ≡ space_in bytes
space_read bytes handles size birth given some a b d e =
    (λ i. Some (record { size = a i; birth = b i; given = d i; handles = e i }))
    ∙ not_none (value (0 ⊕ 8) bytes == 0) (record { size = value (0 ⊕ 8) bytes; birth = value (8 ⊕ 8) bytes; given = slice_index bytes 16 == 1; handles = part (24 ⊕ slice_index bytes 17) bytes }) some

-- what a row says is a namespace that a row has room for
pub row_is : (bytes : List ℕ) → length bytes ≤ 40 → IsSpaceRow (space_in bytes)
row_is bytes size = of_test (value (0 ⊕ 8) bytes == 0) refl where
  said : Space
  said = record { size = value (0 ⊕ 8) bytes; birth = value (8 ⊕ 8) bytes; given = slice_index bytes 16 == 1; handles = part (24 ⊕ slice_index bytes 17) bytes }

  of_test : (b : Bool) → (value (0 ⊕ 8) bytes == 0) ≡ b → IsSpaceRow (if b then None else Some said)
  of_test true is = tt
  of_test false is = record {
    blocks = grind (arith, nat_tests);
    handles = omega (arith, length-take (slice_index bytes 17) (drop 24 bytes), length-drop 24 bytes);
  }
