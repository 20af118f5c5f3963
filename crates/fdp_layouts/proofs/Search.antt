-- The search for a stray byte, one byte at a time.
use Rattle.std.proofs.Common.{◌≡◌, ℕ, zero, suc, ◌+◌, ◌-◌, ◌<◌, ◌≤◌, Bool, true, false, Option, Some, None, sym, refl, ◌∙◌, arith, cond, inl, inr}
use Rattle.std.proofs.lemmas.Bool.{cases_lt}
use Rattle.std.specs.List.{find, range_with_len}

pub finds : (test : ℕ → Bool) (i len : ℕ) (total : Option ℕ) → i < len → test i ≡ true
    → find test (range_with_len i (len - i)) ≡ total → Some i ≡ total
finds test i len total lt here so_far =
    let k : len - i ≡ suc (len - (i + 1)) = omega arith in
    let one : find test (range_with_len i (len - i)) ≡ Some i = rw (k, here) refl in
    sym one ∙ so_far

pub goes_on : (test : ℕ → Bool) (i len : ℕ) (total : Option ℕ) → i < len → test i ≡ false
    → find test (range_with_len i (len - i)) ≡ total → find test (range_with_len (i + 1) (len - (i + 1))) ≡ total
goes_on test i len total lt here so_far =
    let k : len - i ≡ suc (len - (i + 1)) = omega arith in
    let one : find test (range_with_len i (len - i)) ≡ find test (range_with_len (i + 1) (len - (i + 1))) = rw (k, here) refl in
    sym one ∙ so_far

pub ends : (test : ℕ → Bool) (i len : ℕ) (total : Option ℕ) → len ≤ i
    → find test (range_with_len i (len - i)) ≡ total → None ≡ total
ends test i len total le so_far =
    let k : len - i ≡ 0 = omega arith in
    let one : find test (range_with_len i (len - i)) ≡ None = rw k refl in
    sym one ∙ so_far

-- nothing is found where every test fails
pub finds_none : (test : ℕ → Bool) (i n : ℕ) → ((k : ℕ) → i ≤ k → k < i + n → test k ≡ false) → find test (range_with_len i n) ≡ None
finds_none test i zero fails = refl
finds_none test i (suc n) fails =
    let here : test i ≡ false = fails i (omega arith) (omega arith) in
    rw here (finds_none test (i + 1) n (λ k lo hi. fails k (omega arith) (omega arith)))

not_found : (b : Bool) (x : ℕ) (o : Option ℕ) → cond b (Some x) o ≡ None → (b ≡ false) × (o ≡ None)
not_found true x o e = absurd cc
not_found false x o e = (refl, e)

-- where nothing is found every test fails
pub none_found : (test : ℕ → Bool) (i n : ℕ) → find test (range_with_len i n) ≡ None → (k : ℕ) → i ≤ k → k < i + n → test k ≡ false
none_found test i zero e k lo hi = absurd (omega arith)
none_found test i (suc n) e k lo hi =
    let parts = not_found (test i) i (find test (range_with_len (i + 1) n)) e in
    elim (cases_lt i k) [
      | inl above ↦ none_found test (i + 1) n parts.1 k (omega arith) (omega arith)
      | inr below ↦ let same : k ≡ i = omega arith in rw same parts.0
    ]
