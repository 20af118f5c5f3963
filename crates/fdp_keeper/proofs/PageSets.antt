-- A page more in a set.
use Rattle.std.proofs.Common.{◌≡◌, ◌≢◌, ℕ, zero, suc, ◌+◌, ◌*◌, ◌/◌, ◌%◌, ◌^◌, ◌<◌, ◌≤◌, Bool, true, false, List, [], ◌∷◌, ◌++◌, length, get_or, set, refl, ap, sym, ◌∙◌, subst, arith, ⊎_elim, filter, length-set, get_or-set_other, get_or-set_same, length-append}
use Rattle.std.specs.Prelude.{◌==◌, bit_or, count_ones, if◌then◌else◌, slice_index, sum_by}
use Rattle.std.specs.Int.{bit_at}
use Rattle.std.specs.Int.Bits.{or_zero_r}
use Rattle.std.specs.Int.Count.{ones_step}
use Rattle.std.proofs.lemmas.Bool.{cases_eq}
use Rattle.std.proofs.lemmas.Bool.Decides.{eqb_tells}
use Rattle.std.proofs.lemmas.List.Sums.{sum_by-set}
use Rattle.std.proofs.lemmas.Nat.{or_shr}
use Rattle.std.proofs.lemmas.Nat.Bits.{bit_at-lt, bit_at-pow_other, bit_at-pow_same, bit_at-suc, bit_at_lowest, bit_at_or}
use Rattle.std.proofs.Math.Nat.{pow-suc}
use Rattle.fdp_base.specs.Numbers.{numbers_below, numbers_from}
use Rattle.fdp_image.specs.Bits.{has_bit, is_bit_set}
use Rattle.fdp_records.specs.declared.page_set.PageSet.{PageSet}
use Rattle.fdp_keeper.specs.Moves.{HasPages}

pub small-power : (j : ℕ) → j < 8 → 1 * 2 ^ j % 256 ≡ 2 ^ j
small-power zero h = refl
small-power (suc zero) h = refl
small-power (suc (suc zero)) h = refl
small-power (suc (suc (suc zero))) h = refl
small-power (suc (suc (suc (suc zero)))) h = refl
small-power (suc (suc (suc (suc (suc zero))))) h = refl
small-power (suc (suc (suc (suc (suc (suc zero)))))) h = refl
small-power (suc (suc (suc (suc (suc (suc (suc zero))))))) h = refl
small-power (suc (suc (suc (suc (suc (suc (suc (suc j)))))))) h = absurd (omega (arith, h))

-- one bit more of a number
pub bit-more : (n j k : ℕ) → has_bit (bit_or n (2 ^ j)) k ≡ (if k == j then true else has_bit n k)
bit-more n j k = ⊎_elim
    (λ (h : (k == j ≡ true) × (k ≡ j)).
    let one : bit_at (2 ^ j) k ≡ 1 = ap (bit_at (2 ^ j)) h.1 ∙ bit_at-pow_same j in
    let low : bit_at n k < 2 = bit_at-lt n k in
    let both : bit_at (bit_or n (2 ^ j)) k ≡ 1 = bit_at_or n (2 ^ j) k ∙ omega (arith, one, low) in
    ap (λ (x : ℕ). x == 1) both ∙ sym (ap (λ (b : Bool). if b then true else has_bit n k) h.0))
    (λ (h : (k == j ≡ false) × (k ≢ j)).
    let none : bit_at (2 ^ j) k ≡ 0 = bit_at-pow_other j k h.1 in
    let same : bit_at (bit_or n (2 ^ j)) k ≡ bit_at n k = bit_at_or n (2 ^ j) k ∙ omega (arith, none) in
    ap (λ (x : ℕ). x == 1) same ∙ sym (ap (λ (b : Bool). if b then true else has_bit n k) h.0))
    (eqb_tells k j)

-- it counts one more, where the bit was not set
pub ones-more : (j n : ℕ) → bit_at n j ≡ 0 → count_ones (bit_or n (2 ^ j)) ≡ count_ones n + 1
ones-more zero n none =
    let low : n % 2 ≡ 0 = sym (bit_at_lowest n) ∙ none in
    let bit : bit_or n 1 % 2 ≡ 1 = sym (bit_at_lowest (bit_or n 1)) ∙ bit_at_or n 1 0 ∙ omega (arith, none, bit_at-pow_same 0) in
    let half : bit_or n 1 / 2 ≡ n / 2 = or_shr n 1 1 ∙ or_zero_r (n / 2) in
    let a : count_ones (bit_or n 1) ≡ bit_or n 1 % 2 + count_ones (bit_or n 1 / 2) = ones_step (bit_or n 1) in
    let b : count_ones n ≡ n % 2 + count_ones (n / 2) = ones_step n in
    let c : count_ones (bit_or n 1 / 2) ≡ count_ones (n / 2) = ap count_ones half in
    omega (arith, low, bit, a, b, c)
ones-more (suc j) n none =
    let m : ℕ = 2 ^ suc j in
    let even : m % 2 ≡ 0 = omega (arith, pow-suc 2 j) in
    let halved : m / 2 ≡ 2 ^ j = omega (arith, pow-suc 2 j) in
    let low : bit_or n m % 2 ≡ n % 2 = sym (bit_at_lowest (bit_or n m)) ∙ bit_at_or n m 0 ∙ omega (arith, bit_at_lowest n, bit_at_lowest m, even) in
    let half : bit_or n m / 2 ≡ bit_or (n / 2) (2 ^ j) = or_shr n m 1 ∙ ap (bit_or (n / 2)) halved in
    let a : count_ones (bit_or n m) ≡ bit_or n m % 2 + count_ones (bit_or n m / 2) = ones_step (bit_or n m) in
    let b : count_ones n ≡ n % 2 + count_ones (n / 2) = ones_step n in
    let c : count_ones (bit_or n m / 2) ≡ count_ones (n / 2) + 1 = ap count_ones half ∙ ones-more j (n / 2) (sym (bit_at-suc n j) ∙ none) in
    omega (arith, low, a, b, c)

-- ---- numbers that pass a test, with one more behind them

pub none-pass : (test : ℕ → Bool) (first n : ℕ) → ((k : ℕ) → first ≤ k → test k ≡ false) → filter test (numbers_from first n) ≡ []
unfolding numbers_from
none-pass test first zero none = refl
none-pass test first (suc n) none =
    ap (λ (b : Bool). if b then first ∷ filter test (numbers_from (first + 1) n) else filter test (numbers_from (first + 1) n)) (none first (omega arith))
    ∙ none-pass test (first + 1) n (λ k low. none k (omega (arith, low)))

pub one-passes : (test more : ℕ → Bool) (p first n : ℕ) → ((k : ℕ) → more k ≡ (if k == p then true else test k)) → ((k : ℕ) → p ≤ k → test k ≡ false) → first ≤ p → p < first + n → filter more (numbers_from first n) ≡ filter test (numbers_from first n) ++ p ∷ []
unfolding numbers_from
one-passes test more p first zero same none low high = absurd (omega (arith, low, high))
one-passes test more p first (suc n) same none low high = ⊎_elim
    (λ (h : (first == p ≡ true) × (first ≡ p)).
    let here : more first ≡ true = same first ∙ ap (λ (b : Bool). if b then true else test first) h.0 in
    let rest : filter more (numbers_from (first + 1) n) ≡ [] = none-pass more (first + 1) n (λ k past. same k ∙ ap (λ (b : Bool). if b then true else test k) (apart k (omega (arith, past, h.1))) ∙ none k (omega (arith, past, h.1))) in
    ap (λ (b : Bool). if b then first ∷ filter more (numbers_from (first + 1) n) else filter more (numbers_from (first + 1) n)) here
    ∙ ap (λ (xs : List ℕ). first ∷ xs) rest
    ∙ ap (λ (k : ℕ). k ∷ []) h.1
    ∙ sym (ap (λ (xs : List ℕ). xs ++ p ∷ []) (none-pass test first (suc n) (λ k past. none k (omega (arith, past, h.1))))))
    (λ (h : (first == p ≡ false) × (first ≢ p)).
    let here : more first ≡ test first = same first ∙ ap (λ (b : Bool). if b then true else test first) h.0 in
    let rest = one-passes test more p (first + 1) n same none (omega (arith, low, h.1)) (omega (arith, high)) in
    ap (λ (b : Bool). if b then first ∷ filter more (numbers_from (first + 1) n) else filter more (numbers_from (first + 1) n)) here
    ∙ ap (λ (xs : List ℕ). if test first then first ∷ xs else xs) rest
    ∙ front (test first) (filter test (numbers_from (first + 1) n)) first)
    (eqb_tells first p)
  where
    apart : (k : ℕ) → k ≢ p → (k == p) ≡ false
    apart k ne = ⊎_elim (λ (e : (k == p ≡ true) × (k ≡ p)). absurd (ne e.1)) (λ (e : (k == p ≡ false) × (k ≢ p)). e.0) (eqb_tells k p)

    front : (b : Bool) (xs : List ℕ) (x : ℕ) → (if b then x ∷ (xs ++ p ∷ []) else (xs ++ p ∷ [])) ≡ (if b then x ∷ xs else xs) ++ p ∷ []
    front true xs x = refl
    front false xs x = refl

-- ---- a set with a page more

-- which bits are set then
bit-put : (bits : List ℕ) (p k : ℕ) → p / 8 < length bits → is_bit_set (set bits (p / 8) (bit_or (get_or bits (p / 8) 0) (2 ^ (p % 8)))) k ≡ (if k == p then true else is_bit_set bits k)
bit-put bits p k within = ⊎_elim
    (λ (same : k / 8 ≡ p / 8).
    let here : slice_index (set bits (p / 8) (bit_or (get_or bits (p / 8) 0) (2 ^ (p % 8)))) (k / 8) ≡ bit_or (get_or bits (p / 8) 0) (2 ^ (p % 8)) = ap (λ (i : ℕ). get_or (set bits (p / 8) (bit_or (get_or bits (p / 8) 0) (2 ^ (p % 8)))) i 0) same ∙ get_or-set_same bits (p / 8) (bit_or (get_or bits (p / 8) 0) (2 ^ (p % 8))) 0 within in
    ap (λ (n : ℕ). has_bit n (k % 8)) here
    ∙ bit-more (get_or bits (p / 8) 0) (p % 8) (k % 8)
    ∙ ap (λ (n : ℕ). if k % 8 == p % 8 then true else has_bit n (k % 8)) (ap (λ (i : ℕ). get_or bits i 0) (sym same))
    ∙ ap (λ (b : Bool). if b then true else is_bit_set bits k) (same-test k p same))
    (λ (ne : k / 8 ≢ p / 8).
    ap (λ (n : ℕ). has_bit n (k % 8)) (get_or-set_other bits (p / 8) (k / 8) (bit_or (get_or bits (p / 8) 0) (2 ^ (p % 8))) 0 ne)
    ∙ sym (ap (λ (b : Bool). if b then true else is_bit_set bits k) (not-test k p (λ (e : k ≡ p). ne (ap (λ (n : ℕ). n / 8) e)))))
    (cases_eq (k / 8) (p / 8))
  where
    not-test : (a b : ℕ) → a ≢ b → (a == b) ≡ false
    not-test a b ne = ⊎_elim (λ (e : (a == b ≡ true) × (a ≡ b)). absurd (ne e.1)) (λ (e : (a == b ≡ false) × (a ≢ b)). e.0) (eqb_tells a b)

    same-test : (a b : ℕ) → a / 8 ≡ b / 8 → (a % 8 == b % 8) ≡ (a == b)
    same-test a b e = ⊎_elim
        (λ (h : (a == b ≡ true) × (a ≡ b)). ⊎_elim
        (λ (m : (a % 8 == b % 8 ≡ true) × (a % 8 ≡ b % 8)). m.0 ∙ sym h.0)
        (λ (m : (a % 8 == b % 8 ≡ false) × (a % 8 ≢ b % 8)). absurd (m.1 (ap (λ (n : ℕ). n % 8) h.1)))
        (eqb_tells (a % 8) (b % 8)))
        (λ (h : (a == b ≡ false) × (a ≢ b)). ⊎_elim
        (λ (m : (a % 8 == b % 8 ≡ true) × (a % 8 ≡ b % 8)). absurd (h.1 (omega (arith, e, m.1))))
        (λ (m : (a % 8 == b % 8 ≡ false) × (a % 8 ≢ b % 8)). m.0 ∙ sym h.0)
        (eqb_tells (a % 8) (b % 8)))
        (eqb_tells a b)

other-test : (k p : ℕ) → k ≢ p → (k == p) ≡ false
other-test k p ne = ⊎_elim (λ (e : (k == p ≡ true) × (k ≡ p)). absurd (ne e.1)) (λ (e : (k == p ≡ false) × (k ≢ p)). e.0) (eqb_tells k p)

bit-none : (n : ℕ) → (n == 1) ≡ false → n < 2 → n ≡ 0
bit-none zero e h = refl
bit-none (suc zero) e h = absurd cc
bit-none (suc (suc n)) e h = absurd (omega (arith, h))

pub page-put : (s : PageSet) (pages : List ℕ) (p next : ℕ) → p < 256 → HasPages s pages next → next ≤ p → HasPages (record { bits = set s.bits (p / 8) (bit_or (get_or s.bits (p / 8) 0) (1 * 2 ^ (p % 8) % 256)) }) (pages ++ p ∷ []) (p + 1)
page-put s pages p next low h behind = subst (λ (m : ℕ). HasPages (record { bits = set s.bits (p / 8) (bit_or (get_or s.bits (p / 8) 0) m) }) (pages ++ p ∷ []) (p + 1)) (sym (small-power (p % 8) (omega arith))) put where
  within : p / 8 < length s.bits
  within = omega (arith, low, h.size)

  put : HasPages (record { bits = set s.bits (p / 8) (bit_or (get_or s.bits (p / 8) 0) (2 ^ (p % 8))) }) (pages ++ p ∷ []) (p + 1)
  put =
      let unset : bit_at (get_or s.bits (p / 8) 0) (p % 8) ≡ 0 = bit-none (bit_at (get_or s.bits (p / 8) 0) (p % 8)) (h.behind p behind) (bit_at-lt (get_or s.bits (p / 8) 0) (p % 8)) in
      let old : ℕ = get_or s.bits (p / 8) 0 in
      let more : List ℕ = set s.bits (p / 8) (bit_or old (2 ^ (p % 8))) in
      let long : length more ≡ length s.bits = length-set s.bits (p / 8) (bit_or old (2 ^ (p % 8))) in
      let all : 8 * length more ≡ 256 = omega (arith, long, h.size) in
      let was : 8 * length s.bits ≡ 256 = omega (arith, h.size) in
      let counts : sum_by count_ones more + count_ones old ≡ sum_by count_ones s.bits + count_ones (bit_or old (2 ^ (p % 8))) = sum_by-set count_ones s.bits (p / 8) (bit_or old (2 ^ (p % 8))) 0 within in
      let one : count_ones (bit_or old (2 ^ (p % 8))) ≡ count_ones old + 1 = ones-more (p % 8) old unset in
      record {
        size = long ∙ h.size;
        pages_are =
            ap (λ (n : ℕ). filter (is_bit_set more) (numbers_below n)) all
            ∙ one-passes (is_bit_set s.bits) (is_bit_set more) p 0 256 (λ k. bit-put s.bits p k within) (λ k past. h.behind k (omega (arith, past, behind))) (omega arith) (omega (arith, low))
            ∙ ap (λ (xs : List ℕ). xs ++ p ∷ []) (ap (λ (n : ℕ). filter (is_bit_set s.bits) (numbers_below n)) (sym was) ∙ h.pages_are);
        count = omega (arith, counts, one, h.count, length-append pages (p ∷ []));
        behind = λ k past. bit-put s.bits p k within ∙ ap (λ (b : Bool). if b then true else is_bit_set s.bits k) (other-test k p (omega (arith, past))) ∙ h.behind k (omega (arith, past, behind));
      }
