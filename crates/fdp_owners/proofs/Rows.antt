-- How many numbers in a row pass a test.
use Rattle.std.proofs.Common.{◌≡◌, ℕ, zero, suc, ◌+◌, ◌-◌, ◌<◌, ◌≤◌, Bool, true, false, refl, ap, sym, ◌∙◌, arith, cond, eq-eqb, ne_eqb, ⊎_elim}
use Rattle.std.specs.Prelude.{◌==◌, if◌then◌else◌}
use Rattle.std.proofs.lemmas.Bool.{cases_lt}
use Rattle.fdp_base.proofs.Sums.{count_from, count_from-none, count_from-one, count_from-step}

-- a truth value as a number
abbrev pub as_number : Bool → ℕ
as_number b = cond b 1 0

small : (b : Bool) → as_number b ≤ 1
small true = omega arith
small false = omega arith

-- no number from one on passes: no more pass than lie below it
pub count-most : (test : ℕ → Bool) (first count next : ℕ) → ((i : ℕ) → next ≤ i → test i ≡ false) → count_from test first count ≤ next - first
count-most test first zero next none = omega (arith, count_from-none test first)
count-most test first (suc count) next none =
    let rest : count_from test (first + 1) count ≤ next - (first + 1) = count-most test (first + 1) count next none in
    ⊎_elim
    (λ (below : first < next). omega (arith, below, rest, small (test first), count_from-step test first count))
    (λ (past : next ≤ first).
    let here : as_number (test first) ≡ 0 = ap as_number (none first past) in
    omega (arith, here, rest, past, count_from-step test first count))
    (cases_lt first next)

-- of those below it one more does not pass
pub count-fewer : (test : ℕ → Bool) (count next place : ℕ) → next ≤ count → ((i : ℕ) → next ≤ i → test i ≡ false) → place < next → test place ≡ false → count_from test 0 count < next
count-fewer test count next place low none below not =
    let more : ℕ → Bool = λ i. if i == place then true else test i in
    let own : as_number (more place) ≡ 1 = ap (λ (b : Bool). as_number (if b then true else test place)) (eq-eqb place place refl) in
    let fails : as_number (test place) ≡ 0 = ap as_number not in
    let one = count_from-one test more 0 count place (omega arith) (omega (arith, below, low)) (λ i ne. sym (ap (λ (b : Bool). if b then true else test i) (ne_eqb i place ne))) in
    let most : count_from more 0 count ≤ next - 0 = count-most more 0 count next (λ i past. ap (λ (b : Bool). if b then true else test i) (ne_eqb i place (λ e. omega (arith, e, past, below))) ∙ none i past) in
    omega (arith, own, fails, one, most)

-- one passes at least
pub count-some : (test : ℕ → Bool) (first count place : ℕ) → first ≤ place → place < first + count → test place ≡ true → 1 ≤ count_from test first count
count-some test first count place low high passes =
    let without : ℕ → Bool = λ i. if i == place then false else test i in
    let own : as_number (without place) ≡ 0 = ap (λ (b : Bool). as_number (if b then false else test place)) (eq-eqb place place refl) in
    let is : as_number (test place) ≡ 1 = ap as_number passes in
    let one = count_from-one test without first count place low high (λ i ne. sym (ap (λ (b : Bool). if b then false else test i) (ne_eqb i place ne))) in
    omega (arith, own, is, one)
