-- Phase tags.
use Rattle.std.proofs.Common.{◌≡◌, ℕ, ◌+◌, ◌-◌, ◌*◌, ◌/◌, ◌%◌, ◌<◌, ◌≤◌, true, false, ◌==◌, nat_lt, refl, sym, ap, ◌∙◌, arith, inl, inr}
use Rattle.std.proofs.lemmas.Nat.{div-add-mod', div-mul-add, mod_below}
use Rattle.std.proofs.Math.Nat.{mod-add-mod}
use Rattle.std.proofs.lemmas.Bool.{cases_lt}
use Rattle.std.proofs.lemmas.Bool.Decides.{nat_tests}
use Rattle.fdp_queues.specs.Phase.{phase_tag}

even_more : (q n : ℕ) → (2 * q + n) % 2 ≡ n % 2
even_more q n = omega arith

-- two turns of the ring change no tag
tag_is : (depth posts : ℕ) → 0 < depth → phase_tag depth (posts % (2 * depth)) ≡ phase_tag depth posts
tag_is depth posts some =
    let q = posts / (2 * depth) in
    let r = posts % (2 * depth) in
    let whole : q * (2 * depth) + r ≡ posts = div-add-mod' posts (2 * depth) in
    let rest : r / depth * depth + r % depth ≡ r = div-add-mod' r depth in
    let turns : posts ≡ (2 * q + r / depth) * depth + r % depth = omega (arith, whole, rest) in
    let e : posts / depth ≡ 2 * q + r / depth = ap (λ (n : ℕ). n / depth) turns ∙ div-mul-add (2 * q + r / depth) depth (r % depth) (mod_below r depth some) in
    let two : posts / depth % 2 ≡ r / depth % 2 = ap (λ (n : ℕ). n % 2) e ∙ even_more q (r / depth) in
    sym (ap (λ (n : ℕ). n == 0) two)

before : (depth posts : ℕ) → posts < depth → posts / depth ≡ 0
before depth posts lt =
    let e : posts ≡ 0 * depth + posts = omega arith in
    ap (λ (n : ℕ). n / depth) e ∙ div-mul-add 0 depth posts lt

behind : (depth posts : ℕ) → depth ≤ posts → posts < 2 * depth → posts / depth ≡ 1
behind depth posts le lt =
    let e : posts ≡ 1 * depth + (posts - depth) = omega arith in
    ap (λ (n : ℕ). n / depth) e ∙ div-mul-add 1 depth (posts - depth) (omega arith)

-- the first turn has the tag, and the second does not
pub tag_by_turn : (depth posts : ℕ) → 0 < depth → posts < 2 * depth → nat_lt posts depth ≡ phase_tag depth posts
tag_by_turn depth posts some below =
    elim (cases_lt posts depth) [
      | inl first ↦ let e = before depth posts first in let t : nat_lt posts depth ≡ true = grind (arith, nat_tests) in rw (e, t) refl
      | inr second ↦ let e = behind depth posts second below in let t : nat_lt posts depth ≡ false = grind (arith, nat_tests) in rw (e, t) refl
    ]

-- one more of what is counted up to a multiple
pub one_more : (multiple counted count : ℕ) → counted ≡ count % multiple → (counted + 1) % multiple ≡ (count + 1) % multiple
one_more multiple counted count e = ap (λ (n : ℕ). (n + 1) % multiple) e ∙ mod-add-mod count multiple 1

-- the tag of a slot, by all completions that were ever posted
pub tag_by_count : (depth posts count : ℕ) → 0 < depth → posts < 2 * depth → posts ≡ count % (2 * depth) → nat_lt posts depth ≡ phase_tag depth count
tag_by_count depth posts count some below e = tag_by_turn depth posts some below ∙ ap (phase_tag depth) e ∙ tag_is depth count some
