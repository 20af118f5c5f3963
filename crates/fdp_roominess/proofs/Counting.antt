-- How many units of a group pass a test, before a step and after it.
use Rattle.std.proofs.Common.{◌≡◌, ◌≢◌, ℕ, zero, suc, ◌+◌, ◌*◌, ◌%◌, ◌<◌, ◌≤◌, Bool, true, false, cond, refl, sym, ◌∙◌, ap, arith, mod-lt, ⊎_elim}
use Rattle.std.specs.Prelude.{IsTrue}
use Rattle.std.proofs.lemmas.Bool.{cases_eq}
use Rattle.fdp_base.proofs.Sums.{count_from, count_from-none, count_from-step, counting, counting-bound}
use Rattle.fdp_units.specs.declared.data_unit.DataUnit.{DataUnit}
use Rattle.fdp_units.specs.UnitTable.{Cut, IsGroup, IsUnit, UnitTable, cut_of, group_in, unit_at}
use Rattle.fdp_units.proofs.Tables.{group-of-place, number-of, some-units, unit-there}
use Rattle.fdp_roominess.specs.Units.{units_where}

pub no : true ≡ false → ⊥
no e = cc

at-most : (a b : Bool) → (a ≡ true → b ≡ true) → cond {A = ℕ} a 1 0 ≤ cond b 1 0
at-most false b h = omega arith
at-most true true h = omega arith
at-most true false h = absurd (no (sym (h refl)))

-- each number in a row that passes one test passes another
abbrev pub Pass : (ℕ → Bool) → (ℕ → Bool) → ℕ → ℕ → Type 0
Pass f g first count = (i : ℕ) → first ≤ i → i < first + count → f i ≡ true → g i ≡ true

-- each but one
abbrev PassBut : (ℕ → Bool) → (ℕ → Bool) → ℕ → ℕ → ℕ → Type 0
PassBut f g first count place = (i : ℕ) → first ≤ i → i < first + count → i ≢ place → f i ≡ true → g i ≡ true

pub row-more : (f g : ℕ → Bool) (first count : ℕ) → Pass f g first count → count_from f first count ≤ count_from g first count
row-more f g first zero h = omega (arith, count_from-none f first, count_from-none g first)
row-more f g first (suc count) h =
    let rest : count_from f (first + 1) count ≤ count_from g (first + 1) count = row-more f g (first + 1) count (λ i low high. h i (omega (arith, low)) (omega (arith, high))) in
    let here : counting f first ≤ counting g first = at-most (f first) (g first) (h first (omega arith) (omega arith)) in
    omega (arith, rest, here, count_from-step f first count, count_from-step g first count)

row-but : (f g : ℕ → Bool) (first count place : ℕ) → PassBut f g first count place → count_from f first count ≤ count_from g first count + 1
row-but f g first zero place h = omega (arith, count_from-none f first, count_from-none g first)
row-but f g first (suc count) place h =
    ⊎_elim
    (λ (is : first ≡ place).
    let rest : count_from f (first + 1) count ≤ count_from g (first + 1) count = row-more f g (first + 1) count (λ i low high. h i (omega (arith, low)) (omega (arith, high)) (λ e. omega (arith, e, is, low))) in
    let most : counting f first ≤ 1 = counting-bound f first in
    omega (arith, rest, most, count_from-step f first count, count_from-step g first count))
    (λ (ne : first ≢ place).
    let rest : count_from f (first + 1) count ≤ count_from g (first + 1) count + 1 = row-but f g (first + 1) count place (λ i low high. h i (omega (arith, low)) (omega (arith, high))) in
    let here : counting f first ≤ counting g first = at-most (f first) (g first) (h first (omega arith) (omega arith) ne) in
    omega (arith, rest, here, count_from-step f first count, count_from-step g first count))
    (cases_eq first place)

row-one : (f g : ℕ → Bool) (first count place : ℕ) → first ≤ place → place < first + count → f place ≡ false → g place ≡ true → PassBut f g first count place → count_from f first count + 1 ≤ count_from g first count
row-one f g first zero place low high out in_ h = absurd (omega (arith, low, high))
row-one f g first (suc count) place low high out in_ h =
    ⊎_elim
    (λ (is : first ≡ place).
    let rest : count_from f (first + 1) count ≤ count_from g (first + 1) count = row-more f g (first + 1) count (λ i l u. h i (omega (arith, l)) (omega (arith, u)) (λ e. omega (arith, e, is, l))) in
    let none : counting f first ≡ 0 = ap (λ (b : Bool). cond b 1 0) (ap f is ∙ out) in
    let one : counting g first ≡ 1 = ap (λ (b : Bool). cond b 1 0) (ap g is ∙ in_) in
    omega (arith, rest, none, one, count_from-step f first count, count_from-step g first count))
    (λ (ne : first ≢ place).
    let rest : count_from f (first + 1) count + 1 ≤ count_from g (first + 1) count = row-one f g (first + 1) count place (omega (arith, low, ne)) (omega (arith, high)) out in_ (λ i l u. h i (omega (arith, l)) (omega (arith, u))) in
    let here : counting f first ≤ counting g first = at-most (f first) (g first) (h first (omega arith) (omega arith) ne) in
    omega (arith, rest, here, count_from-step f first count, count_from-step g first count))
    (cases_eq first place)

row-none : (f : ℕ → Bool) (first count : ℕ) → ((i : ℕ) → first ≤ i → i < first + count → f i ≡ true → ⊥) → count_from f first count ≡ 0
row-none f first count h =
    let fewer : count_from f first count ≤ count_from (λ i. false) first count = row-more f (λ i. false) first count (λ i low high is. absurd (h i low high is)) in
    let none : count_from (λ i. false) first count ≡ 0 = zeros first count in
    omega (arith, fewer, none) where
      zeros : (first count : ℕ) → count_from (λ i. false) first count ≡ 0
      zeros first zero = count_from-none (λ i. false) first
      zeros first (suc count) = let rest = zeros (first + 1) count in omega (arith, rest, count_from-step (λ i. false) first count)

-- ---- units of a group

module _ (t now : UnitTable) (rg : ℕ) (p q : DataUnit → Bool) (cut : cut_of now ≡ cut_of t) (there : IsGroup t rg) where
  abbrev old : ℕ → Bool
  old i = p (unit_at t (rg * t.group_units + i))

  abbrev new : ℕ → Bool
  new i = q (unit_at now (rg * t.group_units + i))

  count-cut : units_where now rg q ≡ count_from new 0 t.group_units
  count-cut = ap (λ (k : Cut). count_from (λ i. q (unit_at now (rg * k.group_units + i))) 0 k.group_units) cut

  -- each unit that passed a test passes another one now
  pub units-more : ((unit : ℕ) → IsUnit t unit → group_in t unit ≡ rg → IsTrue (p (unit_at t unit)) → IsTrue (q (unit_at now unit))) → units_where t rg p ≤ units_where now rg q
  units-more h =
      let more = row-more old new 0 t.group_units (λ i low high. h (rg * t.group_units + i) (unit-there t rg i there (omega (arith, high))) (group-of-place t rg i (omega (arith, high)))) in
      omega (arith, more, count-cut)

  module _ (unit : ℕ) (is_unit : IsUnit t unit) (group : group_in t unit ≡ rg) (h : (other : ℕ) → IsUnit t other → group_in t other ≡ rg → other ≢ unit → IsTrue (p (unit_at t other)) → IsTrue (q (unit_at now other))) where
    abbrev place : ℕ
    place = unit % t.group_units

    apart : (i : ℕ) → i ≢ place → rg * t.group_units + i ≢ unit
    apart i ne same = ne (omega (arith, same ∙ number-of t rg unit group))

    others : (i : ℕ) → 0 ≤ i → i < 0 + t.group_units → i ≢ place → old i ≡ true → new i ≡ true
    others i low high ne = h (rg * t.group_units + i) (unit-there t rg i there (omega (arith, high))) (group-of-place t rg i (omega (arith, high))) (apart i ne)

    -- each but one
    pub units-but : units_where t rg p ≤ units_where now rg q + 1
    units-but = let more = row-but old new 0 t.group_units place others in omega (arith, more, count-cut)

    -- and one that did not pass does
    pub units-one : p (unit_at t unit) ≡ false → q (unit_at now unit) ≡ true → units_where t rg p + 1 ≤ units_where now rg q
    units-one out passes =
        let number = number-of t rg unit group in
        let low = mod-lt unit (some-units t unit is_unit) in
        let more = row-one old new 0 t.group_units place (omega arith) (omega (arith, low)) (ap (λ (u : ℕ). p (unit_at t u)) (sym number) ∙ out) (ap (λ (u : ℕ). q (unit_at now u)) (sym number) ∙ passes) others in
        omega (arith, more, count-cut)

-- a group none of whose units passes a test
pub units-none : (t : UnitTable) (rg : ℕ) (p : DataUnit → Bool) → IsGroup t rg → ((unit : ℕ) → IsUnit t unit → group_in t unit ≡ rg → IsTrue (p (unit_at t unit)) → ⊥) → units_where t rg p ≡ 0
units-none t rg p there h = row-none (λ i. p (unit_at t (rg * t.group_units + i))) 0 t.group_units (λ i low high. h (rg * t.group_units + i) (unit-there t rg i there (omega (arith, high))) (group-of-place t rg i (omega (arith, high))))
