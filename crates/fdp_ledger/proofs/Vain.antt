-- How many units were taken in vain.
use Rattle.std.proofs.Common.{◌≡◌, ◌≢◌, ℕ, zero, suc, ◌+◌, ◌-◌, ◌*◌, ◌<◌, ◌≤◌, Bool, true, false, cond, not, ◌&&◌, List, ◌++◌, refl, sym, ◌∙◌, ap, arith, ⊎_elim, length, eq-eqb, ne_eqb}
use Rattle.std.specs.Prelude.{◌==◌, if◌then◌else◌}
use Rattle.std.proofs.lemmas.Bool.{cases_eq}
use Rattle.std.proofs.lemmas.Nat.{row_fits}
use Rattle.fdp_base.specs.declared.entry.Entry.{Entry}
use Rattle.fdp_base.proofs.Sums.{count_from, count_from-one, count_from-same, counting, counting-bound, sum_from, sum_from-cut, sum_from-none, sum_from-step}
use Rattle.fdp_ledger.specs.Ledger.{is_vain}
use Rattle.fdp_ledger.specs.Uses.{RunStart, used_by}
use Rattle.fdp_ledger.proofs.Entries.{SaysNothing}
use Rattle.fdp_ledger.proofs.Units.{FillsUnit, FreesUnit, KeepsUnits}
use Rattle.fdp_book.proofs.fdp_pages.Counts.{fewer-counted}
use Rattle.fdp_book.proofs.fdp_trails.Hits.{sum_from-most}
use Rattle.fdp_units.specs.declared.state.UnitState.{UnitState}
use Rattle.fdp_units.specs.DataUnits.{is_free}
use Rattle.fdp_units.specs.UnitTable.{Cut, IsGroup, UnitTable, cut_of, state_at}

-- ---- counts

-- where all numbers but one pass a test only if they pass another, at most one more is counted
pub one-more : (f g : ℕ → Bool) (number place : ℕ) → place < number → ((i : ℕ) → i ≢ place → f i ≡ true → g i ≡ true) → count_from f 0 number ≤ count_from g 0 number + 1
one-more f g number place low h =
    let k : ℕ → Bool = λ i. if i == place then true else g i in
    let fewer : count_from f 0 number ≤ count_from k 0 number = fewer-counted f k 0 number (λ i is. ⊎_elim
    (λ (same : i ≡ place). ap (λ (b : Bool). if b then true else g i) (eq-eqb i place same))
    (λ (ne : i ≢ place). ap (λ (b : Bool). if b then true else g i) (ne_eqb i place ne) ∙ h i ne is)
    (cases_eq i place)) in
    let one : count_from k 0 number + counting g place ≡ count_from g 0 number + counting k place = count_from-one k g 0 number place (omega arith) (omega (arith, low)) (λ i ne. ap (λ (b : Bool). if b then true else g i) (ne_eqb i place ne)) in
    let most = counting-bound k place in
    omega (arith, fewer, one, most)

-- where one number passes a test no more, and all others as before, as many fewer are counted
pub one-less : (f g : ℕ → Bool) (number place : ℕ) → place < number → ((i : ℕ) → i ≢ place → f i ≡ g i) → f place ≡ false → count_from f 0 number + counting g place ≡ count_from g 0 number
one-less f g number place low h gone =
    let one = count_from-one f g 0 number place (omega arith) (omega (arith, low)) h in
    let none : counting f place ≡ 0 = ap (λ (b : Bool). cond b 1 0) gone in
    omega (arith, one, none)

-- ---- units

-- the units of all groups
abbrev pub units_of : UnitTable → ℕ
units_of t = length t.groups * t.group_units

pub units-same : (t now : UnitTable) → cut_of now ≡ cut_of t → units_of now ≡ units_of t
units-same t now cut = ap (λ (k : Cut). k.groups * k.group_units) cut

-- a test of a unit: whether it was taken in vain
abbrev vain : Bool → Bool → Bool
vain free used = not free && not used

pub kept-vain : (start : RunStart) (t now : UnitTable) (es xs : List Entry) → KeepsUnits t now → SaysNothing start es xs → (unit : ℕ) → is_vain start now (es ++ xs) unit ≡ is_vain start t es unit
kept-vain start t now es xs keeps says unit = ap (λ (b : Bool). vain b (used_by start (es ++ xs) unit)) (keeps.free unit) ∙ ap (vain (is_free (state_at t unit))) (says.used unit)

-- a unit that got a page was not taken in vain
pub used-vain : (start : RunStart) (t : UnitTable) (es : List Entry) (unit : ℕ) → used_by start es unit ≡ true → is_vain start t es unit ≡ false
used-vain start t es unit used = ap (vain (is_free (state_at t unit))) used ∙ none (is_free (state_at t unit)) where
  none : (b : Bool) → vain b true ≡ false
  none true = refl
  none false = refl

pub other-vain : (start : RunStart) (t now : UnitTable) (es xs : List Entry) (other : ℕ) → state_at now other ≡ state_at t other → used_by start (es ++ xs) other ≡ used_by start es other → is_vain start now (es ++ xs) other ≡ is_vain start t es other
other-vain start t now es xs other state used = ap (λ (s : UnitState). vain (is_free s) (used_by start (es ++ xs) other)) state ∙ ap (vain (is_free (state_at t other))) used

-- what is counted where the units stay so
pub kept-count : (start : RunStart) (t now : UnitTable) (es xs : List Entry) → KeepsUnits t now → SaysNothing start es xs → count_from (is_vain start now (es ++ xs)) 0 (units_of now) ≡ count_from (is_vain start t es) 0 (units_of t)
kept-count start t now es xs keeps says =
    ap (count_from (is_vain start now (es ++ xs)) 0) (units-same t now keeps.cut)
    ∙ count_from-same (is_vain start now (es ++ xs)) (is_vain start t es) 0 (units_of t) (λ i low high. kept-vain start t now es xs keeps says i)

-- where a unit got a page
pub filled-count : (start : RunStart) (t now : UnitTable) (es xs : List Entry) (unit : ℕ) → FillsUnit t now unit → used_by start (es ++ xs) unit ≡ true → ((other : ℕ) → other ≢ unit → used_by start (es ++ xs) other ≡ used_by start es other) → count_from (is_vain start now (es ++ xs)) 0 (units_of now) ≤ count_from (is_vain start t es) 0 (units_of t)
filled-count start t now es xs unit fills here others =
    let size = ap (count_from (is_vain start now (es ++ xs)) 0) (units-same t now fills.cut) in
    let fewer = fewer-counted (is_vain start now (es ++ xs)) (is_vain start t es) 0 (units_of t) (λ i is. ⊎_elim
    (λ (same : i ≡ unit). absurd (no (sym is ∙ ap (is_vain start now (es ++ xs)) same ∙ used-vain start now (es ++ xs) unit here)))
    (λ (ne : i ≢ unit). sym (other-vain start t now es xs i (fills.others i ne) (others i ne)) ∙ is)
    (cases_eq i unit)) in
    omega (arith, size, fewer) where
      no : true ≡ false → ⊥
      no e = cc

-- where a page of a unit was used for nothing
pub spoilt-count : (start : RunStart) (t now : UnitTable) (es xs : List Entry) (unit : ℕ) → FillsUnit t now unit → SaysNothing start es xs → count_from (is_vain start now (es ++ xs)) 0 (units_of now) ≤ count_from (is_vain start t es) 0 (units_of t) + 1
spoilt-count start t now es xs unit fills says =
    let size = ap (count_from (is_vain start now (es ++ xs)) 0) (units-same t now fills.cut) in
    let more = one-more (is_vain start now (es ++ xs)) (is_vain start t es) (units_of t) unit fills.is_unit (λ i ne is. sym (other-vain start t now es xs i (fills.others i ne) (says.used i)) ∙ is) in
    omega (arith, size, more)

-- where a unit was erased: it was counted before, or its erase is not idle
pub erased-count : (start : RunStart) (t now : UnitTable) (es xs : List Entry) (unit : ℕ) → FreesUnit t now unit → ((other : ℕ) → other ≢ unit → used_by start (es ++ xs) other ≡ used_by start es other) → count_from (is_vain start now (es ++ xs)) 0 (units_of now) + (if used_by start es unit then 0 else 1) ≡ count_from (is_vain start t es) 0 (units_of t)
erased-count start t now es xs unit frees others =
    let size = ap (count_from (is_vain start now (es ++ xs)) 0) (units-same t now frees.cut) in
    let gone : is_vain start now (es ++ xs) unit ≡ false = ap (λ (s : UnitState). vain (is_free s) (used_by start (es ++ xs) unit)) frees.freed in
    let less = one-less (is_vain start now (es ++ xs)) (is_vain start t es) (units_of t) unit frees.is_unit (λ i ne. other-vain start t now es xs i (frees.others i ne) (others i ne)) gone in
    let was : counting (is_vain start t es) unit ≡ (if used_by start es unit then 0 else 1) = ap (λ (s : UnitState). cond (vain (is_free s) (used_by start es unit)) 1 0) frees.closed ∙ turned (used_by start es unit) in
    omega (arith, size, less, was) where
      turned : (b : Bool) → ◌≡◌ {A = ℕ} (cond (not b) 1 0) (if b then 0 else 1)
      turned true = refl
      turned false = refl

-- ---- counts of a group, and of all units

-- the numbers of a row, as places from its beginning on
shifted : (f : ℕ → ℕ) (base first count : ℕ) → sum_from (λ i. f (base + i)) first count ≡ sum_from f (base + first) count
shifted f base first zero = sum_from-none (λ i. f (base + i)) first ∙ sym (sum_from-none f (base + first))
shifted f base first (suc count) =
    let at : base + (first + 1) ≡ base + first + 1 = omega arith in
    omega (arith, sum_from-step (λ i. f (base + i)) first count, shifted f base (first + 1) count, ap (λ (k : ℕ). sum_from f k count) at, sum_from-step f (base + first) count)

-- a row within all is no more than all
row-most : (f : ℕ → ℕ) (first count all : ℕ) → first + count ≤ all → sum_from f first count ≤ sum_from f 0 all
row-most f first count all within =
    let before : sum_from f 0 (first + (all - first)) ≡ sum_from f 0 first + sum_from f (0 + first) (all - first) = sum_from-cut f 0 first (all - first) in
    let behind : sum_from f first (count + (all - first - count)) ≡ sum_from f first count + sum_from f (first + count) (all - first - count) = sum_from-cut f first count (all - first - count) in
    let whole : sum_from f 0 (first + (all - first)) ≡ sum_from f 0 all = ap (sum_from f 0) (omega (arith, within)) in
    let rest : sum_from f first (count + (all - first - count)) ≡ sum_from f first (all - first) = ap (sum_from f first) (omega (arith, within)) in
    let zero : sum_from f (0 + first) (all - first) ≡ sum_from f first (all - first) = ap (λ (k : ℕ). sum_from f k (all - first)) (omega arith) in
    omega (arith, before, behind, whole, rest, zero)

at-most : (a b : Bool) → (a ≡ true → b ≡ true) → cond {A = ℕ} a 1 0 ≤ cond {A = ℕ} b 1 0
at-most false b h = omega arith
at-most true true h = omega arith
at-most true false h = let e : false ≡ true = h refl in absurd cc

-- of a group, those that pass a test that only units pass which were taken in vain
pub row-vain : (start : RunStart) (t : UnitTable) (es : List Entry) (rg : ℕ) (test : ℕ → Bool) → IsGroup t rg → ((i : ℕ) → i < t.group_units → test (rg * t.group_units + i) ≡ true → is_vain start t es (rg * t.group_units + i) ≡ true) → count_from (λ i. test (rg * t.group_units + i)) 0 t.group_units ≤ count_from (is_vain start t es) 0 (units_of t)
row-vain start t es rg test there vain =
    let most : count_from (λ i. test (rg * t.group_units + i)) 0 t.group_units ≤ sum_from (λ i. counting (is_vain start t es) (rg * t.group_units + i)) 0 t.group_units =
    sum_from-most (counting (λ i. test (rg * t.group_units + i))) (λ i. counting (is_vain start t es) (rg * t.group_units + i)) 0 t.group_units
    (λ i first high. at-most (test (rg * t.group_units + i)) (is_vain start t es (rg * t.group_units + i)) (vain i (omega (arith, high)))) in
    let row = shifted (counting (is_vain start t es)) (rg * t.group_units) 0 t.group_units in
    let fits : rg * t.group_units + t.group_units ≤ length t.groups * t.group_units = row_fits rg t.group_units (length t.groups) t.group_units there (omega arith) in
    let all = row-most (counting (is_vain start t es)) (rg * t.group_units + 0) t.group_units (length t.groups * t.group_units) (omega (arith, fits)) in
    omega (arith, most, row, all)

-- a unit that is not free and got no page was taken in vain
pub unfree-vain : (start : RunStart) (t : UnitTable) (es : List Entry) (unit : ℕ) → is_free (state_at t unit) ≡ false → used_by start es unit ≡ false → is_vain start t es unit ≡ true
unfree-vain start t es unit taken unused = ap (λ (b : Bool). vain b (used_by start es unit)) taken ∙ ap (vain false) unused
