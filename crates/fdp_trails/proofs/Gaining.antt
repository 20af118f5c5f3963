-- The toil of a group, unit by unit.
use Rattle.std.proofs.Common.{◌≡◌, ◌≢◌, ℕ, zero, suc, ◌+◌, ◌-◌, ◌*◌, ◌%◌, ◌<◌, ◌≤◌, Bool, true, false, cond, not, ◌&&◌, ◌||◌, refl, sym, ◌∙◌, ap, subst, arith, mod-lt, ⊎_elim}
use Rattle.std.specs.Prelude.{IsTrue, nat_lt}
use Rattle.std.proofs.lemmas.Bool.{cases_lt, le-ltb, lt-ltb, ne_eqb, eq-eqb}
use Rattle.fdp_base.proofs.Sums.{count_from, count_from-none, count_from-step, counted-bound, counting, sum_from, sum_from-one, sum_from-same, sum_from-zero}
use Rattle.fdp_owners.proofs.Rows.{as_number, count-most}
use Rattle.fdp_owners.specs.OwnerTable.{OwnerTable}
use Rattle.fdp_units.specs.declared.data_unit.DataUnit.{DataUnit}
use Rattle.fdp_units.specs.declared.state.UnitState.{UnitState}
use Rattle.fdp_units.specs.declared.state.UnitState.TheVariants.{Free, Referenced, Target, Closed, Retired, Aside}
use Rattle.fdp_units.specs.DataUnits.{IsSound, gain_in, gain_of, is_closed, is_end_of_erase, is_free, is_lost, is_referenced, is_target, lowered, next_after, raised, turned, used}
use Rattle.fdp_units.specs.UnitTable.{Changes, IsGroup, IsUnit, UnitTable, group_in, state_at, toil_of, unit_at}
use Rattle.fdp_units.proofs.Tables.{group-of-place, number-of, some-units, unit-there}
use Rattle.fdp_trails.specs.Toil.{AreTallied, is_live, is_stale, pages_where}
use Rattle.fdp_trails.proofs.Hits.{sum_from-most}

-- ---- pages of one unit

-- of a page that is used, live and stale: it is not both, and is used if it is one of them
page-counts : (used live referenced lost : Bool) → (live ≡ true → used ≡ true) → cond (used && not live && not referenced && not lost) 1 0 + cond live 1 0 ≤ cond used 1 0
page-counts true true r l h = omega arith
page-counts true false true l h = omega arith
page-counts true false false true h = omega arith
page-counts true false false false h = omega arith
page-counts false true r l h = absurd (let no : false ≡ true = h refl in cc)
page-counts false false r l h = omega arith

page-kept : (used live referenced lost : Bool) → (referenced || lost) ≡ true → as_number (used && not live && not referenced && not lost) ≡ 0
page-kept true true r l e = refl
page-kept true false true l e = refl
page-kept true false false true e = refl
page-kept true false false false e = absurd cc
page-kept false live r l e = refl

module _ (used live : ℕ → Bool) (referenced lost : Bool) where
  abbrev stale : ℕ → Bool
  stale k = used k && not (live k) && not referenced && not lost

  stale-used : (first number : ℕ) → ((k : ℕ) → live k ≡ true → used k ≡ true) → count_from stale first number + count_from live first number ≤ count_from used first number
  stale-used first zero h = omega (arith, count_from-none stale first, count_from-none live first)
  stale-used first (suc number) h =
      omega (
        arith,
        page-counts (used first) (live first) referenced lost (h first),
        stale-used (first + 1) number h,
        count_from-step stale first number,
        count_from-step live first number,
        count_from-step used first number,
      )

  stale-none : (first number : ℕ) → (referenced || lost) ≡ true → count_from stale first number ≡ 0
  stale-none first number e = sum_from-zero (counting stale) first number (λ k low high. page-kept (used k) (live k) referenced lost e)

-- those that do not pass a test are the others
count-others : (test : ℕ → Bool) (first number : ℕ) → count_from (λ k. not (test k)) first number + count_from test first number ≡ number
count-others test first zero = omega (arith, count_from-none (λ k. not (test k)) first, count_from-none test first)
count-others test first (suc number) =
    omega (arith, one (test first), count-others test (first + 1) number, count_from-step (λ k. not (test k)) first number, count_from-step test first number) where
      one : (b : Bool) → cond (not b) 1 0 + cond b 1 0 ≡ 1
      one true = refl
      one false = refl

-- the pages below the next one
used-most : (next number : ℕ) → count_from (λ k. nat_lt k next) 0 number ≤ next
used-most next number = let most : count_from (λ k. nat_lt k next) 0 number ≤ next - 0 = count-most (λ k. nat_lt k next) 0 number next (λ k past. le-ltb k next past) in omega (arith, most)

module _ (pages next live : ℕ) (owned : ℕ → Bool) (below : (k : ℕ) → owned k ≡ true → k < next) (counted : live ≡ count_from owned 0 pages) where
  -- in a state, a unit gains at least its stale pages
  gains-least : (state : UnitState) → (IsTrue (is_free state) → next ≡ 0) → count_from (λ k. nat_lt k next && not (owned k) && not (is_referenced state) && not (is_lost state)) 0 pages ≤ gain_in pages state next live
  gains-least Free unused =
      let next_is : next ≡ 0 = unused refl in
      omega (arith, stale-used (λ k. nat_lt k next) owned (is_referenced Free) (is_lost Free) 0 pages (λ k is. lt-ltb k next (below k is)), used-most next pages, next_is)
  gains-least Referenced unused = omega (arith, stale-none (λ k. nat_lt k next) owned (is_referenced Referenced) (is_lost Referenced) 0 pages refl)
  gains-least Target unused = omega (arith, counted, stale-used (λ k. nat_lt k next) owned (is_referenced Target) (is_lost Target) 0 pages (λ k is. lt-ltb k next (below k is)), used-most next pages)
  gains-least Closed unused = omega (arith, counted, stale-used (λ k. nat_lt k next) owned (is_referenced Closed) (is_lost Closed) 0 pages (λ k is. lt-ltb k next (below k is)), counted-bound (λ k. nat_lt k next) 0 pages)
  gains-least Retired unused = omega (arith, stale-none (λ k. nat_lt k next) owned (is_referenced Retired) (is_lost Retired) 0 pages refl)
  gains-least Aside unused = omega (arith, stale-none (λ k. nat_lt k next) owned (is_referenced Aside) (is_lost Aside) 0 pages refl)

  -- and at most its pages that are not live
  gains-most : (state : UnitState) → next ≤ pages → gain_in pages state next live ≤ count_from (λ k. not (owned k)) 0 pages
  gains-most Free within = omega arith
  gains-most Referenced within = omega arith
  gains-most Target within = omega (arith, counted, within, count-others owned 0 pages)
  gains-most Closed within = omega (arith, counted, count-others owned 0 pages)
  gains-most Retired within = omega arith
  gains-most Aside within = omega arith

-- ---- a group

live-below : (t : UnitTable) (o : OwnerTable) (unit : ℕ) → AreTallied t o → (k : ℕ) → is_live o (record { unit = unit; page = k }) ≡ true → k < (unit_at t unit).next
live-below t o unit h k is = h.used (record { unit = unit; page = k }) is

live-counted : (t : UnitTable) (o : OwnerTable) (unit : ℕ) → AreTallied t o → IsUnit t unit → (unit_at t unit).live ≡ count_from (λ k. is_live o (record { unit = unit; page = k })) 0 t.unit_pages
live-counted t o unit h there = h.counted unit there ∙ ap (λ (n : ℕ). count_from (λ k. is_live o (record { unit = unit; page = k })) 0 n) h.pages

pub toil-least : (t : UnitTable) (o : OwnerTable) (rg : ℕ) → IsGroup t rg → AreTallied t o → pages_where t rg (is_stale t o) ≤ toil_of t rg
toil-least t o rg group h =
    sum_from-most (λ i. count_from (λ k. is_stale t o (record { unit = rg * t.group_units + i; page = k })) 0 t.unit_pages) (λ i. gain_of t.unit_pages (unit_at t (rg * t.group_units + i))) 0 t.group_units
    (λ i low high.
    let there : IsUnit t (rg * t.group_units + i) = unit-there t rg i group (omega (arith, high)) in
    gains-least t.unit_pages (unit_at t (rg * t.group_units + i)).next (unit_at t (rg * t.group_units + i)).live (λ k. is_live o (record { unit = rg * t.group_units + i; page = k })) (live-below t o (rg * t.group_units + i) h) (live-counted t o (rg * t.group_units + i) h there) (state_at t (rg * t.group_units + i)) (h.sound (rg * t.group_units + i) there).free)

pub toil-most : (t : UnitTable) (o : OwnerTable) (rg : ℕ) → IsGroup t rg → AreTallied t o → toil_of t rg ≤ pages_where t rg (λ spot. not (is_live o spot))
toil-most t o rg group h =
    sum_from-most (λ i. gain_of t.unit_pages (unit_at t (rg * t.group_units + i))) (λ i. count_from (λ k. not (is_live o (record { unit = rg * t.group_units + i; page = k }))) 0 t.unit_pages) 0 t.group_units
    (λ i low high.
    let there : IsUnit t (rg * t.group_units + i) = unit-there t rg i group (omega (arith, high)) in
    gains-most t.unit_pages (unit_at t (rg * t.group_units + i)).next (unit_at t (rg * t.group_units + i)).live (λ k. is_live o (record { unit = rg * t.group_units + i; page = k })) (live-below t o (rg * t.group_units + i) h) (live-counted t o (rg * t.group_units + i) h there) (state_at t (rg * t.group_units + i)) (h.sound (rg * t.group_units + i) there).next)

-- ---- the change of one unit

-- the units of a group after the change of one unit
module _ (old new : UnitTable) (unit : ℕ) (x : DataUnit) (h : Changes old new unit x) where
  same-units : new.group_units ≡ old.group_units
  same-units = ap (λ c. c.group_units) h.cut

  same-pages : new.unit_pages ≡ old.unit_pages
  same-pages = ap (λ c. c.unit_pages) h.cut

  toil-new : (rg : ℕ) → toil_of new rg ≡ sum_from (λ i. gain_of old.unit_pages (unit_at new (rg * old.group_units + i))) 0 old.group_units
  toil-new rg =
      ap (λ (n : ℕ). sum_from (λ i. gain_of new.unit_pages (unit_at new (rg * n + i))) 0 n) same-units
      ∙ ap (λ (n : ℕ). sum_from (λ i. gain_of n (unit_at new (rg * old.group_units + i))) 0 old.group_units) same-pages

  unit-same : (other : ℕ) → other ≢ unit → unit_at new other ≡ unit_at old other
  unit-same other ne = ap (λ (f : ℕ → DataUnit). f other) h.units ∙ ap (λ (b : Bool). cond b x (unit_at old other)) (ne_eqb other unit ne)

  unit-new : unit_at new unit ≡ x
  unit-new = ap (λ (f : ℕ → DataUnit). f unit) h.units ∙ ap (λ (b : Bool). cond b x (unit_at old unit)) (eq-eqb unit unit refl)

pub toil-one : (old new : UnitTable) (unit : ℕ) (x : DataUnit) → IsUnit old unit → Changes old new unit x → toil_of new (group_in old unit) + gain_of old.unit_pages (unit_at old unit) ≡ toil_of old (group_in old unit) + gain_of old.unit_pages x
toil-one old new unit x there h =
    let number : unit ≡ group_in old unit * old.group_units + unit % old.group_units = number-of old (group_in old unit) unit refl in
    let one : sum_from (λ i. gain_of old.unit_pages (unit_at new (group_in old unit * old.group_units + i))) 0 old.group_units + gain_of old.unit_pages (unit_at old (group_in old unit * old.group_units + unit % old.group_units)) ≡ sum_from (λ i. gain_of old.unit_pages (unit_at old (group_in old unit * old.group_units + i))) 0 old.group_units + gain_of old.unit_pages (unit_at new (group_in old unit * old.group_units + unit % old.group_units)) =
    sum_from-one (λ i. gain_of old.unit_pages (unit_at new (group_in old unit * old.group_units + i))) (λ i. gain_of old.unit_pages (unit_at old (group_in old unit * old.group_units + i))) 0 old.group_units (unit % old.group_units) (omega arith) (omega (arith, mod-lt unit (some-units old unit there)))
    (λ i ne. ap (gain_of old.unit_pages) (unit-same old new unit x h (group_in old unit * old.group_units + i) (λ same. apart i ne (same ∙ number)))) in
    let was : gain_of old.unit_pages (unit_at old (group_in old unit * old.group_units + unit % old.group_units)) ≡ gain_of old.unit_pages (unit_at old unit) = ap (λ (n : ℕ). gain_of old.unit_pages (unit_at old n)) (sym number) in
    let now : gain_of old.unit_pages (unit_at new (group_in old unit * old.group_units + unit % old.group_units)) ≡ gain_of old.unit_pages x = ap (λ (n : ℕ). gain_of old.unit_pages (unit_at new n)) (sym number) ∙ ap (gain_of old.unit_pages) (unit-new old new unit x h) in
    omega (arith, toil-new old new unit x h (group_in old unit), one, was, now) where
      apart : (i : ℕ) → i ≢ unit % old.group_units → group_in old unit * old.group_units + i ≡ group_in old unit * old.group_units + unit % old.group_units → ⊥
      apart i ne same = ne (omega (arith, same))

pub toil-others : (old new : UnitTable) (unit rg : ℕ) (x : DataUnit) → group_in old unit ≢ rg → Changes old new unit x → toil_of new rg ≡ toil_of old rg
toil-others old new unit rg x ne h =
    toil-new old new unit x h rg
    ∙ sum_from-same (λ i. gain_of old.unit_pages (unit_at new (rg * old.group_units + i))) (λ i. gain_of old.unit_pages (unit_at old (rg * old.group_units + i))) 0 old.group_units
    (λ i low high. ap (gain_of old.unit_pages) (unit-same old new unit x h (rg * old.group_units + i) (λ same. ne (ap (group_in old) (sym same) ∙ group-of-place old rg i (omega (arith, high))))))

-- ---- what a unit gains

gain-as : (pages : ℕ) (x : DataUnit) (state : UnitState) → x.state ≡ state → gain_of pages x ≡ gain_in pages state x.next x.live
gain-as pages x state e = ap (λ (s : UnitState). gain_in pages s x.next x.live) e

pub gain-used : (pages : ℕ) (x : DataUnit) → IsSound pages x → x.state ≡ Target → gain_of pages (used pages x) ≡ gain_of pages x + 1
gain-used pages x sound is =
    let room : x.next < pages = sound.room (subst (λ (s : UnitState). (is_free s || (is_referenced s || is_target s)) ≡ true) (sym is) refl) in
    ⊎_elim
    (λ (more : x.next + 1 < pages).
    let state : (used pages x).state ≡ Target = ap (λ (b : Bool). cond b x.state Closed) (lt-ltb (x.next + 1) pages more) ∙ is in
    omega (arith, gain-as pages (used pages x) Target state, gain-as pages x Target is, sound.live))
    (λ (full : pages ≤ x.next + 1).
    let state : (used pages x).state ≡ Closed = ap (λ (b : Bool). cond b x.state Closed) (le-ltb (x.next + 1) pages full) in
    omega (arith, gain-as pages (used pages x) Closed state, gain-as pages x Target is, sound.live, full, room))
    (cases_lt (x.next + 1) pages)

free-is : (s : UnitState) → is_free s ≡ true → s ≡ Free
free-is Free e = refl
free-is Referenced e = absurd cc
free-is Target e = absurd cc
free-is Closed e = absurd cc
free-is Retired e = absurd cc
free-is Aside e = absurd cc

pub gain-taken : (pages : ℕ) (x : DataUnit) → IsSound pages x → IsTrue (is_free x.state) → gain_of pages (turned pages Target x) ≡ gain_of pages x
gain-taken pages x sound is =
    let state : x.state ≡ Free = free-is x.state is in
    let next : next_after pages Target x ≡ x.next = ap (λ (s : UnitState). cond (is_free s && is_closed Target) pages x.next) state in
    let none : x.next ≡ 0 = sound.free is in
    let gains : gain_of pages (turned pages Target x) ≡ x.next - x.live = ap (λ (n : ℕ). n - x.live) next in
    omega (arith, gains, none, gain-as pages x Free state)

pub gain-lowered : (pages : ℕ) (x : DataUnit) → IsSound pages x → x.state ≡ Closed → 1 ≤ x.live → gain_of pages (lowered x) ≡ gain_of pages x + 1
gain-lowered pages x sound is some =
    omega (arith, gain-as pages (lowered x) Closed is, gain-as pages x Closed is, sound.live, sound.next, some)

gain-raised-in : (pages : ℕ) (state : UnitState) (next live : ℕ) → next ≤ pages → live < next → (is_target state || is_closed state) ≡ true → gain_in pages state next (live + 1) + 1 ≡ gain_in pages state next live
gain-raised-in pages Free next live within low e = absurd cc
gain-raised-in pages Referenced next live within low e = absurd cc
gain-raised-in pages Target next live within low e = omega (arith, low)
gain-raised-in pages Closed next live within low e = omega (arith, low, within)
gain-raised-in pages Retired next live within low e = absurd cc
gain-raised-in pages Aside next live within low e = absurd cc

pub gain-raised : (pages : ℕ) (x : DataUnit) → IsSound pages x → IsTrue (is_target x.state || is_closed x.state) → x.live < x.next → gain_of pages (raised x) + 1 ≡ gain_of pages x
gain-raised pages x sound is low = gain-raised-in pages x.state x.next x.live sound.next low is

gain-erased-in : (pages : ℕ) (x : DataUnit) (to : UnitState) → is_end_of_erase to ≡ true → gain_of pages (turned pages to x) ≡ 0
gain-erased-in pages x Free e = refl
gain-erased-in pages x Referenced e = absurd cc
gain-erased-in pages x Target e = absurd cc
gain-erased-in pages x Closed e = absurd cc
gain-erased-in pages x Retired e = refl
gain-erased-in pages x Aside e = absurd cc

pub gain-erased : (pages : ℕ) (x : DataUnit) (to : UnitState) → x.state ≡ Closed → x.live ≡ 0 → IsTrue (is_end_of_erase to) → gain_of pages (turned pages to x) + pages ≡ gain_of pages x
gain-erased pages x to is none ends = omega (arith, gain-erased-in pages x to ends, gain-as pages x Closed is, none)
