-- A group without room is full: what it stores, and what a write adds, is more than its budget.
use Rattle.std.proofs.Common.{◌≡◌, ◌≢◌, ℕ, zero, suc, ◌+◌, ◌-◌, ◌*◌, ◌<◌, ◌≤◌, Bool, true, false, cond, not, ◌&&◌, Option, Some, refl, sym, ◌∙◌, ap, subst, arith, mul-le-mul_left, ⊎_elim}
use Rattle.std.specs.Prelude.{◌==◌, IsTrue, nat_le, nat_lt}
use Rattle.std.specs.Option.{option_map_or}
use Rattle.std.proofs.lemmas.Bool.{and_left, and_right, cases_eq, cases_lt, le-ltb, lt-leb, lt-ltb, ne_eqb}
use Rattle.fdp_base.specs.declared.command.Write.{Write}
use Rattle.fdp_base.specs.declared.config.DriveConfig.{DriveConfig}
use Rattle.fdp_base.specs.CommandKinds.{write_of}
use Rattle.fdp_base.specs.Numbers.{count_below, is_among}
use Rattle.fdp_base.proofs.Sums.{count_from, count_from-none, count_from-step, counting, sum_from, sum_from-none, sum_from-step}
use Rattle.fdp_rules.specs.PlainState.{Going, PlainState}
use Rattle.fdp_rules.specs.Room.{budget, handles_in_force, is_over_budget, lies_in, namespace_ids, size_of, stored, stored_where}
use Rattle.fdp_rules.specs.Step.{exceeds_budget}
use Rattle.fdp_owners.proofs.Rows.{count-most}
use Rattle.fdp_units.specs.DataUnits.{is_closed, is_free, is_lost, is_referenced, is_target}
use Rattle.fdp_units.specs.UnitTable.{UnitTable, count_in, is_worn_at, live_at}
use Rattle.fdp_units.proofs.Counted.{counted-once, full-live}
use Rattle.fdp_units.proofs.Tables.{lost-agrees}
use Rattle.fdp_trails.specs.Crowded.{IsCrowded}

-- ---- the blocks that a write does not replace

not-among : (first count n : ℕ) → first + count ≤ n → is_among first count n ≡ false
not-among first count n past = and_right (nat_le first n) (nat_lt n (first + count)) (le-ltb n (first + count) past)

not-yet : (first count n : ℕ) → n < first → is_among first count n ≡ false
not-yet first count n before = and_left (nat_le first n) (nat_lt n (first + count)) (lt-leb first n before)

-- of the numbers in a row no more lie in a range than it has
among-most : (slba count first number : ℕ) → count_from (is_among slba count) first number ≤ count
among-most slba count first zero = omega (arith, count_from-none (is_among slba count) first)
among-most slba count first (suc number) =
    ⊎_elim
    (λ (before : first < slba).
    let here : counting (is_among slba count) first ≡ 0 = ap (λ (b : Bool). cond b 1 0) (not-yet slba count first before) in
    omega (arith, here, among-most slba count (first + 1) number, count_from-step (is_among slba count) first number))
    (λ (within : slba ≤ first).
    let most : count_from (is_among slba count) first (suc number) ≤ slba + count - first = count-most (is_among slba count) first (suc number) (slba + count) (λ i past. not-among slba count i past) in
    omega (arith, most, within))
    (cases_lt first slba)

-- a block counts in all, or is replaced and counts in the range
counts-both : (lies named among : Bool) → cond (lies && true) 1 0 ≤ cond (lies && not (named && among)) 1 0 + cond among 1 0
counts-both true true true = omega arith
counts-both true true false = omega arith
counts-both true false true = omega arith
counts-both true false false = omega arith
counts-both false true true = omega arith
counts-both false true false = omega arith
counts-both false false true = omega arith
counts-both false false false = omega arith

counts-all : (lies : ℕ → Bool) (named : Bool) (slba count first number : ℕ) → count_from (λ lba. lies lba && true) first number ≤ count_from (λ lba. lies lba && not (named && is_among slba count lba)) first number + count_from (is_among slba count) first number
counts-all lies named slba count first zero = omega (arith, count_from-none (λ lba. lies lba && true) first)
counts-all lies named slba count first (suc number) =
    omega (
      arith,
      counts-both (lies first) named (is_among slba count first),
      counts-all lies named slba count (first + 1) number,
      count_from-step (λ lba. lies lba && true) first number,
      count_from-step (λ lba. lies lba && not (named && is_among slba count lba)) first number,
      count_from-step (is_among slba count) first number,
    )

-- a sum each of whose terms but one is at most that of another sum
sums-but : (f g : ℕ → ℕ) (place more first number : ℕ) → ((i : ℕ) → i ≢ place → f i ≤ g i) → f place ≤ g place + more → sum_from f first number ≤ sum_from g first number + more
sums-but f g place more first zero others here = omega (arith, sum_from-none f first)
sums-but f g place more first (suc number) others here =
    ⊎_elim
    (λ (is : first ≡ place).
    let own : f first ≤ g first + more = subst (λ (i : ℕ). f i ≤ g i + more) (sym is) here in
    omega (arith, own, sums-at f g (first + 1) number (λ i low. others i (λ same. omega (arith, same, is, low))), sum_from-step f first number, sum_from-step g first number))
    (λ (ne : first ≢ place). omega (arith, others first ne, sums-but f g place more (first + 1) number others here, sum_from-step f first number, sum_from-step g first number))
    (cases_eq first place) where
      sums-at : (f g : ℕ → ℕ) (first number : ℕ) → ((i : ℕ) → first ≤ i → f i ≤ g i) → sum_from f first number ≤ sum_from g first number
      sums-at f g first zero h = omega (arith, sum_from-none f first)
      sums-at f g first (suc number) h = omega (arith, h first (omega arith), sums-at f g (first + 1) number (λ i low. h i (omega (arith, low))), sum_from-step f first number, sum_from-step g first number)

-- a group stores at most what a write leaves there, and as many blocks as the write has
pub stored-most : (s : PlainState) (rg nsid slba count : ℕ) → stored s rg ≤ stored_where s rg (λ n lba. not (n == nsid && is_among slba count lba)) + count
unfolding namespace_ids
stored-most s rg nsid slba count =
    let own : count_below (size_of s nsid) (λ lba. lies_in rg (s.blocks nsid lba) && true) ≤ count_below (size_of s nsid) (λ lba. lies_in rg (s.blocks nsid lba) && not (nsid == nsid && is_among slba count lba)) + count =
    omega (arith, counts-all (λ lba. lies_in rg (s.blocks nsid lba)) (nsid == nsid) slba count 0 (size_of s nsid), among-most slba count 0 (size_of s nsid)) in
    sums-but (λ n. count_below (size_of s n) (λ lba. lies_in rg (s.blocks n lba) && true)) (λ n. count_below (size_of s n) (λ lba. lies_in rg (s.blocks n lba) && not (n == nsid && is_among slba count lba))) nsid count 1 16 (λ n ne. other n (n == nsid) (ne_eqb n nsid ne)) own where
      other : (n : ℕ) (b : Bool) → b ≡ false → count_below (size_of s n) (λ lba. lies_in rg (s.blocks n lba) && true) ≤ count_below (size_of s n) (λ lba. lies_in rg (s.blocks n lba) && not (b && is_among slba count lba))
      other n true e = absurd cc
      other n false e = omega arith

-- ---- the numbers

-- what is left of the units, where fewer are free than a host or relocation needs, is full of pages that are kept
over : (pages units lost handles free referenced targets closed going kept others own : ℕ) → free + referenced + targets + closed + lost ≡ units → free ≤ 2 → referenced ≤ handles → targets ≤ handles → pages * closed ≤ kept + going → kept ≤ others + own → 1 ≤ own
    → pages * (units - lost - 2 * handles - 3) - going < others + own
over pages units lost handles free referenced targets closed going kept others own all few filled opened full less some =
    ⊎_elim
    (λ (room : 0 < units - lost - 2 * handles - 3).
    let most : units - lost - 2 * handles - 3 + 1 ≤ closed = omega (arith, room, all, few, filled, opened) in
    let rises : pages * (units - lost - 2 * handles - 3 + 1) ≤ pages * closed = mul-le-mul_left pages most in
    let product : pages * (units - lost - 2 * handles - 3 + 1) ≡ pages * (units - lost - 2 * handles - 3) + pages = more pages (units - lost - 2 * handles - 3) in
    ⊎_elim
    (λ (page : 0 < pages). fits (pages * (units - lost - 2 * handles - 3)) (pages * closed) pages (omega (arith, rises, product)) page full less some)
    (λ (none : pages ≤ 0). low (pages * (units - lost - 2 * handles - 3)) (of-none pages (units - lost - 2 * handles - 3) (omega (arith, none))))
    (cases_lt 0 pages))
    (λ (none : units - lost - 2 * handles - 3 ≤ 0). low (pages * (units - lost - 2 * handles - 3)) (to-none pages (units - lost - 2 * handles - 3) (omega (arith, none))))
    (cases_lt 0 (units - lost - 2 * handles - 3)) where
      more : (a b : ℕ) → a * (b + 1) ≡ a * b + a
      more a b = omega arith

      of-none : (a b : ℕ) → a ≡ 0 → a * b ≡ 0
      of-none a b e = ap (λ (n : ℕ). n * b) e ∙ omega arith

      to-none : (a b : ℕ) → b ≡ 0 → a * b ≡ 0
      to-none a b e = ap (λ (n : ℕ). a * n) e ∙ omega arith

      low : (room : ℕ) → room ≡ 0 → room - going < others + own
      low room e = omega (arith, e, some)

      fits : (room taken page : ℕ) → room + page ≤ taken → 0 < page → taken ≤ kept + going → kept ≤ others + own → 1 ≤ own → room - going < others + own
      fits room taken page low page_is full less some = omega (arith, low, page_is, full, less, some)

-- nothing is left of the units of a worn group
over-worn : (pages units handles going others own : ℕ) → 1 ≤ own → pages * (units - units - 2 * handles - 3) - going < others + own
over-worn pages units handles going others own some =
    let none : units - units - 2 * handles - 3 ≡ 0 = omega arith in
    let product : pages * (units - units - 2 * handles - 3) ≡ 0 = ap (λ (n : ℕ). pages * n) none ∙ to-none pages in
    omega (arith, product, some) where
      to-none : (a : ℕ) → a * 0 ≡ 0
      to-none a = omega arith

-- ---- the budget

over-lost : (t : UnitTable) (c : DriveConfig) (s : PlainState) (rg others own : ℕ) → IsCrowded t c s rg → stored s rg ≤ others + own → 1 ≤ own → (worn : Bool) → is_worn_at t rg ≡ worn → c.unit_pages * (c.units - cond worn t.group_units (count_in t rg is_lost) - 2 * handles_in_force c s - 3) - c.queues * c.blocks_per_command < others + own
over-lost t c s rg others own h less some true worn =
    subst (λ (n : ℕ). c.unit_pages * (c.units - n - 2 * handles_in_force c s - 3) - c.queues * c.blocks_per_command < others + own) h.agrees.units
    (over-worn c.unit_pages c.units (handles_in_force c s) (c.queues * c.blocks_per_command) others own some)
over-lost t c s rg others own h less some false worn =
    let full : c.unit_pages * count_in t rg is_closed ≤ live_at t rg = subst (λ (n : ℕ). n * count_in t rg is_closed ≤ live_at t rg) h.unit_pages (full-live t rg h.group h.none) in
    over c.unit_pages c.units (count_in t rg is_lost) (handles_in_force c s) (count_in t rg is_free) (count_in t rg is_referenced) (count_in t rg is_target) (count_in t rg is_closed) (c.queues * c.blocks_per_command) (stored s rg) others own
    (counted-once t rg ∙ sym h.agrees.units)
    h.free
    h.referenced
    h.targets
    (kept (c.unit_pages * count_in t rg is_closed) (live_at t rg) (stored s rg) (c.queues * c.blocks_per_command) full h.live)
    less
    some where
      kept : (a b x y : ℕ) → a ≤ b → b ≤ x + y → a ≤ x + y
      kept a b x y low high = omega (arith, low, high)

below-budget : (t : UnitTable) (c : DriveConfig) (s : PlainState) (rg others own : ℕ) → IsCrowded t c s rg → stored s rg ≤ others + own → 1 ≤ own → budget c s rg < others + own
below-budget t c s rg others own h less some =
    subst (λ (lost : ℕ). c.unit_pages * (c.units - lost - 2 * handles_in_force c s - 3) - c.queues * c.blocks_per_command < others + own) (lost-agrees t c s rg h.group h.agrees)
    (over-lost t c s rg others own h less some (is_worn_at t rg) refl)

pub crowded-over : (t : UnitTable) (c : DriveConfig) (s : PlainState) (rg nsid slba count : ℕ) → IsCrowded t c s rg → 1 ≤ count → IsTrue (is_over_budget c s rg nsid slba count)
crowded-over t c s rg nsid slba count h some =
    lt-ltb (budget c s rg) (stored_where s rg (λ n lba. not (n == nsid && is_among slba count lba)) + count)
    (below-budget t c s rg (stored_where s rg (λ n lba. not (n == nsid && is_among slba count lba))) count h (stored-most s rg nsid slba count) some)

pub crowded-exceeds : (t : UnitTable) (c : DriveConfig) (s : PlainState) (g : Going) (w : Write) → IsCrowded t c s g.rg → write_of g.command ≡ Some w → 1 ≤ w.count → IsTrue (exceeds_budget c s g)
crowded-exceeds t c s g w h is some =
    subst (λ (o : Option Write). option_map_or (λ (x : Write). is_over_budget c s g.rg x.nsid x.slba x.count) o false ≡ true) (sym is) (crowded-over t c s g.rg w.nsid w.slba w.count h some)
