-- A unit by its number, in the tables of the groups.
use Rattle.std.proofs.Common.{◌≡◌, ◌≢◌, ℕ, zero, suc, ◌+◌, ◌*◌, ◌/◌, ◌%◌, ◌<◌, ◌≤◌, Bool, false, List, [], ◌∷◌, refl, ap, sym, ◌∙◌, arith, cond, set, length, get_or, replicate, subst, ⊎_elim, eq-eqb, ne_eqb, get_or-set_other, get_or-set_same}
use Rattle.std.specs.Prelude.{count_by, sum_by, if◌then◌else◌}
use Rattle.std.proofs.Math.Nat.{div-lt_iff_lt-mul, mod-lt, mul-le-mul_right}
use Rattle.std.proofs.lemmas.Bool.{cases_eq, cases_lt}
use Rattle.std.proofs.lemmas.List.{get_or_default, get_or_past, get_or-replicate, length-replicate, length-set}
use Rattle.std.proofs.lemmas.List.Sums.{sum_by-cons}
use Rattle.std.proofs.lemmas.Nat.{div-add-mod', div-mul-add, mod-mul-add}
use Rattle.fdp_base.specs.declared.config.DriveConfig.{DriveConfig}
use Rattle.fdp_base.proofs.Sums.{count_from-same}
use Rattle.fdp_base.specs.Numbers.{numbers_from, with_at}
use Rattle.fdp_rules.specs.PlainState.{PlainState}
use Rattle.fdp_rules.specs.Room.{lost_in}
use Rattle.fdp_units.specs.declared.data_unit.DataUnit.{DataUnit}
use Rattle.fdp_units.specs.declared.state.UnitState.{UnitState}
use Rattle.fdp_units.specs.DataUnits.{IsSound, free_unit, is_lost, no_unit, gain_of}
use Rattle.fdp_units.specs.GroupTable.{GroupTable, free_group}
use Rattle.fdp_units.specs.UnitTable.{Agrees, AreGroups, Changes, IsGroup, IsUnit, UnitTable, count_in, cut_of, group_at, group_in, is_worn_at, lost_at, no_group, state_at, toil_of, unit_at}

-- the groups of a table are those of its cut
abbrev pub IsCut : UnitTable → Type 0
IsCut t = AreGroups t.unit_pages t.group_units t.groups

-- a group that was read
pub group-read : (t : UnitTable) (rg : ℕ) (g : GroupTable) → IsGroup t rg → g ≡ get_or t.groups rg g → g ≡ group_at t rg
group-read t rg g there is = is ∙ get_or_default t.groups rg g no_group there

-- ---- numbers

-- there are units in a group that has one
pub some-units : (t : UnitTable) (unit : ℕ) → IsUnit t unit → 0 < t.group_units
some-units t unit there = positive t.group_units refl where
  positive : (n : ℕ) → t.group_units ≡ n → 0 < n
  positive zero e = let none : length t.groups * t.group_units ≡ 0 = ap (λ (n : ℕ). length t.groups * n) e ∙ omega arith in absurd (omega (arith, there, none))
  positive (suc n) e = omega arith

pub group-there : (t : UnitTable) (unit : ℕ) → IsUnit t unit → IsGroup t (group_in t unit)
group-there t unit there = (div-lt_iff_lt-mul (some-units t unit there)).1 there

pub place-there : (t : UnitTable) (unit : ℕ) → IsCut t → IsUnit t unit → unit % t.group_units < length (group_at t (group_in t unit)).units
place-there t unit cut there =
    let low : unit % t.group_units < t.group_units = mod-lt unit (some-units t unit there) in
    omega (arith, low, cut.units (group_in t unit) (group-there t unit there))

-- a unit of a group that is there is one of all
pub unit-there : (t : UnitTable) (rg i : ℕ) → IsGroup t rg → i < t.group_units → IsUnit t (rg * t.group_units + i)
unit-there t rg i there low =
    let more : (rg + 1) * t.group_units ≤ length t.groups * t.group_units = mul-le-mul_right t.group_units (omega (arith, there)) in
    omega (arith, more, low)

pub group-of-place : (t : UnitTable) (rg i : ℕ) → i < t.group_units → group_in t (rg * t.group_units + i) ≡ rg
group-of-place t rg i low = div-mul-add rg t.group_units i low

-- a unit by its place in its group
pub unit-of-place : (t : UnitTable) (rg i : ℕ) → i < t.group_units → unit_at t (rg * t.group_units + i) ≡ get_or (group_at t rg).units i no_unit
unit-of-place t rg i low = rw (div-mul-add rg t.group_units i low, mod-mul-add rg t.group_units i low) refl

pub unit-in-group : (t : UnitTable) (rg unit : ℕ) → group_in t unit ≡ rg → unit_at t unit ≡ get_or (group_at t rg).units (unit % t.group_units) no_unit
unit-in-group t rg unit is = ap (λ (r : ℕ). get_or (group_at t r).units (unit % t.group_units) no_unit) is

pub number-of : (t : UnitTable) (rg unit : ℕ) → group_in t unit ≡ rg → unit ≡ rg * t.group_units + unit % t.group_units
number-of t rg unit is = sym (div-add-mod' unit t.group_units) ∙ ap (λ (r : ℕ). r * t.group_units + unit % t.group_units) is

-- a unit of groups whose units are all free
pub fresh-unit : (pages count number : ℕ) (groups : List GroupTable) → groups ≡ replicate number (free_group pages count) → (unit : ℕ) → unit < number * count → unit_at (record { unit_pages = pages; group_units = count; groups = groups }) unit ≡ free_unit
fresh-unit pages count number groups all unit there =
    let t : UnitTable = record { unit_pages = pages; group_units = count; groups = replicate number (free_group pages count) } in
    let size : length (replicate number (free_group pages count)) ≡ number = length-replicate number (free_group pages count) in
    let here : IsUnit t unit = subst (λ (n : ℕ). unit < n * count) (sym size) there in
    let low : unit / count < number = subst (λ (n : ℕ). unit / count < n) size (group-there t unit here) in
    let place : unit % count < count = mod-lt unit (some-units t unit here) in
    ap (λ (xs : List GroupTable). unit_at (record { unit_pages = pages; group_units = count; groups = xs }) unit) all
    ∙ ap (λ (g : GroupTable). get_or g.units (unit % count) no_unit) (get_or-replicate number (unit / count) (free_group pages count) no_group low)
    ∙ get_or-replicate count (unit % count) free_unit no_unit place

-- none of their pages was used, nor one of a unit that is not there
pub fresh-unused : (pages count number : ℕ) (groups : List GroupTable) → groups ≡ replicate number (free_group pages count) → (unit : ℕ) → (unit_at (record { unit_pages = pages; group_units = count; groups = groups }) unit).next ≡ 0
fresh-unused pages count number groups all unit =
    ap (λ (xs : List GroupTable). (unit_at (record { unit_pages = pages; group_units = count; groups = xs }) unit).next) all ∙ ⊎_elim
    (λ (low : unit / count < number). ap (λ (g : GroupTable). (get_or g.units (unit % count) no_unit).next) (get_or-replicate number (unit / count) (free_group pages count) no_group low) ∙ ⊎_elim
    (λ (few : unit % count < count). ap (λ (x : DataUnit). x.next) (get_or-replicate count (unit % count) free_unit no_unit few))
    (λ (many : count ≤ unit % count). ap (λ (x : DataUnit). x.next) (get_or_past (replicate count free_unit) (unit % count) no_unit (subst (λ (n : ℕ). n ≤ unit % count) (sym (length-replicate count free_unit)) many)))
    (cases_lt (unit % count) count))
    (λ (high : number ≤ unit / count). ap (λ (g : GroupTable). (get_or g.units (unit % count) no_unit).next) (get_or_past (replicate number (free_group pages count)) (unit / count) no_group (subst (λ (n : ℕ). n ≤ unit / count) (sym (length-replicate number (free_group pages count))) high)))
    (cases_lt (unit / count) number)

-- ---- sums over a group

-- a sum over numbers in a row whose terms are those of a list
sum-listed : {X : Type 0} (f : X → ℕ) (g : ℕ → ℕ) (d : X) (first : ℕ) (xs : List X) → ((i : ℕ) → i < length xs → g (first + i) ≡ f (get_or xs i d)) → sum_by f xs ≡ sum_by g (numbers_from first (length xs))
unfolding numbers_from
sum-listed f g d first [] same = refl
sum-listed f g d first (x ∷ xs) same =
    let here : g (first + 0) ≡ f x = same 0 (omega arith) in
    let zero_is : first + 0 ≡ first = omega arith in
    let head : g first ≡ f x = sym (ap g zero_is) ∙ here in
    let rest : sum_by f xs ≡ sum_by g (numbers_from (first + 1) (length xs)) =
    sum-listed f g d (first + 1) xs (λ i low. let at : first + 1 + i ≡ first + suc i = omega arith in ap g at ∙ same (suc i) (omega (arith, low))) in
    omega (arith, head, rest, sum_by-cons f x xs, sum_by-cons g first (numbers_from (first + 1) (length xs)))

pub sum-in-group : (f : DataUnit → ℕ) (t : UnitTable) (rg : ℕ) → IsCut t → IsGroup t rg → sum_by f (group_at t rg).units ≡ sum_by (λ i. f (unit_at t (rg * t.group_units + i))) (numbers_from 0 t.group_units)
sum-in-group f t rg cut there =
    let size : length (group_at t rg).units ≡ t.group_units = cut.units rg there in
    sum-listed f (λ i. f (unit_at t (rg * t.group_units + i))) no_unit 0 (group_at t rg).units
    (λ i low. let is : rg * t.group_units + (0 + i) ≡ rg * t.group_units + i = omega arith in ap (λ (n : ℕ). f (unit_at t n)) is ∙ ap f (unit-of-place t rg i (omega (arith, low, size))))
    ∙ ap (λ (n : ℕ). sum_by (λ i. f (unit_at t (rg * t.group_units + i))) (numbers_from 0 n)) size

pub count-told : (t k : UnitTable) (rg : ℕ) (g : GroupTable) (test : UnitState → Bool) → t ≡ k → IsCut t → IsGroup k rg → g ≡ get_or t.groups rg g → count_by (λ (x : DataUnit). test x.state) g.units ≡ count_in k rg test
count-told t k rg g test same cut there is =
    let here : IsGroup t rg = subst (λ (x : UnitTable). IsGroup x rg) (sym same) there in
    ap (λ (x : GroupTable). count_by (λ (y : DataUnit). test y.state) x.units) (group-read t rg g here is)
    ∙ sum-in-group (λ (y : DataUnit). cond (test y.state) 1 0) t rg cut here
    ∙ ap (λ (x : UnitTable). count_in x rg test) same

pub toil-told : (t k : UnitTable) (rg : ℕ) (g : GroupTable) → t ≡ k → IsCut t → IsGroup k rg → g ≡ get_or t.groups rg g → sum_by (gain_of g.unit_pages) g.units ≡ toil_of k rg
toil-told t k rg g same cut there is =
    let here : IsGroup t rg = subst (λ (x : UnitTable). IsGroup x rg) (sym same) there in
    let read : g ≡ group_at t rg = group-read t rg g here is in
    let pages : g.unit_pages ≡ t.unit_pages = ap (λ (x : GroupTable). x.unit_pages) read ∙ cut.pages rg here in
    ap (λ (n : ℕ). sum_by (gain_of n) g.units) pages
    ∙ ap (λ (x : GroupTable). sum_by (gain_of t.unit_pages) x.units) read
    ∙ sum-in-group (gain_of t.unit_pages) t rg cut here
    ∙ ap (λ (x : UnitTable). toil_of x rg) same

-- a unit of a group that was read keeps what is true of all
pub sound-read : (t k : UnitTable) (rg : ℕ) (g : GroupTable) (x : DataUnit) → t ≡ k → IsCut t → IsGroup k rg → g ≡ get_or t.groups rg g → IsSound g.unit_pages x → IsSound k.unit_pages x
sound-read t k rg g x same cut there is h =
    let here : IsGroup t rg = subst (λ (y : UnitTable). IsGroup y rg) (sym same) there in
    let pages : g.unit_pages ≡ k.unit_pages = ap (λ (y : GroupTable). y.unit_pages) (group-read t rg g here is) ∙ cut.pages rg here ∙ ap (λ (y : UnitTable). y.unit_pages) same in
    subst (λ (n : ℕ). IsSound n x) pages h

-- ---- lost units

pub lost-told : (t k : UnitTable) (rg : ℕ) (g : GroupTable) → t ≡ k → IsCut t → IsGroup k rg → g ≡ get_or t.groups rg g → g.is_worn ≡ false → count_by (λ (x : DataUnit). is_lost x.state) g.units ≡ lost_at k rg
lost-told t k rg g same cut there is unworn =
    let here : IsGroup t rg = subst (λ (x : UnitTable). IsGroup x rg) (sym same) there in
    let worn : is_worn_at k rg ≡ false = ap (λ (x : UnitTable). is_worn_at x rg) (sym same) ∙ ap (λ (x : GroupTable). x.is_worn) (sym (group-read t rg g here is)) ∙ unworn in
    count-told t k rg g is_lost same cut there is ∙ ap (λ (b : Bool). if b then k.group_units else count_in k rg is_lost) (sym worn)

pub lost-agrees : (t : UnitTable) (c : DriveConfig) (s : PlainState) (rg : ℕ) → IsGroup t rg → Agrees t c s → lost_at t rg ≡ lost_in c s rg
lost-agrees t c s rg there h =
    let counts : count_in t rg is_lost ≡ count_by (λ i. s.is_lost (rg * c.units + i)) (numbers_from 0 c.units) =
    subst (λ (n : ℕ). count_in t rg is_lost ≡ count_by (λ i. s.is_lost (rg * n + i)) (numbers_from 0 n)) (sym h.units)
    (count_from-same (λ i. is_lost (state_at t (rg * t.group_units + i))) (λ i. s.is_lost (rg * t.group_units + i)) 0 t.group_units (λ i low high. sym (h.lost (rg * t.group_units + i) (unit-there t rg i there (omega (arith, high)))))) in
    ap (λ (b : Bool). if b then t.group_units else count_in t rg is_lost) (sym (h.worn rg))
    ∙ ap (λ (n : ℕ). if s.is_worn rg then n else count_in t rg is_lost) (sym h.units)
    ∙ ap (λ (n : ℕ). if s.is_worn rg then c.units else n) counts

-- ---- one unit is replaced

-- a table with another unit at a place of a group
abbrev pub with_unit : UnitTable → ℕ → ℕ → DataUnit → UnitTable
with_unit t rg i x = record t { groups = set t.groups rg (record (group_at t rg) { units = set (group_at t rg).units i x }) }

unit-set : (t : UnitTable) (unit : ℕ) (x : DataUnit) → IsCut t → IsUnit t unit → (n : ℕ) → unit_at (with_unit t (group_in t unit) (unit % t.group_units) x) n ≡ with_at (unit_at t) unit x n
unit-set t unit x cut there n =
    let rg : ℕ = group_in t unit in
    let i : ℕ = unit % t.group_units in
    let g : GroupTable = record (group_at t rg) { units = set (group_at t rg).units i x } in
    let group : rg < length t.groups = group-there t unit there in
    ⊎_elim
    (λ (e : n ≡ unit).
    let now : with_at (unit_at t) unit x n ≡ x = ap (λ (b : Bool). cond b x (unit_at t n)) (eq-eqb n unit e) in
    let read : get_or (set t.groups rg g) rg no_group ≡ g = get_or-set_same t.groups rg g no_group group in
    let at : get_or (set (group_at t rg).units i x) i no_unit ≡ x = get_or-set_same (group_at t rg).units i x no_unit (place-there t unit cut there) in
    ap (unit_at (with_unit t rg i x)) e ∙ ap (λ (y : GroupTable). get_or y.units i no_unit) read ∙ at ∙ sym now)
    (λ (ne : n ≢ unit).
    let then_is : with_at (unit_at t) unit x n ≡ unit_at t n = ap (λ (b : Bool). cond b x (unit_at t n)) (ne_eqb n unit ne) in
    ⊎_elim
    (λ (same : group_in t n ≡ rg).
    let other : n % t.group_units ≢ i = λ e. ne (number-of t rg n same ∙ ap (λ (k : ℕ). rg * t.group_units + k) e ∙ sym (number-of t rg unit refl)) in
    let read : get_or (set t.groups rg g) (group_in t n) no_group ≡ g = ap (λ (r : ℕ). get_or (set t.groups rg g) r no_group) same ∙ get_or-set_same t.groups rg g no_group group in
    ap (λ (y : GroupTable). get_or y.units (n % t.group_units) no_unit) read
    ∙ get_or-set_other (group_at t rg).units i (n % t.group_units) x no_unit other
    ∙ sym (unit-in-group t rg n same) ∙ sym then_is)
    (λ (apart : group_in t n ≢ rg).
    ap (λ (y : GroupTable). get_or y.units (n % t.group_units) no_unit) (get_or-set_other t.groups rg (group_in t n) g no_group apart) ∙ sym then_is)
    (cases_eq (group_in t n) rg))
    (cases_eq n unit)

pub changes-unit : (t k : UnitTable) (unit : ℕ) (x : DataUnit) (g h : GroupTable) → t ≡ k → IsCut t → IsUnit k unit → g ≡ get_or t.groups (group_in t unit) g → h ≡ record g { units = set g.units (unit % t.group_units) x }
    → Changes k (record t { groups = set t.groups (group_in t unit) h }) unit x
changes-unit t k unit x g h same cut there read now =
    let here : IsUnit t unit = subst (λ (y : UnitTable). IsUnit y unit) (sym same) there in
    let was : g ≡ group_at t (group_in t unit) = group-read t (group_in t unit) g (group-there t unit here) read in
    let is : h ≡ record (group_at t (group_in t unit)) { units = set (group_at t (group_in t unit)).units (unit % t.group_units) x } = now ∙ ap (λ (y : GroupTable). record y { units = set y.units (unit % t.group_units) x }) was in
    let all : unit_at (with_unit t (group_in t unit) (unit % t.group_units) x) ≡ with_at (unit_at t) unit x = λ d n. unit-set t unit x cut here n d in
    let size : length (set t.groups (group_in t unit) h) ≡ length t.groups = length-set t.groups (group_in t unit) h in
    record {
      units = ap (λ (y : GroupTable). unit_at (record t { groups = set t.groups (group_in t unit) y })) is ∙ all ∙ ap (λ (y : UnitTable). with_at (unit_at y) unit x) same;
      cut = (λ d. record { unit_pages = t.unit_pages; group_units = t.group_units; groups = size d }) ∙ ap cut_of same;
    }

worn-set : (groups : List GroupTable) (rg n : ℕ) (h : GroupTable) → rg < length groups → h.is_worn ≡ (get_or groups rg no_group).is_worn → (get_or (set groups rg h) n no_group).is_worn ≡ (get_or groups n no_group).is_worn
worn-set groups rg n h there same =
    ⊎_elim
    (λ (e : n ≡ rg). ap (λ (k : ℕ). (get_or (set groups rg h) k no_group).is_worn) e ∙ ap (λ (y : GroupTable). y.is_worn) (get_or-set_same groups rg h no_group there) ∙ same ∙ ap (λ (k : ℕ). (get_or groups k no_group).is_worn) (sym e))
    (λ (ne : n ≢ rg). ap (λ (y : GroupTable). y.is_worn) (get_or-set_other groups rg n h no_group ne))
    (cases_eq n rg)

pub worn-kept : (t k : UnitTable) (unit : ℕ) (x : DataUnit) (g h : GroupTable) → t ≡ k → IsUnit k unit → g ≡ get_or t.groups (group_in t unit) g → h ≡ record g { units = set g.units (unit % t.group_units) x }
    → is_worn_at (record t { groups = set t.groups (group_in t unit) h }) ≡ is_worn_at k
worn-kept t k unit x g h same there read now =
    let here : IsUnit t unit = subst (λ (y : UnitTable). IsUnit y unit) (sym same) there in
    let was : g ≡ group_at t (group_in t unit) = group-read t (group_in t unit) g (group-there t unit here) read in
    (λ d n. worn-set t.groups (group_in t unit) n h (group-there t unit here) (ap (λ (y : GroupTable). y.is_worn) now ∙ ap (λ (y : GroupTable). y.is_worn) was) d)
    ∙ ap is_worn_at same
