-- The free units of a group after a step.
use Rattle.std.proofs.Common.{◌≡◌, ◌≢◌, ℕ, ◌+◌, ◌*◌, ◌%◌, ◌<◌, ◌≤◌, Bool, true, false, cond, Option, Some, None, refl, sym, ◌∙◌, ap, subst, arith, ⊎_elim, inl, inr, mod-lt}
use Rattle.std.specs.Prelude.{option_map, if◌then◌else◌}
use Rattle.std.specs.Option.{option_map_or}
use Rattle.std.proofs.lemmas.Bool.{cases_eq}
use Rattle.fdp_base.specs.declared.entry.Copied.{Copied}
use Rattle.fdp_base.proofs.Sums.{count_from, count_from-one, count_from-same, counting, sum_from-zero}
use Rattle.fdp_book.specs.fdp_collector.Ready.{IsUnitOf, Relocation}
use Rattle.fdp_book.specs.fdp_collector.Step.{AddsCopy}
use Rattle.fdp_book.proofs.fdp_collector.Kept.{group-kept, unit-was}
use Rattle.fdp_book.specs.fdp_pages.PageTables.{PageTables, passes_at}
use Rattle.fdp_passes.specs.declared.lane.Lane.{Lane}
use Rattle.fdp_passes.specs.GroupPasses.{GroupPasses, Pass, begun, with_copy}
use Rattle.fdp_passes.specs.Place.{has_taken}
use Rattle.fdp_passes.specs.Targets.{UsesPage, pass_in, with_target}
use Rattle.fdp_units.specs.declared.state.UnitState.{UnitState}
use Rattle.fdp_units.specs.declared.state.UnitState.TheVariants.{Closed}
use Rattle.fdp_units.specs.DataUnits.{is_closed, is_free}
use Rattle.fdp_units.specs.UnitTable.{Cut, HasNoFree, IsGroup, IsUnit, UnitTable, count_in, cut_of, group_in, state_at}
use Rattle.fdp_units.proofs.Tables.{group-of-place, group-there, number-of, some-units, unit-there}
use Rattle.fdp_ledger.specs.Ledger.{HasFreeUnits}
use Rattle.fdp_ledger.proofs.Units.{FillsUnit, FreesUnit}

no : true ≡ false → ⊥
no e = cc

-- ---- how many units of a group are free

count-cut : (t now : UnitTable) (rg : ℕ) → cut_of now ≡ cut_of t → count_in now rg is_free ≡ count_from (λ i. is_free (state_at now (rg * t.group_units + i))) 0 t.group_units
count-cut t now rg cut = ap (λ (k : Cut). count_from (λ i. is_free (state_at now (rg * k.group_units + i))) 0 k.group_units) cut

-- the same units of the group are free
count-same : (t now : UnitTable) (rg : ℕ) → cut_of now ≡ cut_of t → ((i : ℕ) → i < t.group_units → is_free (state_at now (rg * t.group_units + i)) ≡ is_free (state_at t (rg * t.group_units + i))) → count_in now rg is_free ≡ count_in t rg is_free
count-same t now rg cut same =
    count-cut t now rg cut
    ∙ count_from-same (λ i. is_free (state_at now (rg * t.group_units + i))) (λ i. is_free (state_at t (rg * t.group_units + i))) 0 t.group_units (λ i low high. same i (omega (arith, high)))

-- one unit of the group changes
count-here : (t now : UnitTable) (rg unit : ℕ) → cut_of now ≡ cut_of t → ((other : ℕ) → other ≢ unit → state_at now other ≡ state_at t other) → IsUnit t unit → group_in t unit ≡ rg → count_in now rg is_free + cond (is_free (state_at t unit)) 1 0 ≡ count_in t rg is_free + cond (is_free (state_at now unit)) 1 0
count-here t now rg unit cut others there group =
    let number : unit ≡ rg * t.group_units + unit % t.group_units = number-of t rg unit group in
    let one = count_from-one (λ i. is_free (state_at now (rg * t.group_units + i))) (λ i. is_free (state_at t (rg * t.group_units + i))) 0 t.group_units (unit % t.group_units) (omega arith) (omega (arith, mod-lt unit (some-units t unit there)))
    (λ i ne. ap is_free (others (rg * t.group_units + i) (λ same. apart i ne (same ∙ number)))) in
    let was : cond {A = ℕ} (is_free (state_at t (rg * t.group_units + unit % t.group_units))) 1 0 ≡ cond (is_free (state_at t unit)) 1 0 = ap (λ (u : ℕ). cond (is_free (state_at t u)) 1 0) (sym number) in
    let is : cond {A = ℕ} (is_free (state_at now (rg * t.group_units + unit % t.group_units))) 1 0 ≡ cond (is_free (state_at now unit)) 1 0 = ap (λ (u : ℕ). cond (is_free (state_at now u)) 1 0) (sym number) in
    omega (arith, count-cut t now rg cut, one, was, is) where
      apart : (i : ℕ) → i ≢ unit % t.group_units → rg * t.group_units + i ≡ rg * t.group_units + unit % t.group_units → ⊥
      apart i ne same = ne (omega (arith, same))

-- ---- no unit of the group is taken or freed

pub free-kept : (t now : PageTables) (rg : ℕ) → cut_of now.units ≡ cut_of t.units → ((unit : ℕ) → group_in t.units unit ≡ rg → is_free (state_at now.units unit) ≡ is_free (state_at t.units unit)) → has_taken (passes_at now rg) ≡ has_taken (passes_at t rg) → HasFreeUnits t rg → HasFreeUnits now rg
free-kept t now rg cut same taken was =
    let count = count-same t.units now.units rg cut (λ i low. same (rg * t.units.group_units + i) (group-of-place t.units rg i low)) in
    elim was [
      | inl two ↦ inl (omega (arith, two, count))
      | inr rest ↦ elim rest [
        | inl one ↦ (let some : 1 ≤ count_in now.units rg is_free = omega (arith, one.0, count) in inr (inl (some, taken ∙ one.1)))
        | inr all ↦ inr (inr (λ unit there group. let own : group_in t.units unit ≡ rg = group-kept now.units t.units unit rg (sym cut) group in same unit own ∙ all unit (unit-was t.units now.units unit cut there) own))
      ]
    ]

-- a unit of another group changes
pub free-elsewhere : (t now : PageTables) (rg unit : ℕ) → cut_of now.units ≡ cut_of t.units → ((other : ℕ) → other ≢ unit → state_at now.units other ≡ state_at t.units other) → group_in t.units unit ≢ rg → has_taken (passes_at now rg) ≡ has_taken (passes_at t rg) → HasFreeUnits t rg → HasFreeUnits now rg
free-elsewhere t now rg unit cut others ne taken = free-kept t now rg cut (λ other group. ap is_free (others other (λ same. ne (sym (ap (group_in t.units) same) ∙ group)))) taken

-- a page of a unit was used that was not free
pub free-had : (t now : PageTables) (rg unit : ℕ) → FillsUnit t.units now.units unit → is_free (state_at t.units unit) ≡ false → has_taken (passes_at now rg) ≡ has_taken (passes_at t rg) → HasFreeUnits t rg → HasFreeUnits now rg
free-had t now rg unit fills unfree = free-kept t now rg fills.cut (λ other group. ⊎_elim
    (λ (same : other ≡ unit). ap (λ (u : ℕ). is_free (state_at now.units u)) same ∙ fills.filled ∙ sym (ap (λ (u : ℕ). is_free (state_at t.units u)) same ∙ unfree))
    (λ (ne : other ≢ unit). ap is_free (fills.others other ne))
    (cases_eq other unit))

-- ---- a unit of the group is taken

fewer-free : (t now : UnitTable) (rg unit : ℕ) → FillsUnit t now unit → group_in t unit ≡ rg → count_in t rg is_free ≤ count_in now rg is_free + 1
fewer-free t now rg unit fills group =
    let one = count-here t now rg unit fills.cut fills.others fills.is_unit group in
    let none : cond {A = ℕ} (is_free (state_at now unit)) 1 0 ≡ 0 = ap (λ (b : Bool). cond b 1 0) fills.filled in
    let most : cond {A = ℕ} (is_free (state_at t unit)) 1 0 ≤ 1 = bound (is_free (state_at t unit)) in
    omega (arith, one, none, most) where
      bound : (b : Bool) → cond {A = ℕ} b 1 0 ≤ 1
      bound true = omega arith
      bound false = omega arith

-- by a handle, where three are free
pub free-three : (t now : PageTables) (rg unit : ℕ) → FillsUnit t.units now.units unit → group_in t.units unit ≡ rg → 3 ≤ count_in t.units rg is_free → HasFreeUnits now rg
free-three t now rg unit fills group three = inl (omega (arith, three, fewer-free t.units now.units rg unit fills group))

-- by a pass, which took none before
pub free-taken : (t now : PageTables) (rg unit victim : ℕ) → FillsUnit t.units now.units unit → group_in t.units unit ≡ rg → IsUnitOf t.units rg victim Closed → has_taken (passes_at t rg) ≡ false → has_taken (passes_at now rg) ≡ true → HasFreeUnits t rg → HasFreeUnits now rg
free-taken t now rg unit victim fills group closed before taken was =
    let fewer = fewer-free t.units now.units rg unit fills group in
    elim was [
      | inl two ↦ (let some : 1 ≤ count_in now.units rg is_free = omega (arith, two, fewer) in inr (inl (some, taken)))
      | inr rest ↦ elim rest [
        | inl one ↦ absurd (no (sym one.1 ∙ before))
        | inr all ↦ absurd (no (sym (all victim closed.is_unit closed.group) ∙ ap is_free closed.stands))
      ]
    ]

-- ---- a unit of the group is freed

pub free-freed : (t now : PageTables) (rg unit : ℕ) → FreesUnit t.units now.units unit → group_in t.units unit ≡ rg → HasFreeUnits t rg → HasFreeUnits now rg
free-freed t now rg unit frees group was =
    let one = count-here t.units now.units rg unit frees.cut frees.others frees.is_unit group in
    let none : cond {A = ℕ} (is_free (state_at t.units unit)) 1 0 ≡ 0 = ap (λ (s : UnitState). cond (is_free s) 1 0) frees.closed in
    let here : cond {A = ℕ} (is_free (state_at now.units unit)) 1 0 ≡ 1 = ap (λ (s : UnitState). cond (is_free s) 1 0) frees.freed in
    elim was [
      | inl two ↦ inl (omega (arith, one, none, here, two))
      | inr rest ↦ elim rest [
        | inl some ↦ inl (omega (arith, one, none, here, some.0))
        | inr all ↦ absurd (no (sym (all unit frees.is_unit group) ∙ ap is_free frees.closed))
      ]
    ]

-- where no unit of the group is free it has none of these
pub none-free : (t : PageTables) (rg victim : ℕ) → IsUnitOf t.units rg victim Closed → HasNoFree t.units rg → HasFreeUnits t rg → ⊥
none-free t rg victim closed none was =
    elim was [
      | inl two ↦ some-free (omega (arith, two))
      | inr rest ↦ elim rest [
        | inl one ↦ some-free one.0
        | inr all ↦ no (sym (all victim closed.is_unit closed.group) ∙ ap is_free closed.stands)
      ]
    ] where
      there : IsGroup t.units rg
      there = subst (IsGroup t.units) closed.group (group-there t.units victim closed.is_unit)

      unfree : (i : ℕ) → i < t.units.group_units → (b : Bool) → is_free (state_at t.units (rg * t.units.group_units + i)) ≡ b → cond {A = ℕ} b 1 0 ≡ 0
      unfree i low true is = absurd (none (rg * t.units.group_units + i) (record { is_unit = unit-there t.units rg i there low; group = group-of-place t.units rg i low; free = is }))
      unfree i low false is = refl

      some-free : 1 ≤ count_in t.units rg is_free → ⊥
      some-free some =
          let zero : count_in t.units rg is_free ≡ 0 = sum_from-zero (counting (λ i. is_free (state_at t.units (rg * t.units.group_units + i)))) 0 t.units.group_units (λ i low high. unfree i (omega (arith, high)) (is_free (state_at t.units (rg * t.units.group_units + i))) refl) in
          omega (arith, zero, some)

-- ---- a pass that took a unit

begun-taken : (victim : ℕ) (o : Option Pass) → (option_map_or (λ (pass : Pass). pass) o (begun victim)).took_unit ≡ option_map_or (λ (pass : Pass). pass.took_unit) o false
begun-taken victim None = refl
begun-taken victim (Some pass) = refl

-- the use of a page, and a copy more, leave it as it is
pub used-taken : (p passes : GroupPasses) (t now : UnitTable) (lane : Lane) (unit : ℕ) → UsesPage p passes t now lane unit → has_taken passes ≡ has_taken p
used-taken p passes t now lane unit h = ap has_taken h.passes ∙ chosen (is_closed (state_at now unit)) where
  chosen : (b : Bool) → has_taken (if b then with_target lane None p else p) ≡ has_taken p
  chosen true = refl
  chosen false = refl

pub added-taken : (s now : Relocation) (lane : Lane) (copy : Copied) (h : AddsCopy s now lane copy) → has_taken now.passes ≡ has_taken s.passes
added-taken s now lane copy h = ap has_taken h.copied ∙ more h.passes.pass ∙ used-taken s.passes h.passes s.units now.units lane copy.to.unit h.used where
  more : (o : Option Pass) → option_map_or (λ (pass : Pass). pass.took_unit) (option_map (with_copy copy) o) false ≡ option_map_or (λ (pass : Pass). pass.took_unit) o false
  more None = refl
  more (Some pass) = refl

pub entered-taken : (p : GroupPasses) (victim : ℕ) → (pass_in p victim).took_unit ≡ has_taken p
entered-taken p victim = begun-taken victim p.pass
