-- What stands before a step stands after it.
use Rattle.std.proofs.Common.{◌≡◌, ◌≢◌, ℕ, ◌*◌, ◌/◌, ◌<◌, Bool, List, Some, None, refl, ap, sym, ◌∙◌, subst, arith, eq-eqb, ne_eqb, ⊎_elim}
use Rattle.std.specs.Prelude.{IsTrue, IsSome, if◌then◌else◌}
use Rattle.std.proofs.lemmas.Bool.{cases_eq}
use Rattle.fdp_base.specs.declared.config.Class.{Class}
use Rattle.fdp_collector.specs.Ready.{AreLive, AreTargets, IsReady, IsUnitOf, Relocation}
use Rattle.fdp_owners.specs.OwnerTable.{OwnerTable, live_in, owner_at}
use Rattle.fdp_passes.specs.Due.{AreOfOneCut}
use Rattle.fdp_passes.specs.GroupPasses.{GroupPasses}
use Rattle.fdp_units.specs.declared.data_unit.DataUnit.{DataUnit}
use Rattle.fdp_units.specs.declared.state.UnitState.{UnitState}
use Rattle.fdp_units.specs.declared.state.UnitState.TheVariants.{Target, Closed}
use Rattle.fdp_units.specs.DataUnits.{is_free}
use Rattle.fdp_units.specs.UnitTable.{Changes, Cut, IsUnit, UnitTable, cut_of, group_in, state_at, unit_at}

-- ---- one unit becomes another

pub changed-here : (t new : UnitTable) (unit : ℕ) (y : DataUnit) → Changes t new unit y → unit_at new unit ≡ y
changed-here t new unit y h = ap (λ (units : ℕ → DataUnit). units unit) h.units ∙ ap (λ (b : Bool). if b then y else unit_at t unit) (eq-eqb unit unit refl)

pub changed-other : (t new : UnitTable) (unit other : ℕ) (y : DataUnit) → Changes t new unit y → other ≢ unit → unit_at new other ≡ unit_at t other
changed-other t new unit other y h ne = ap (λ (units : ℕ → DataUnit). units other) h.units ∙ ap (λ (b : Bool). if b then y else unit_at t other) (ne_eqb other unit ne)

pub unit-kept : (t new : UnitTable) (unit : ℕ) → cut_of new ≡ cut_of t → IsUnit t unit → IsUnit new unit
unit-kept t new unit cut is = subst (λ (k : Cut). unit < k.groups * k.group_units) (sym cut) is

pub unit-was : (t new : UnitTable) (unit : ℕ) → cut_of new ≡ cut_of t → IsUnit new unit → IsUnit t unit
unit-was t new unit cut is = subst (λ (k : Cut). unit < k.groups * k.group_units) cut is

pub group-kept : (t new : UnitTable) (unit rg : ℕ) → cut_of new ≡ cut_of t → group_in t unit ≡ rg → group_in new unit ≡ rg
group-kept t new unit rg cut is = ap (λ (k : Cut). unit / k.group_units) cut ∙ is

-- a unit of a group whose state stays is one still
pub unit-of-kept : (t new : UnitTable) (rg unit : ℕ) (state : UnitState) → cut_of new ≡ cut_of t → IsUnitOf t rg unit state → state_at new unit ≡ state_at t unit → IsUnitOf new rg unit state
unit-of-kept t new rg unit state cut h same = record { is_unit = unit-kept t new unit cut h.is_unit; group = group-kept t new unit rg cut h.group; stands = same ∙ h.stands }

-- ---- the tables are of one cut still

pub cut-kept : (p now : GroupPasses) (t new : UnitTable) (o : OwnerTable) → now.unit_pages ≡ p.unit_pages → cut_of new ≡ cut_of t → AreOfOneCut p t o → AreOfOneCut now new o
cut-kept p now t new o passes cut h = record {
  passes = passes ∙ h.passes ∙ sym (ap (λ (k : Cut). k.unit_pages) cut);
  owners = h.owners ∙ sym (ap (λ (k : Cut). k.unit_pages) cut);
  pages = h.pages ∙ sym (ap (λ (k : Cut). k.groups * k.group_units * k.unit_pages) cut);
}

-- ---- the pass is over, and one closed unit became another

-- what a unit becomes: it has the live pages that it had, below its next page; as a free one it has no page that was used
pub record EndsWell (o : OwnerTable) (unit : ℕ) (x y : DataUnit) : Type 0 where
  pub live : y.live ≡ x.live
  pub used : (page : ℕ) → IsSome (owner_at o (record { unit = unit; page = page })) → page < y.next
  pub unused : IsTrue (is_free y.state) → y.next ≡ 0

pub live-ended : (t new : UnitTable) (o : OwnerTable) (unit : ℕ) (y : DataUnit) → AreLive t o → Changes t new unit y → EndsWell o unit (unit_at t unit) y → AreLive new o
live-ended t new o unit y h change well = record {
  there = λ spot live. unit-kept t new spot.unit change.cut (h.there spot live);
  used = λ spot live. ⊎_elim
      (λ (same : spot.unit ≡ unit).
      let page : spot.page < y.next = well.used spot.page (subst (λ (u : ℕ). IsSome (owner_at o (record { unit = u; page = spot.page }))) same live) in
      let next : (unit_at new spot.unit).next ≡ y.next = ap (λ (u : ℕ). (unit_at new u).next) same ∙ ap (λ (z : DataUnit). z.next) (changed-here t new unit y change) in
      omega (arith, page, next))
      (λ (ne : spot.unit ≢ unit).
      let page : spot.page < (unit_at t spot.unit).next = h.used spot live in
      let next : (unit_at new spot.unit).next ≡ (unit_at t spot.unit).next = ap (λ (z : DataUnit). z.next) (changed-other t new unit spot.unit y change ne) in
      omega (arith, page, next))
      (cases_eq spot.unit unit);
  counted = λ u is. let was : (unit_at t u).live ≡ live_in o u = h.counted u (unit-was t new u change.cut is) in ⊎_elim
      (λ (same : u ≡ unit). ap (λ (k : ℕ). (unit_at new k).live) same ∙ ap (λ (z : DataUnit). z.live) (changed-here t new unit y change) ∙ well.live ∙ ap (λ (k : ℕ). (unit_at t k).live) (sym same) ∙ was)
      (λ (ne : u ≢ unit). ap (λ (z : DataUnit). z.live) (changed-other t new unit u y change ne) ∙ was)
      (cases_eq u unit);
  unused = λ u free. ⊎_elim
      (λ (same : u ≡ unit).
      let is : unit_at new u ≡ y = ap (unit_at new) same ∙ changed-here t new unit y change in
      ap (λ (z : DataUnit). z.next) is ∙ well.unused (ap (λ (z : DataUnit). is_free z.state) (sym is) ∙ free))
      (λ (ne : u ≢ unit).
      let is : unit_at new u ≡ unit_at t u = changed-other t new unit u y change ne in
      ap (λ (z : DataUnit). z.next) is ∙ h.unused u (ap (λ (z : DataUnit). is_free z.state) (sym is) ∙ free))
      (cases_eq u unit);
}

targets-ended : (p : GroupPasses) (t new : UnitTable) (rg unit : ℕ) (y : DataUnit) → AreTargets p t rg → Changes t new unit y → state_at t unit ≢ Target → AreTargets p new rg
targets-ended p t new rg unit y h change other = record {
  targets = λ slot u is.
      let was = h.targets slot u is in
      let ne : u ≢ unit = λ same. other (ap (state_at t) (sym same) ∙ was.stands) in
      unit-of-kept t new rg u Target change.cut was (ap (λ (z : DataUnit). z.state) (changed-other t new unit u y change ne));
  apart = h.apart;
}

pub never-some : {X : Type 0} (x : X) → None ≡ Some x → ⊥
never-some x e = cc

pub ended-ready : (s : Relocation) (now : Relocation) (o : OwnerTable) (classes : List Class) (rg unit : ℕ) (y : DataUnit) → IsReady s o classes rg → state_at s.units unit ≡ Closed → now.passes ≡ record s.passes { pass = None } → Changes s.units now.units unit y
    → EndsWell o unit (unit_at s.units unit) y → IsReady now o classes rg
ended-ready s now o classes rg unit y ready closed passes change well = subst (λ (p : GroupPasses). IsReady (record { passes = p; units = now.units }) o classes rg) (sym passes) (record {
  cut = cut-kept s.passes _ s.units now.units o refl change.cut ready.cut;
  victim = λ pass e. absurd (never-some pass e);
  copied = λ pass page e. absurd (never-some pass e);
  targets = let h = targets-ended s.passes s.units now.units rg unit y ready.targets change (λ is. apart (sym closed ∙ is)) in record { targets = h.targets; apart = h.apart };
  live = live-ended s.units now.units o unit y ready.live change well;
  lanes = ready.lanes;
  enough = λ pass page x e. absurd (never-some pass e);
}) where
  apart : Closed ≡ Target → ⊥
  apart e = cc
