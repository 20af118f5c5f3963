-- The target that a copy gets.
use Rattle.std.proofs.Common.{◌≡◌, ℕ, zero, suc, ◌+◌, ◌-◌, ◌<◌, ◌≤◌, Bool, true, false, List, [], ◌∷◌, Option, Some, None, get_or, set, refl, ap, sym, ◌∙◌, subst, ⊎_elim, eq-eqb, arith}
use Rattle.std.specs.Prelude.{IfSome, if◌then◌else◌}
use Rattle.std.specs.Option.{option_map_or}
use Rattle.fdp_base.specs.Numbers.{with_at}
use Rattle.fdp_passes.specs.declared.lane.Lane.{Lane}
use Rattle.fdp_passes.specs.GroupPasses.{GroupPasses, slot_of, target_at}
use Rattle.fdp_passes.specs.Place.{has_taken}
use Rattle.fdp_passes.specs.Room.{room_in}
use Rattle.fdp_passes.specs.Targets.{HasNoPlace, HasTarget, OpensTarget, Starves, TakesTarget, UsesPage, with_target}
use Rattle.fdp_units.specs.declared.data_unit.DataUnit.{DataUnit}
use Rattle.fdp_units.specs.declared.state.UnitState.TheVariants.{Target}
use Rattle.fdp_units.specs.DataUnits.{IsSound, is_closed, turned}
use Rattle.fdp_units.specs.UnitTable.{IsUnit, UnitTable, cut_of, is_worn_at, state_at, unit_at}

-- a target of a lane, if it has one, is a unit that gets copies
abbrev pub IsTargetUnit : GroupPasses → UnitTable → Lane → Type 0
IsTargetUnit p t lane = IfSome (target_at p lane) (λ (unit : ℕ). IsUnit t unit × (state_at t unit ≡ Target))

pub opened-unit : (p now : GroupPasses) (t new : UnitTable) (rg victim : ℕ) (lane : Lane) (unit : ℕ) → IsTargetUnit p t lane → OpensTarget p now t new rg victim lane unit → state_at new unit ≡ Target
opened-unit p now t new rg victim lane unit is = ⊎_elim
    (λ (h : HasTarget p now t new victim lane unit).
    let own : IsUnit t unit × (state_at t unit ≡ Target) = subst (λ (o : Option ℕ). IfSome o (λ (u : ℕ). IsUnit t u × (state_at t u ≡ Target))) h.target is in
    ap (λ (u : UnitTable). state_at u unit) h.units ∙ own.1)
    (λ (h : TakesTarget p now t new rg victim lane unit).
    let turns : DataUnit = turned t.unit_pages Target (unit_at t unit) in
    ap (λ (units : ℕ → DataUnit). (units unit).state) h.taken.units ∙ ap (λ (b : Bool). (if b then turns else unit_at t unit).state) (eq-eqb unit unit refl))

-- a page is left in it
pub page-left : (pages : ℕ) (x : DataUnit) → IsSound pages x → x.state ≡ Target → x.next < pages
page-left pages x sound is = sound.room (rw is refl)

pub none-set : (xs : List (Option ℕ)) (n : ℕ) → get_or (set xs n None) n None ≡ None
none-set [] n = refl
none-set (x ∷ xs) zero = refl
none-set (x ∷ xs) (suc n) = none-set xs n

-- after a page of it was used a lane has this target still, or none
pub used-target : (p now : GroupPasses) (t new : UnitTable) (lane : Lane) (unit : ℕ) → target_at p lane ≡ Some unit → UsesPage p now t new lane unit → IfSome (target_at now lane) (λ (u : ℕ). u ≡ unit)
used-target p now t new lane unit is h = cases (is_closed (state_at new unit)) refl where
  cases : (b : Bool) → is_closed (state_at new unit) ≡ b → IfSome (target_at now lane) (λ (u : ℕ). u ≡ unit)
  cases true closed =
      let none : target_at now lane ≡ None = ap (λ (x : GroupPasses). target_at x lane) (h.passes ∙ ap (λ (b : Bool). if b then with_target lane None p else p) closed) ∙ none-set p.targets (slot_of lane) in
      subst (λ (o : Option ℕ). IfSome o (λ (u : ℕ). u ≡ unit)) (sym none) _
  cases false stays =
      let same : target_at now lane ≡ Some unit = ap (λ (x : GroupPasses). target_at x lane) (h.passes ∙ ap (λ (b : Bool). if b then with_target lane None p else p) stays) ∙ is in
      subst (λ (o : Option ℕ). IfSome o (λ (u : ℕ). u ≡ unit)) (sym same) refl

-- a lane without a target whose pass has pages left to use took no unit before
first-taken : (p : GroupPasses) (t : UnitTable) (lane : Lane) (b : Bool) → target_at p lane ≡ None → has_taken p ≡ b → 1 ≤ room_in p t lane → b ≡ false
first-taken p t lane false none is room = refl
first-taken p t lane true none is room =
    let left : room_in p t lane ≡ 0 =
    ap (λ (o : Option ℕ). option_map_or (λ unit. t.unit_pages - (unit_at t unit).next) o 0 + (if has_taken p then 0 else t.unit_pages)) none
    ∙ ap (λ (b : Bool). 0 + (if b then 0 else t.unit_pages)) is in
    absurd (omega (arith, left, room))

-- the group is worn and the pass given up where no page can be had
pub starves : (p now : GroupPasses) (t new : UnitTable) (rg : ℕ) (lane : Lane) → 1 ≤ room_in p t lane → HasNoPlace p t rg lane → now ≡ record p { pass = None } → unit_at new ≡ unit_at t → cut_of new ≡ cut_of t → is_worn_at new ≡ with_at (is_worn_at t) rg true → Starves p now t new rg lane
starves p now t new rg lane room none passes units cut worn = record {
  none = none.none;
  first = first-taken p t lane (has_taken p) none.none refl room;
  free = none.free;
  passes = passes;
  units = units;
  cut = cut;
  worn = worn;
}
