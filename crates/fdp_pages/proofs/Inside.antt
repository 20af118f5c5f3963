-- What one group's relocation leaves as it was.
use Rattle.std.proofs.Common.{◌≡◌, ◌≢◌, ℕ, refl, ap, sym, ◌∙◌, arith, ⊎_elim}
use Rattle.std.proofs.lemmas.Bool.{cases_eq}
use Rattle.fdp_collector.proofs.Kept.{changed-here, changed-other, group-kept}
use Rattle.fdp_passes.specs.declared.lane.Lane.{Lane}
use Rattle.fdp_passes.specs.declared.lane.Lane.TheVariants.{Shared, Own}
use Rattle.fdp_passes.specs.GroupPasses.{slot_of}
use Rattle.fdp_units.specs.declared.data_unit.DataUnit.{DataUnit}
use Rattle.fdp_units.specs.declared.state.UnitState.TheVariants.{Referenced}
use Rattle.fdp_units.specs.UnitTable.{Changes, UnitTable, cut_of, group_in, state_at, unit_at}

-- the units of other groups, and those that handles fill
pub record StaysOutside (t new : UnitTable) (rg : ℕ) : Type 0 where
  pub cut : cut_of new ≡ cut_of t
  pub outside : (unit : ℕ) → group_in t unit ≢ rg → unit_at new unit ≡ unit_at t unit
  pub referenced : (unit : ℕ) → state_at t unit ≡ Referenced → unit_at new unit ≡ unit_at t unit
  pub back : (unit : ℕ) → state_at new unit ≡ Referenced → state_at t unit ≡ Referenced

pub stays-on : (a b c : UnitTable) (rg : ℕ) → StaysOutside a b rg → StaysOutside b c rg → StaysOutside a c rg
stays-on a b c rg h k = record {
  cut = k.cut ∙ h.cut;
  outside = λ unit ne. k.outside unit (λ is. ne (sym (group-kept a b unit (group_in a unit) h.cut refl) ∙ is)) ∙ h.outside unit ne;
  referenced = λ unit is. let was = h.referenced unit is in k.referenced unit (ap (λ (x : DataUnit). x.state) was ∙ is) ∙ was;
  back = λ unit is. h.back unit (k.back unit is);
}

pub same-stays : (t new : UnitTable) (rg : ℕ) → cut_of new ≡ cut_of t → unit_at new ≡ unit_at t → StaysOutside t new rg
same-stays t new rg cut same = record {
  cut = cut;
  outside = λ unit ne. ap (λ (f : ℕ → DataUnit). f unit) same;
  referenced = λ unit is. ap (λ (f : ℕ → DataUnit). f unit) same;
  back = λ unit is. ap (λ (f : ℕ → DataUnit). (f unit).state) (sym same) ∙ is;
}

pub change-stays : (t new : UnitTable) (rg unit : ℕ) (y : DataUnit) → Changes t new unit y → group_in t unit ≡ rg → (state_at t unit ≡ Referenced → ⊥) → (y.state ≡ Referenced → ⊥) → StaysOutside t new rg
change-stays t new rg unit y change group was now = record {
  cut = change.cut;
  outside = λ u ne. changed-other t new unit u y change (λ same. ne (ap (group_in t) same ∙ group));
  referenced = λ u is. changed-other t new unit u y change (λ same. was (ap (state_at t) (sym same) ∙ is));
  back = λ u is. ⊎_elim
      (λ (same : u ≡ unit). absurd (now (ap (λ (x : DataUnit). x.state) (sym (changed-here t new unit y change)) ∙ ap (state_at new) (sym same) ∙ is)))
      (λ (ne : u ≢ unit). ap (λ (x : DataUnit). x.state) (sym (changed-other t new unit u y change ne)) ∙ is)
      (cases_eq u unit);
}

-- lanes that stand at one place are one
pub slot-one : (a b : Lane) → slot_of a ≡ slot_of b → a ≡ b
slot-one Shared Shared e = refl
slot-one Shared (Own r) e = absurd (omega (arith, e))
slot-one (Own r) Shared e = absurd (omega (arith, e))
slot-one (Own r) (Own q) e = let same : r ≡ q = omega (arith, e) in ap (λ (k : ℕ). Own k) same
