-- Who holds the open units, and how the live pages of a group follow its units.
use Rattle.std.proofs.Common.{◌≡◌, ◌≢◌, ℕ, ◌+◌, ◌*◌, ◌%◌, ◌<◌, Some, refl, ap, sym, ◌∙◌, arith, length, mod-lt}
use Rattle.std.specs.Prelude.{IsTrue, slice_index_or}
use Rattle.std.proofs.lemmas.Option.{get_or_from_slice_get, slice_get_within}
use Rattle.fdp_base.specs.declared.config.Class.{Class}
use Rattle.fdp_base.specs.declared.config.Class.TheVariants.{Initial}
use Rattle.fdp_base.proofs.Sums.{sum_from, sum_from-one, sum_from-same}
use Rattle.fdp_collector.proofs.Kept.{changed-here, changed-other}
use Rattle.fdp_pages.specs.Joined.{AreJoined}
use Rattle.fdp_pages.specs.PageTables.{PageTables, passes_at, target_of, unit_of}
use Rattle.fdp_pages.proofs.Places.{no}
use Rattle.fdp_passes.specs.GroupPasses.{lane_of, target_at}
use Rattle.fdp_units.specs.declared.data_unit.DataUnit.{DataUnit}
use Rattle.fdp_units.specs.declared.state.UnitState.{UnitState}
use Rattle.fdp_units.specs.declared.state.UnitState.TheVariants.{Free, Referenced, Target, Closed, Retired, Aside}
use Rattle.fdp_units.specs.DataUnits.{is_referenced, is_target}
use Rattle.fdp_units.specs.UnitTable.{Changes, Cut, IsGroup, IsUnit, UnitTable, group_in, live_at, state_at, unit_at}
use Rattle.fdp_units.proofs.Tables.{group-of-place, number-of, some-units}

-- ---- who holds a unit

referenced-is : (s : UnitState) → IsTrue (is_referenced s) → s ≡ Referenced
referenced-is Free e = absurd (no e)
referenced-is Referenced e = refl
referenced-is Target e = absurd (no e)
referenced-is Closed e = absurd (no e)
referenced-is Retired e = absurd (no e)
referenced-is Aside e = absurd (no e)

target-is : (s : UnitState) → IsTrue (is_target s) → s ≡ Target
target-is Free e = absurd (no e)
target-is Referenced e = absurd (no e)
target-is Target e = refl
target-is Closed e = absurd (no e)
target-is Retired e = absurd (no e)
target-is Aside e = absurd (no e)

pub referenced-held : (t : PageTables) (rg unit : ℕ) → AreJoined t → IsUnit t.units unit → group_in t.units unit ≡ rg → IsTrue (is_referenced (state_at t.units unit)) → (ruh : ℕ) × (ruh < length t.handles.classes) × (unit_of t rg ruh ≡ Some unit)
referenced-held t rg unit was is group stands =
    let held = was.filled.filled unit is (referenced-is (state_at t.units unit) stands) in
    (held.0, held.1, ap (λ (k : ℕ). unit_of t k held.0) (sym group) ∙ held.2)

pub target-held : (t : PageTables) (rg unit : ℕ) → AreJoined t → IsGroup t.units rg → IsUnit t.units unit → group_in t.units unit ≡ rg → IsTrue (is_target (state_at t.units unit)) → (ruh : ℕ) × (ruh < length t.handles.classes) × (target_of t rg ruh ≡ Some unit)
target-held t rg unit was there is group stands =
    let own = (was.groups rg there).targeted.targeted unit (record { is_unit = is; group = group; stands = target-is (state_at t.units unit) stands }) in
    let way = (was.groups rg there).targeted.lanes unit own.0 own.1 in
    let class : slice_index_or t.handles.classes way.0 Initial ≡ way.1 = get_or_from_slice_get t.handles.classes way.0 way.1 Initial way.2 in
    (way.0, slice_get_within t.handles.classes way.0 way.1 way.2, ap (λ (c : Class). target_at (passes_at t rg) (lane_of c way.0)) class ∙ ap (target_at (passes_at t rg)) way.3 ∙ own.1)

-- ---- live pages of a group

module _ (t new : UnitTable) (unit : ℕ) (x : DataUnit) (change : Changes t new unit x) where
  abbrev lives : UnitTable → ℕ → ℕ → ℕ
  lives u rg i = (unit_at u (rg * t.group_units + i)).live

  live-new : (rg : ℕ) → live_at new rg ≡ sum_from (lives new rg) 0 t.group_units
  live-new rg = ap (λ (k : Cut). sum_from (λ i. (unit_at new (rg * k.group_units + i)).live) 0 k.group_units) change.cut

  pub live-own : IsUnit t unit → live_at new (group_in t unit) + (unit_at t unit).live ≡ live_at t (group_in t unit) + x.live
  live-own is =
      let rg : ℕ = group_in t unit in
      let number : unit ≡ rg * t.group_units + unit % t.group_units = number-of t rg unit refl in
      let one : sum_from (lives new rg) 0 t.group_units + lives t rg (unit % t.group_units) ≡ sum_from (lives t rg) 0 t.group_units + lives new rg (unit % t.group_units) =
      sum_from-one (lives new rg) (lives t rg) 0 t.group_units (unit % t.group_units) (omega arith) (omega (arith, mod-lt unit (some-units t unit is)))
      (λ i ne. ap (λ (y : DataUnit). y.live) (changed-other t new unit (rg * t.group_units + i) x change (λ same. apart rg i ne (same ∙ number)))) in
      let was : lives t rg (unit % t.group_units) ≡ (unit_at t unit).live = ap (λ (n : ℕ). (unit_at t n).live) (sym number) in
      let now : lives new rg (unit % t.group_units) ≡ x.live = ap (λ (n : ℕ). (unit_at new n).live) (sym number) ∙ ap (λ (y : DataUnit). y.live) (changed-here t new unit x change) in
      omega (arith, live-new rg, one, was, now) where
        apart : (rg i : ℕ) → i ≢ unit % t.group_units → rg * t.group_units + i ≡ rg * t.group_units + unit % t.group_units → ⊥
        apart rg i ne same = ne (omega (arith, same))

  pub live-others : (rg : ℕ) → group_in t unit ≢ rg → live_at new rg ≡ live_at t rg
  live-others rg ne =
      live-new rg
      ∙ sum_from-same (lives new rg) (lives t rg) 0 t.group_units
      (λ i low high. ap (λ (y : DataUnit). y.live) (changed-other t new unit (rg * t.group_units + i) x change (λ same. ne (ap (group_in t) (sym same) ∙ group-of-place t rg i (omega (arith, high))))))
