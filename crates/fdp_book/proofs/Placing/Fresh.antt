-- The page that a handle uses next.
use Rattle.std.proofs.Common.{◌≡◌, ◌≢◌, ℕ, ◌+◌, ◌≤◌, ◌<◌, Option, Some, None, refl, sym, ◌∙◌, ap, subst, arith}
use Rattle.std.specs.Prelude.{IfSome, IsFalse, IsTrue, MatchOption}
use Rattle.fdp_base.specs.declared.entry.Spot.{Spot}
use Rattle.fdp_readings.specs.fdp_locations.Located.{next_in}
use Rattle.fdp_readings.specs.fdp_pages.Joined.{AreJoined, Fills}
use Rattle.fdp_readings.specs.fdp_pages.PageTables.{PageTables, left_of, passes_at, unit_of}
use Rattle.fdp_readings.specs.fdp_pages.Steps.{MayPut}
use Rattle.fdp_passes.specs.GroupPasses.{Pass}
use Rattle.fdp_units.specs.declared.state.UnitState.{UnitState}
use Rattle.fdp_units.specs.declared.state.UnitState.TheVariants.{Free, Referenced, Target, Closed, Retired, Aside}
use Rattle.fdp_units.specs.DataUnits.{is_free, is_lost}
use Rattle.fdp_units.specs.UnitTable.{IsFreeUnit, IsGroup, IsUnit, group_in, state_at}

-- it is the next page of a unit of the group that is free or referenced
pub record IsFreshPage (t : PageTables) (rg : ℕ) (spot : Spot) : Type 0 where
  pub is_unit : IsUnit t.units spot.unit
  pub group : group_in t.units spot.unit ≡ rg
  pub within : spot.page < t.units.unit_pages
  pub fresh : spot.page ≡ next_in t.units spot.unit
  pub kept : IsFalse (is_lost (state_at t.units spot.unit))
  pub unclosed : state_at t.units spot.unit ≢ Closed

free-kept : (x : UnitState) → IsTrue (is_free x) → IsFalse (is_lost x) × (x ≢ Closed)
free-kept Free e = (refl, λ same. absurd cc)
free-kept Referenced e = absurd cc
free-kept Target e = absurd cc
free-kept Closed e = absurd cc
free-kept Retired e = absurd cc
free-kept Aside e = absurd cc

referenced-kept : (x : UnitState) → x ≡ Referenced → IsFalse (is_lost x) × (x ≢ Closed)
referenced-kept x e = (ap is_lost e, λ same. apart (sym e ∙ same))
  where
    apart : Referenced ≡ Closed → ⊥
    apart e = cc

pub fresh-page : (t : PageTables) (rg ruh : ℕ) (spot : Spot) → AreJoined t → MayPut t rg ruh spot → IsFreshPage t rg spot
fresh-page t rg ruh spot h may = from (unit_of t rg ruh) refl may.page
  where
    from : (o : Option ℕ) → unit_of t rg ruh ≡ o → MatchOption o (IsFreeUnit t.units rg spot.unit × (spot.page ≡ 0)) (λ unit. (spot.unit ≡ unit) × (spot.page + left_of t rg ruh ≡ t.units.unit_pages)) → IsFreshPage t rg spot
    from None none page =
        let free = free-kept (state_at t.units spot.unit) page.0.free in
        record { is_unit = page.0.is_unit; group = page.0.group; within = omega (arith, page.1, h.cut.some_page); fresh = page.1 ∙ sym (h.live.unused spot.unit page.0.free); kept = free.0; unclosed = free.1 }
    from (Some unit) some page =
        let fills : Fills t.handles t.units t.owners rg ruh spot.unit = subst (Fills t.handles t.units t.owners rg ruh) (sym page.0) (h.filled.fills rg ruh unit some) in
        let left : 1 ≤ left_of t rg ruh = fills.some_left in
        let referenced = referenced-kept (state_at t.units spot.unit) fills.stands.stands in
        record { is_unit = fills.stands.is_unit; group = fills.stands.group; within = omega (arith, page.1, left); fresh = omega (arith, page.1, fills.left); kept = referenced.0; unclosed = referenced.1 }

-- no pass empties its unit
pub fresh-apart : (t : PageTables) (rg k : ℕ) (spot : Spot) → AreJoined t → IsFreshPage t rg spot → IsGroup t.units k → IfSome (passes_at t k).pass (λ (pass : Pass). spot.unit ≢ pass.victim)
fresh-apart t rg k spot h fresh group =
    (elim (passes_at t k).pass as (λ (o : Option Pass). (passes_at t k).pass ≡ o → IfSome o (λ (pass : Pass). spot.unit ≢ pass.victim)) [
      | None ↦ λ e. tt
      | Some pass ↦ λ e. λ same. fresh.unclosed (ap (state_at t.units) same ∙ ((h.groups k group).ready.victim pass e).stands)
    ]) refl
