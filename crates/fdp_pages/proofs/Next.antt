-- The page that a handle uses next.
use Rattle.std.proofs.Common.{◌≡◌, ℕ, ◌+◌, ◌<◌, ◌≤◌, Bool, true, Option, Some, None, refl, ap, sym, ◌∙◌, arith}
use Rattle.std.specs.Prelude.{◌||◌, IsTrue, MatchOption, is_some}
use Rattle.fdp_base.specs.declared.entry.Spot.{Spot}
use Rattle.fdp_handles.specs.HandleTable.{MayTake, reference_at}
use Rattle.fdp_owners.specs.declared.owner.Owner.{Owner}
use Rattle.fdp_owners.specs.OwnerTable.{owner_at}
use Rattle.fdp_pages.specs.Joined.{AreJoined}
use Rattle.fdp_pages.specs.PageTables.{PageTables, left_of, unit_of}
use Rattle.fdp_pages.specs.Steps.{MayPut}
use Rattle.fdp_pages.proofs.Places.{never, no, one}
use Rattle.fdp_units.specs.declared.state.UnitState.{UnitState}
use Rattle.fdp_units.specs.declared.state.UnitState.TheVariants.{Referenced}
use Rattle.fdp_units.specs.DataUnits.{is_free, is_referenced}
use Rattle.fdp_units.specs.UnitTable.{IsFreeUnit, IsUnit, group_in, state_at, unit_at}

pub record IsNextPage (t : PageTables) (rg ruh : ℕ) (spot : Spot) : Type 0 where
  pub is_unit : IsUnit t.units spot.unit
  pub group : group_in t.units spot.unit ≡ rg
  pub state : IsTrue (is_free (state_at t.units spot.unit) || is_referenced (state_at t.units spot.unit))
  pub page : spot.page ≡ (unit_at t.units spot.unit).next
  pub left : (unit_at t.units spot.unit).next + left_of t rg ruh ≡ t.units.unit_pages
  pub some_left : 1 ≤ left_of t rg ruh
  pub own : (at : Spot) (x : Owner) → at.unit ≡ spot.unit → owner_at t.owners at ≡ Some x → x.spare.ruh ≡ ruh
  pub only : (unit : ℕ) → unit_of t rg ruh ≡ Some unit → unit ≡ spot.unit
  pub apart : (other : ℕ) → unit_of t rg other ≡ Some spot.unit → ruh ≡ other

or-first : (a b : Bool) → a ≡ true → (a || b) ≡ true
or-first a b e = ap (λ (k : Bool). k || b) e

pub referenced-or : (s : UnitState) → s ≡ Referenced → IsTrue (is_free s || is_referenced s)
referenced-or s e = ap (λ (k : UnitState). is_free k || is_referenced k) e

free-apart : (s : UnitState) → IsTrue (is_free s) → s ≡ Referenced → ⊥
free-apart s free e = no (sym (ap is_free e) ∙ free)

pub next-page : (t : PageTables) (rg ruh : ℕ) (spot : Spot) → AreJoined t → MayPut t rg ruh spot → IsNextPage t rg ruh spot
next-page t rg ruh spot was may = cases (unit_of t rg ruh) refl may.page where
  cases : (r : Option ℕ) → unit_of t rg ruh ≡ r → MatchOption r (IsFreeUnit t.units rg spot.unit × (spot.page ≡ 0)) (λ (unit : ℕ). (spot.unit ≡ unit) × (spot.page + left_of t rg ruh ≡ t.units.unit_pages)) → IsNextPage t rg ruh spot
  cases None e h =
      let next : (unit_at t.units spot.unit).next ≡ 0 = was.live.unused spot.unit h.0.free in
      let left : left_of t rg ruh ≡ t.units.unit_pages = was.filled.whole rg ruh e in
      let some : 1 ≤ t.units.unit_pages = was.cut.some_page in
      record {
        is_unit = h.0.is_unit;
        group = h.0.group;
        state = or-first (is_free (state_at t.units spot.unit)) (is_referenced (state_at t.units spot.unit)) h.0.free;
        page = h.1 ∙ sym next;
        left = omega (arith, next, left);
        some_left = omega (arith, left, some);
        own = λ at x same owned.
            let used : at.page < (unit_at t.units at.unit).next = was.live.used at (ap is_some owned) in
            let none : (unit_at t.units at.unit).next ≡ 0 = ap (λ (u : ℕ). (unit_at t.units u).next) same ∙ next in
            absurd (omega (arith, used, none));
        only = λ unit f. absurd (never unit (sym e ∙ f));
        apart = λ other f. absurd (free-apart (state_at t.units spot.unit) h.0.free (was.filled.fills rg other spot.unit f).stands.stands);
      }
  cases (Some unit) e h =
      let f = was.filled.fills rg ruh spot.unit (e ∙ ap (λ (u : ℕ). Some u) (sym h.0)) in
      let total : (unit_at t.units spot.unit).next + left_of t rg ruh ≡ t.units.unit_pages = f.left in
      let sum : spot.page + left_of t rg ruh ≡ t.units.unit_pages = h.1 in
      record {
        is_unit = f.stands.is_unit;
        group = f.stands.group;
        state = referenced-or (state_at t.units spot.unit) f.stands.stands;
        page = omega (arith, total, sum);
        left = total;
        some_left = f.some_left;
        own = f.own;
        only = λ other g. sym (one (sym e ∙ g)) ∙ sym h.0;
        apart = λ other g. was.filled.apart rg ruh other spot.unit (e ∙ ap (λ (u : ℕ). Some u) (sym h.0)) g;
      }

-- the handle may take its unit
pub may-take : (t : PageTables) (rg ruh : ℕ) (spot : Spot) → IsNextPage t rg ruh spot → MayTake spot.unit (reference_at t.handles rg ruh)
may-take t rg ruh spot h = h.only
