-- Units that are left by handles and by relocation: what stands behind their pages stays.
use Rattle.std.proofs.Common.{◌≡◌, ℕ, ◌*◌, ◌<◌, true, false, List, Option, refl, sym, ◌∙◌, ap, inl, subst, ⊎_elim}
use Rattle.fdp_base.specs.declared.config.Geometry.{Geometry}
use Rattle.fdp_base.specs.declared.entry.Spot.{Spot}
use Rattle.fdp_pages.specs.fdp_collector.Ready.{IsBlankBehind}
use Rattle.fdp_flash.specs.declared.cell.Cell.{Cell}
use Rattle.fdp_flash.specs.Cells.{IsBlankFrom}
use Rattle.fdp_locations.specs.Located.{next_in}
use Rattle.fdp_locations.specs.Stored.{HoldsWritten}
use Rattle.fdp_locations.specs.Written.{Written}
use Rattle.fdp_locations.proofs.Units.{AreLostAlike}
use Rattle.fdp_pages.specs.PageTables.{PageTables}
use Rattle.fdp_pages.specs.Steps.{IsLeft, LeavesUnits}
use Rattle.fdp_units.specs.declared.data_unit.DataUnit.{DataUnit}
use Rattle.fdp_units.specs.declared.state.UnitState.{UnitState}
use Rattle.fdp_units.specs.declared.state.UnitState.TheVariants.{Free, Referenced, Target, Closed, Retired, Aside}
use Rattle.fdp_units.specs.DataUnits.{is_lost, is_open}
use Rattle.fdp_units.specs.UnitTable.{Cut, IsUnit, state_at, unit_at}

-- an open unit is not lost
open-unlost : (state : UnitState) → is_open state ≡ true → is_lost state ≡ false
open-unlost Free e = absurd cc
open-unlost Referenced e = refl
open-unlost Target e = refl
open-unlost Closed e = absurd cc
open-unlost Retired e = absurd cc
open-unlost Aside e = absurd cc

left-unit-next : (old new : DataUnit) → IsLeft old new → new.next ≡ old.next
left-unit-next old new h = ⊎_elim (λ (same : new ≡ old). ap (λ (x : DataUnit). x.next) same) (λ closed. ap (λ (x : DataUnit). x.next) closed.1) h

left-unit-lost : (old new : DataUnit) → IsLeft old new → is_lost new.state ≡ is_lost old.state
left-unit-lost old new h = ⊎_elim
    (λ (same : new ≡ old). ap (λ (x : DataUnit). is_lost x.state) same)
    (λ closed. ap (λ (x : DataUnit). is_lost x.state) closed.1 ∙ sym (open-unlost old.state closed.0))
    h

-- where nothing changes none is left
pub left-none : (t : PageTables) → LeavesUnits t t
left-none t = record { owners = refl; cut = refl; units = λ unit. inl refl; worn = refl; handles = λ rg ruh. inl refl; passes = λ rg. refl; targets = λ rg lane. inl refl }

-- the next page of each unit stays
pub left-next : (t now : PageTables) → LeavesUnits t now → (unit : ℕ) → next_in now.units unit ≡ next_in t.units unit
left-next t now h unit = left-unit-next (unit_at t.units unit) (unit_at now.units unit) (h.units unit)

-- and the same units are out of use
pub left-alike : (t now : PageTables) → LeavesUnits t now → AreLostAlike t.units now.units
left-alike t now h = record {
  cut = h.cut;
  lost = λ unit there. left-unit-lost (unit_at t.units unit) (unit_at now.units unit) (h.units unit);
  worn = h.worn;
}

-- a flash that held what was written holds it still
pub holds-left : (g : Geometry) (cells : List Cell) (written : Spot → Option Written) (t now : PageTables) → LeavesUnits t now → HoldsWritten g cells written t.units → HoldsWritten g cells written now.units
holds-left g cells written t now h holds = record { lie = holds.lie; whole = holds.whole; blank = blank } where
  blank : IsBlankBehind g cells now.units
  blank unit there kept =
      let lies : IsUnit t.units unit = subst (λ (x : Cut). unit < x.groups * x.group_units) h.cut there in
      let lost : is_lost (state_at t.units unit) ≡ false = sym (left-unit-lost (unit_at t.units unit) (unit_at now.units unit) (h.units unit)) ∙ kept in
      subst (λ (next : ℕ). IsBlankFrom g cells (record { unit = unit; page = next })) (sym (left-next t now h unit)) (holds.blank unit lies lost)
