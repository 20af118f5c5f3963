-- What the erase of a victim makes of the toil of its group.
use Rattle.std.proofs.Common.{◌≡◌, ℕ, ◌+◌, List, refl, ap, arith}
use Rattle.fdp_base.specs.declared.config.Class.{Class}
use Rattle.fdp_keeper.specs.fdp_collector.Ready.{IsReady, Relocation}
use Rattle.fdp_keeper.proofs.fdp_collector.Readied.{emptied-unit, emptied-unused}
use Rattle.fdp_owners.specs.OwnerTable.{OwnerTable}
use Rattle.fdp_passes.specs.declared.due.Due.TheVariants as due
use Rattle.fdp_passes.specs.Due.{IsDue}
use Rattle.fdp_keeper.proofs.fdp_trails.Gaining.{gain-erased, toil-one}
use Rattle.fdp_units.specs.declared.data_unit.DataUnit.{DataUnit}
use Rattle.fdp_units.specs.declared.state.UnitState.TheVariants.{Free}
use Rattle.fdp_units.specs.DataUnits.{turned}
use Rattle.fdp_units.specs.UnitTable.{Changes, group_in, toil_of, unit_at}

-- the toil falls by the pages of the unit
pub erased-toil : (s now : Relocation) (o : OwnerTable) (classes : List Class) (rg unit : ℕ) → IsReady s o classes rg → IsDue s.passes s.units o rg (due.Erase unit) → Changes s.units now.units unit (turned s.units.unit_pages Free (unit_at s.units unit)) →
    toil_of now.units rg + s.units.unit_pages ≡ toil_of s.units rg
erased-toil s now o classes rg unit ready is becomes =
    let stands = emptied-unit s o classes rg unit ready is.0 in
    let x : DataUnit = unit_at s.units unit in
    let empty : x.live ≡ 0 = emptied-unused s o classes rg unit ready stands.is_unit is.2 in
    let one = toil-one s.units now.units unit (turned s.units.unit_pages Free x) stands.is_unit becomes in
    let less = gain-erased s.units.unit_pages x Free stands.stands empty refl in
    let was : toil_of s.units (group_in s.units unit) ≡ toil_of s.units rg = ap (toil_of s.units) stands.group in
    let new : toil_of now.units (group_in s.units unit) ≡ toil_of now.units rg = ap (toil_of now.units) stands.group in
    omega (arith, one, less, was, new)
