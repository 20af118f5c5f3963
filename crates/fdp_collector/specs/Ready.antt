-- What relocation finds in a group before each of its steps.
use Rattle.std.specs.Prelude.{◌≡◌, ℕ, ◌≤◌, ◌<◌, IsFalse, IsSome, IsTrue, List, None, Some, length, slice_get, slice_index_or}
use Rattle.fdp_base.specs.declared.config.Class.{Class}
use Rattle.fdp_base.specs.declared.config.Class.TheVariants.{Initial}
use Rattle.fdp_base.specs.declared.config.Geometry.{Geometry}
use Rattle.fdp_base.specs.declared.entry.Spot.{Spot}
use Rattle.fdp_base.specs.Spare.{data_spare}
use Rattle.fdp_collector.specs.Copying.{Holds}
use Rattle.fdp_flash.specs.declared.cell.Cell.{Cell}
use Rattle.fdp_flash.specs.Cells.{IsBlankFrom}
use Rattle.fdp_flash.specs.Layout.{page_number}
use Rattle.fdp_owners.specs.declared.owner.Owner.{Owner}
use Rattle.fdp_owners.specs.OwnerTable.{OwnerTable, live_in, owner_at}
use Rattle.fdp_passes.specs.declared.lane.Lane.{Lane}
use Rattle.fdp_passes.specs.Due.{AreOfOneCut, HasCopied}
use Rattle.fdp_passes.specs.GroupPasses.{GroupPasses, IsLane, Pass, lane_of, target_at}
use Rattle.fdp_passes.specs.Room.{room_in, wanted_in}
use Rattle.fdp_units.specs.declared.state.UnitState.{UnitState}
use Rattle.fdp_units.specs.declared.state.UnitState.TheVariants.{Closed, Target}
use Rattle.fdp_units.specs.DataUnits.{is_free, is_lost}
use Rattle.fdp_units.specs.UnitTable.{IsUnit, UnitTable, group_in, state_at, unit_at}

-- the relocation of a group, with the units of all groups
pub record Relocation : Type 0 where
  pub passes : GroupPasses
  pub units : UnitTable

-- a unit of a group, in this state
pub record IsUnitOf (t : UnitTable) (rg unit : ℕ) (state : UnitState) : Type 0 where
  pub is_unit : IsUnit t unit
  pub group : group_in t unit ≡ rg
  pub stands : state_at t unit ≡ state

-- the targets of a group are units of it that get copies, and no two lanes have the same
pub record AreTargets (p : GroupPasses) (t : UnitTable) (rg : ℕ) : Type 0 where
  pub targets : (slot unit : ℕ) → slice_index_or p.targets slot None ≡ Some unit → IsUnitOf t rg unit Target
  pub apart : (slot other unit : ℕ) → slice_index_or p.targets slot None ≡ Some unit → slice_index_or p.targets other None ≡ Some unit → slot ≡ other

-- a live page was used, the live pages of each unit are counted, and a free unit has no page that was used
pub record AreLive (t : UnitTable) (o : OwnerTable) : Type 0 where
  pub there : (spot : Spot) → IsSome (owner_at o spot) → IsUnit t spot.unit
  pub used : (spot : Spot) → IsSome (owner_at o spot) → spot.page < (unit_at t spot.unit).next
  pub counted : (unit : ℕ) → IsUnit t unit → (unit_at t unit).live ≡ live_in o unit
  pub unused : (unit : ℕ) → IsTrue (is_free (state_at t unit)) → (unit_at t unit).next ≡ 0

-- where the copy of a page goes: by the class of the handle that its spare names
abbrev pub lane_at : List Class → Owner → Lane
lane_at classes x = lane_of (slice_index_or classes x.spare.ruh Initial) x.spare.ruh

-- each live page names a handle; those of one unit go one way
pub record HaveLanes (classes : List Class) (o : OwnerTable) : Type 0 where
  pub few : length classes ≤ 16
  pub handles : (spot : Spot) (x : Owner) → owner_at o spot ≡ Some x → x.spare.ruh < length classes
  pub same : (spot other : Spot) (x y : Owner) → spot.unit ≡ other.unit → owner_at o spot ≡ Some x → owner_at o other ≡ Some y → lane_at classes x ≡ lane_at classes y

-- the pages that a pass may still use suffice for the live pages that it has to copy
abbrev pub HasEnough : GroupPasses → UnitTable → OwnerTable → List Class → Type 0
HasEnough p t o classes = (pass : Pass) (page : ℕ) (x : Owner) → p.pass ≡ Some pass → pass.next ≤ page → owner_at o (record { unit = pass.victim; page = page }) ≡ Some x → wanted_in p o ≤ room_in p t (lane_at classes x)

-- what stands before each step of relocation in a group: the pass under way empties a closed unit of it
pub record IsReady (s : Relocation) (o : OwnerTable) (classes : List Class) (rg : ℕ) : Type 0 where
  pub cut : AreOfOneCut s.passes s.units o
  pub victim : (pass : Pass) → s.passes.pass ≡ Some pass → IsUnitOf s.units rg pass.victim Closed
  pub copied : HasCopied s.passes o
  pub targets : AreTargets s.passes s.units rg
  pub live : AreLive s.units o
  pub lanes : HaveLanes classes o
  pub enough : HasEnough s.passes s.units o classes

-- the units are those of a flash
pub record AreOfFlash (t : UnitTable) (g : Geometry) : Type 0 where
  pub unit_pages : t.unit_pages ≡ g.unit_pages
  pub group_units : t.group_units ≡ g.units
  pub groups : length t.groups ≡ g.groups

-- each live page is whole, with the spare that its owner knows
abbrev pub HasData : Geometry → List Cell → OwnerTable → Type 0
HasData g cells o = (spot : Spot) (x : Owner) → owner_at o spot ≡ Some x → (bytes : List ℕ) × Holds g cells spot (data_spare x.spare) bytes

-- behind the pages that were used a unit is blank, unless it is lost
abbrev pub IsBlankBehind : Geometry → List Cell → UnitTable → Type 0
IsBlankBehind g cells t = (unit : ℕ) → IsUnit t unit → IsFalse (is_lost (state_at t unit)) → IsBlankFrom g cells (record { unit = unit; page = (unit_at t unit).next })

-- live pages hold their data, and what was not used is blank
pub record IsStored (g : Geometry) (cells : List Cell) (o : OwnerTable) (t : UnitTable) : Type 0 where
  pub live : HasData g cells o
  pub blank : IsBlankBehind g cells t

-- each live page is as it was
abbrev pub KeepsLive : Geometry → OwnerTable → List Cell → List Cell → Type 0
KeepsLive g o old new = (spot : Spot) → IsSome (owner_at o spot) → slice_get new (page_number g spot) ≡ slice_get old (page_number g spot)

-- what stands when a page was found for the copy of a live page: the pass empties the unit of the old page and goes on there or before,
-- and the new page is the next of the target of the lane
pub record IsOpen (s : Relocation) (o : OwnerTable) (lane : Lane) (from to : Spot) : Type 0 where
  pub cut : AreOfOneCut s.passes s.units o
  pub is_lane : IsLane lane
  pub pass : Pass
  pub under_way : s.passes.pass ≡ Some pass
  pub victim : pass.victim ≡ from.unit
  pub order : pass.next ≤ from.page
  pub old_unit : IsUnit s.units from.unit
  pub closed : state_at s.units from.unit ≡ Closed
  pub old_page : from.page < s.units.unit_pages
  pub target : target_at s.passes lane ≡ Some to.unit
  pub new_unit : IsUnit s.units to.unit
  pub opened : state_at s.units to.unit ≡ Target
  pub new_page : to.page < s.units.unit_pages
  pub unowned : owner_at o to ≡ None
