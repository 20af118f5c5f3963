-- The data units of all groups, by number, and what is told of a group.
use Rattle.std.specs.Prelude.{◌≡◌, ℕ, ◌+◌, ◌*◌, ◌/◌, ◌%◌, ◌≤◌, ◌<◌, Bool, false, IsTrue, List, [], length, sum_by, slice_index_or, if◌then◌else◌}
use Rattle.fdp_base.specs.declared.config.DriveConfig.{DriveConfig}
use Rattle.fdp_base.specs.Numbers.{count_below, numbers_below, with_at}
use Rattle.fdp_rules.specs.PlainState.{PlainState}
use Rattle.fdp_units.specs.declared.data_unit.DataUnit.{DataUnit}
use Rattle.fdp_units.specs.declared.state.UnitState.{UnitState}
use Rattle.fdp_units.specs.DataUnits.{is_closed, is_free, is_lost, no_unit, gain_of}
use Rattle.fdp_units.specs.GroupTable.{GroupTable}

pub record UnitTable : Type 0 where
  pub unit_pages : ℕ
  -- the units of a group
  pub group_units : ℕ
  pub groups : List GroupTable

-- a group that is not there has no unit
abbrev pub no_group : GroupTable
no_group = record { unit_pages = 0; units = []; is_worn = false }

abbrev pub group_at : UnitTable → ℕ → GroupTable
group_at t rg = slice_index_or t.groups rg no_group

-- the group of a unit
abbrev pub group_in : UnitTable → ℕ → ℕ
group_in t unit = unit / t.group_units

-- a data unit by its number
abbrev pub unit_at : UnitTable → ℕ → DataUnit
unit_at t unit = slice_index_or (group_at t (group_in t unit)).units (unit % t.group_units) no_unit

abbrev pub state_at : UnitTable → ℕ → UnitState
state_at t unit = (unit_at t unit).state

-- relocation found no free unit in a group, which has had no erase since
abbrev pub is_worn_at : UnitTable → ℕ → Bool
is_worn_at t rg = (group_at t rg).is_worn

-- a group that is there
abbrev pub IsGroup : UnitTable → ℕ → Type 0
IsGroup t rg = rg < length t.groups

-- a unit that is there
abbrev pub IsUnit : UnitTable → ℕ → Type 0
IsUnit t unit = unit < length t.groups * t.group_units

-- how the units are cut
pub record Cut : Type 0 where
  pub unit_pages : ℕ
  pub group_units : ℕ
  pub groups : ℕ

abbrev pub cut_of : UnitTable → Cut
cut_of t = record { unit_pages = t.unit_pages; group_units = t.group_units; groups = length t.groups }

-- how many units of a group are in a state that passes a test
abbrev pub count_in : UnitTable → ℕ → (UnitState → Bool) → ℕ
count_in t rg test = count_below t.group_units (λ i. test (state_at t (rg * t.group_units + i)))

-- how many units of a group are out of use; in a worn group all count so
abbrev pub lost_at : UnitTable → ℕ → ℕ
lost_at t rg = if is_worn_at t rg then t.group_units else count_in t rg is_lost

-- the pages of a group's closed units that are not live, and those of its targets
abbrev pub toil_of : UnitTable → ℕ → ℕ
toil_of t rg = sum_by (λ i. gain_of t.unit_pages (unit_at t (rg * t.group_units + i))) (numbers_below t.group_units)

-- the live pages of a group's units
abbrev pub live_at : UnitTable → ℕ → ℕ
live_at t rg = sum_by (λ i. (unit_at t (rg * t.group_units + i)).live) (numbers_below t.group_units)

-- a closed unit of a group has a page that is not live
pub record IsCandidate (t : UnitTable) (rg unit : ℕ) : Type 0 where
  pub is_unit : IsUnit t unit
  pub group : group_in t unit ≡ rg
  pub closed : IsTrue (is_closed (state_at t unit))
  pub gains : (unit_at t unit).live < t.unit_pages

-- of these units none has fewer live pages, and none of a lower number as few
pub record IsVictim (t : UnitTable) (rg unit : ℕ) : Type 0 where
  pub candidate : IsCandidate t rg unit
  pub fewest : (other : ℕ) → IsCandidate t rg other → (unit_at t unit).live ≤ (unit_at t other).live
  pub lowest : (other : ℕ) → IsCandidate t rg other → (unit_at t other).live ≡ (unit_at t unit).live → unit ≤ other

-- each closed unit of a group is all live
abbrev pub HasNoVictim : UnitTable → ℕ → Type 0
HasNoVictim t rg = (unit : ℕ) → IsCandidate t rg unit → ⊥

-- a free unit of a group
pub record IsFreeUnit (t : UnitTable) (rg unit : ℕ) : Type 0 where
  pub is_unit : IsUnit t unit
  pub group : group_in t unit ≡ rg
  pub free : IsTrue (is_free (state_at t unit))

-- it is free, and no free one has a lower number
pub record IsLowestFree (t : UnitTable) (rg unit : ℕ) : Type 0 where
  pub is_free : IsFreeUnit t rg unit
  pub lowest : (other : ℕ) → IsFreeUnit t rg other → unit ≤ other

abbrev pub HasNoFree : UnitTable → ℕ → Type 0
HasNoFree t rg = (unit : ℕ) → IsFreeUnit t rg unit → ⊥

-- one unit becomes another, and nothing else changes
pub record Changes (old new : UnitTable) (unit : ℕ) (x : DataUnit) : Type 0 where
  pub units : unit_at new ≡ with_at (unit_at old) unit x
  pub cut : cut_of new ≡ cut_of old

-- a state of the drive with these units: the same are lost, and the same groups worn
pub record Agrees (t : UnitTable) (c : DriveConfig) (s : PlainState) : Type 0 where
  pub units : c.units ≡ t.group_units
  pub lost : (unit : ℕ) → IsUnit t unit → s.is_lost unit ≡ is_lost (state_at t unit)
  pub worn : (rg : ℕ) → s.is_worn rg ≡ is_worn_at t rg

-- each group has the units of the cut, and they are not too many
pub record AreGroups (unit_pages group_units : ℕ) (groups : List GroupTable) : Type 0 where
  pub number : length groups < 65536
  pub size : length groups * group_units ≤ 262144
  pub pages : (rg : ℕ) → rg < length groups → (slice_index_or groups rg no_group).unit_pages ≡ unit_pages
  pub units : (rg : ℕ) → rg < length groups → length (slice_index_or groups rg no_group).units ≡ group_units
