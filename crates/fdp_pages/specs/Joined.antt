-- What the tables of the pages say of each other.
use Rattle.std.specs.Prelude.{◌≡◌, ◌≢◌, ◌⊎◌, ℕ, ◌+◌, ◌*◌, ◌≤◌, ◌<◌, ◌||◌, ◌++◌, false, Contains, IsTrue, List, [], ◌∷◌, Some, None, length, slice_get}
use Rattle.fdp_base.specs.declared.config.Class.{Class}
use Rattle.fdp_base.specs.declared.entry.Copied.{Copied}
use Rattle.fdp_base.specs.declared.entry.Spot.{Spot}
use Rattle.fdp_collector.specs.Ready.{AreLive, HaveLanes, IsReady, IsUnitOf, Relocation, lane_at}
use Rattle.fdp_handles.specs.HandleTable.{HandleTable, reference_at}
use Rattle.fdp_owners.specs.declared.owner.Owner.{Owner}
use Rattle.fdp_owners.specs.OwnerTable.{OwnerTable, owner_at}
use Rattle.fdp_pages.specs.PageTables.{PageTables, relocation_at}
use Rattle.fdp_passes.specs.declared.lane.Lane.{Lane}
use Rattle.fdp_passes.specs.GroupPasses.{Pass, lane_of, target_at}
use Rattle.fdp_units.specs.declared.state.UnitState.TheVariants.{Referenced, Target}
use Rattle.fdp_units.specs.DataUnits.{IsSound, is_closed, is_target}
use Rattle.fdp_units.specs.UnitTable.{IsGroup, IsUnit, UnitTable, group_in, state_at, unit_at}

-- there is an owner or none for each page of each unit
pub record AreSized (u : UnitTable) (o : OwnerTable) : Type 0 where
  pub unit_pages : o.unit_pages ≡ u.unit_pages
  pub pages : length o.pages ≡ length u.groups * u.group_units * u.unit_pages

-- the tables are of one cut; there is a handle, and there are at most sixteen
pub record AreCutAlike (t : PageTables) : Type 0 where
  pub passes : length t.passes ≡ length t.units.groups
  pub groups : t.handles.groups ≡ length t.units.groups
  pub unit_pages : t.handles.unit_pages ≡ t.units.unit_pages
  pub owners : AreSized t.units t.owners
  pub some_page : 1 ≤ t.units.unit_pages
  pub some_handle : 1 ≤ length t.handles.classes
  pub few_handles : length t.handles.classes ≤ 16

-- a handle fills a unit of the group: what is left for it are the pages that were not used, one at least, and each live page was put
-- there by it
pub record Fills (h : HandleTable) (t : UnitTable) (o : OwnerTable) (rg ruh unit : ℕ) : Type 0 where
  pub stands : IsUnitOf t rg unit Referenced
  pub left : (unit_at t unit).next + (reference_at h rg ruh).left ≡ t.unit_pages
  pub some_left : 1 ≤ (reference_at h rg ruh).left
  pub own : (spot : Spot) (x : Owner) → spot.unit ≡ unit → owner_at o spot ≡ Some x → x.spare.ruh ≡ ruh

-- handles fill the units that are referenced, each another one, and no unit else; to one without a unit a whole one is left
pub record AreFilled (h : HandleTable) (t : UnitTable) (o : OwnerTable) : Type 0 where
  pub whole : (rg ruh : ℕ) → (reference_at h rg ruh).unit ≡ None → (reference_at h rg ruh).left ≡ t.unit_pages
  pub fills : (rg ruh unit : ℕ) → (reference_at h rg ruh).unit ≡ Some unit → Fills h t o rg ruh unit
  pub apart : (rg ruh other unit : ℕ) → (reference_at h rg ruh).unit ≡ Some unit → (reference_at h rg other).unit ≡ Some unit → ruh ≡ other
  pub filled : (unit : ℕ) → IsUnit t unit → state_at t unit ≡ Referenced → (ruh : ℕ) × (ruh < length h.classes) × ((reference_at h (group_in t unit) ruh).unit ≡ Some unit)

-- the data of one of the handles goes this way
abbrev pub IsLaneOf : List Class → Lane → Type 0
IsLaneOf classes lane = (ruh : ℕ) × (class : Class) × (slice_get classes ruh ≡ Some class) × (lane_of class ruh ≡ lane)

-- each target of a group is that of one of its lanes; the lane is that of a handle, and each live page of the target goes that way
pub record AreTargeted (s : Relocation) (o : OwnerTable) (classes : List Class) (rg : ℕ) : Type 0 where
  pub targeted : (unit : ℕ) → IsUnitOf s.units rg unit Target → (lane : Lane) × (target_at s.passes lane ≡ Some unit)
  pub lanes : (unit : ℕ) (lane : Lane) → target_at s.passes lane ≡ Some unit → IsLaneOf classes lane
  pub own : (unit : ℕ) (lane : Lane) (spot : Spot) (x : Owner) → target_at s.passes lane ≡ Some unit → spot.unit ≡ unit → owner_at o spot ≡ Some x → lane_at classes x ≡ lane

-- the old page of a copy is one of the victim that the pass has looked at, its new page was used in another unit of the group, which is
-- a target or was one
pub record IsCopyOf (t : UnitTable) (rg : ℕ) (pass : Pass) (copy : Copied) : Type 0 where
  pub victim : copy.from.unit ≡ pass.victim
  pub behind : copy.from.page < pass.next
  pub from_page : copy.from.page < t.unit_pages
  pub is_unit : IsUnit t copy.to.unit
  pub group : group_in t copy.to.unit ≡ rg
  pub stands : IsTrue (is_target (state_at t copy.to.unit) || is_closed (state_at t copy.to.unit))
  pub apart : copy.to.unit ≢ pass.victim
  pub used : copy.to.page < (unit_at t copy.to.unit).next
  pub within : (unit_at t copy.to.unit).next ≤ t.unit_pages

-- a copy waits for the move of an owner: its new page has none, and the live pages of the new unit go the way of this owner
pub record Awaits (s : Relocation) (o : OwnerTable) (classes : List Class) (copy : Copied) (x : Owner) : Type 0 where
  pub unowned : owner_at o copy.to ≡ None
  pub way : (spot : Spot) (y : Owner) → spot.unit ≡ copy.to.unit → owner_at o spot ≡ Some y → lane_at classes y ≡ lane_at classes x
  pub target : (lane : Lane) → target_at s.passes lane ≡ Some copy.to.unit → lane ≡ lane_at classes x

-- the new pages of these copies lie in one unit, each behind the one before, from a page on
abbrev pub LieInOrder : ℕ → ℕ → List Copied → Type 0
LieInOrder unit first [] = Unit {0}
LieInOrder unit first (x ∷ xs) = (x.to.unit ≡ unit) × (first ≤ x.to.page) × LieInOrder unit (x.to.page + 1) xs

-- The copies of a pass filled a target, and behind it, only once the pass took a free unit, that one: their new pages lie in order in the two.
-- A copy of a live page that is left goes on in the last of them, unless it has none yet
pub record FillTargets (s : Relocation) (o : OwnerTable) (classes : List Class) (pass : Pass) : Type 0 where
  pub first : List Copied
  pub last : List Copied
  pub first_unit : ℕ
  pub last_unit : ℕ
  pub split : pass.copies ≡ first ++ last
  pub first_lie : LieInOrder first_unit 0 first
  pub last_lie : LieInOrder last_unit 0 last
  pub one : pass.took_unit ≡ false → first ≡ []
  pub goes_on : (page unit : ℕ) (x : Owner) → owner_at o (record { unit = pass.victim; page = page }) ≡ Some x → target_at s.passes (lane_at classes x) ≡ Some unit → (last ≡ []) ⊎ (unit ≡ last_unit)

-- what the pass under way in a group has copied and not moved: old pages ascend, new ones differ and fill its targets in order, and where the
-- old page is live the copy waits for its owner
pub record AreCopied (s : Relocation) (o : OwnerTable) (classes : List Class) (rg : ℕ) (pass : Pass) : Type 0 where
  pub lie : (copy : Copied) → Contains pass.copies copy → IsCopyOf s.units rg pass copy
  pub ascend : (i j : ℕ) (a b : Copied) → i < j → slice_get pass.copies i ≡ Some a → slice_get pass.copies j ≡ Some b → a.from.page < b.from.page
  pub differ : (i j : ℕ) (a b : Copied) → slice_get pass.copies i ≡ Some a → slice_get pass.copies j ≡ Some b → a.to ≡ b.to → i ≡ j
  pub filled : FillTargets s o classes pass
  pub await : (copy : Copied) (x : Owner) → Contains pass.copies copy → owner_at o copy.from ≡ Some x → Awaits s o classes copy x

-- what stands in a group: what each step of relocation asks for, whose its targets are, and what the pass under way has copied; the unit
-- that it empties has a page that is not live
pub record IsRelocating (s : Relocation) (o : OwnerTable) (classes : List Class) (rg : ℕ) : Type 0 where
  pub ready : IsReady s o classes rg
  pub targeted : AreTargeted s o classes rg
  pub copied : (pass : Pass) → s.passes.pass ≡ Some pass → AreCopied s o classes rg pass
  pub gains : (pass : Pass) → s.passes.pass ≡ Some pass → (unit_at s.units pass.victim).live < s.units.unit_pages

-- what joins the tables at each moment
pub record AreJoined (t : PageTables) : Type 0 where
  pub cut : AreCutAlike t
  pub sound : (unit : ℕ) → IsUnit t.units unit → IsSound t.units.unit_pages (unit_at t.units unit)
  pub live : AreLive t.units t.owners
  pub lanes : HaveLanes t.handles.classes t.owners
  pub filled : AreFilled t.handles t.units t.owners
  pub groups : (rg : ℕ) → IsGroup t.units rg → IsRelocating (relocation_at t rg) t.owners t.handles.classes rg
