-- What relocation has still to gain in a group, by pages.
use Rattle.std.specs.Prelude.{◌≡◌, ℕ, ◌+◌, ◌*◌, ◌<◌, All, Bool, not, ◌&&◌, ◌||◌, IsSome, IsTrue, List, is_some, nat_lt, sum_by}
use Rattle.fdp_base.specs.declared.entry.Copied.{Copied}
use Rattle.fdp_base.specs.declared.entry.Spot.{Spot}
use Rattle.fdp_base.specs.Numbers.{count_below, numbers_below}
use Rattle.fdp_owners.specs.OwnerTable.{OwnerTable, live_in, owner_at}
use Rattle.fdp_units.specs.DataUnits.{IsSound, is_closed, is_lost, is_referenced, is_target}
use Rattle.fdp_units.specs.UnitTable.{IsUnit, UnitTable, cut_of, group_in, state_at, unit_at}
use Rattle.fdp_trails.specs.Moves.{AreMovable, owners_moved}

-- how many pages of a group's units pass a test
abbrev pub pages_where : UnitTable → ℕ → (Spot → Bool) → ℕ
pages_where t rg test = sum_by (λ i. count_below t.unit_pages (λ page. test (record { unit = rg * t.group_units + i; page = page }))) (numbers_below t.group_units)

-- a page is kept for a block or a write
abbrev pub is_live : OwnerTable → Spot → Bool
is_live o spot = is_some (owner_at o spot)

-- a page that relocation can win: it was used and is not live, and its unit is neither referenced nor lost
abbrev pub is_stale : UnitTable → OwnerTable → Spot → Bool
is_stale t o spot = nat_lt spot.page (unit_at t spot.unit).next && not (is_live o spot) && not (is_referenced (state_at t spot.unit)) && not (is_lost (state_at t spot.unit))

-- the units are sound and of the owners' cut; live pages were used, and are counted
pub record AreTallied (t : UnitTable) (o : OwnerTable) : Type 0 where
  pub pages : o.unit_pages ≡ t.unit_pages
  pub sound : (unit : ℕ) → IsUnit t unit → IsSound t.unit_pages (unit_at t unit)
  pub used : (spot : Spot) → IsSome (owner_at o spot) → spot.page < (unit_at t spot.unit).next
  pub counted : (unit : ℕ) → IsUnit t unit → (unit_at t unit).live ≡ live_in o unit

-- a page of a unit that relocation takes from or fills
pub record IsRelocated (t : UnitTable) (rg : ℕ) (spot : Spot) : Type 0 where
  pub is_unit : IsUnit t spot.unit
  pub group : group_in t spot.unit ≡ rg
  pub page : spot.page < t.unit_pages
  pub stands : IsTrue (is_target (state_at t spot.unit) || is_closed (state_at t spot.unit))

-- the owners of copies were moved in a group, and the units are as they were but for how many of their pages are live
pub record MovesOwners (old new : UnitTable) (o now : OwnerTable) (rg : ℕ) (copies : List Copied) : Type 0 where
  pub tallied : AreTallied old o
  pub recounted : AreTallied new now
  pub cut : cut_of new ≡ cut_of old
  pub state : (unit : ℕ) → IsUnit old unit → state_at new unit ≡ state_at old unit
  pub next : (unit : ℕ) → IsUnit old unit → (unit_at new unit).next ≡ (unit_at old unit).next
  pub movable : AreMovable (owner_at o) copies
  pub from : All (λ (x : Copied). IsRelocated old rg x.from) copies
  pub to : All (λ (x : Copied). IsRelocated old rg x.to) copies
  pub owners : owner_at now ≡ owners_moved (owner_at o) copies
