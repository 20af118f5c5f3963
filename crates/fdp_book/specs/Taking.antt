-- Blocks that take over the pages of a write.
use Rattle.std.specs.Prelude.{◌≡◌, ℕ, ◌+◌, ◌/◌, List, Option, Some, None, option_map, slice_get}
use Rattle.fdp_base.specs.declared.config.Geometry.{Geometry}
use Rattle.fdp_base.specs.declared.entry.Spot.{Spot}
use Rattle.fdp_map.specs.declared.mapped.Mapped.{Mapped}
use Rattle.fdp_map.specs.MapTable.{IsPageOf, MapTable, mapped_at}
use Rattle.fdp_owners.specs.Owned.{AreOwners}
use Rattle.fdp_owners.specs.declared.owner.Holder.TheVariants.{Block}
use Rattle.fdp_owners.specs.declared.owner.Owner.{Owner}
use Rattle.fdp_owners.specs.OwnerTable.{held_by, owner_at, with_owner}
use Rattle.fdp_readings.specs.fdp_pages.PageTables.{PageTables}
use Rattle.fdp_pointers.specs.Facts.{Page}
use Rattle.fdp_pointers.specs.Pointers.{Behind, Pointer.of_block, Pointer.of_flight}

-- a page of a write: it leads there, and its spare names the block that takes it
pub record IsPageTo (at : Behind Page) (queue nsid slba index : ℕ) (spot : Spot) : Type 0 where
  pub page : Page
  pub leads : at (of_flight queue index) ≡ Some page
  pub spot_is : page.spot ≡ spot
  pub nsid_is : page.spare.nsid ≡ nsid
  pub lba_is : page.spare.lba ≡ slba + index

-- the pages of the write in a queue may be taken by so many blocks from an address on
pub record MayTake (at : Behind Page) (map : MapTable) (t : PageTables) (queue nsid slba : ℕ) (spots : List Spot) : Type 0 where
  pub owned : AreOwners (owner_at t.owners) at
  pub mapped : (lba : ℕ) → option_map (λ (y : Page). y.spot) (at (of_block nsid lba)) ≡ option_map (λ (m : Mapped). m.spot) (mapped_at map nsid lba)
  pub pages : (index : ℕ) (spot : Spot) → slice_get spots index ≡ Some spot → IsPageTo at queue nsid slba index spot

-- a page of a data unit of a group
pub record IsPageIn (g : Geometry) (rg : ℕ) (spot : Spot) : Type 0 where
  pub page : IsPageOf g spot
  pub group : spot.unit / g.units ≡ rg

-- these are pages of data units
abbrev pub ArePages : Geometry → List Spot → Type 0
ArePages g spots = (index : ℕ) (spot : Spot) → slice_get spots index ≡ Some spot → IsPageOf g spot

-- in some queue
pub record CanTake (map : MapTable) (t : PageTables) (nsid slba : ℕ) (spots : List Spot) : Type 0 where
  pub at : Behind Page
  pub queue : ℕ
  pub may : MayTake at map t queue nsid slba spots

-- the page that a block had has no owner any more, if it had one
abbrev pub cleared_of : (Spot → Option Owner) → Option Mapped → Spot → Option Owner
cleared_of owners None = owners
cleared_of owners (Some m) = with_owner owners m.spot None

-- the page that a block had has no owner any more, and the new page is kept for the block
abbrev pub with_taken : (Spot → Option Owner) → Option Mapped → Spot → Spot → Option Owner
with_taken owners old spot = with_owner (cleared_of owners old) spot (option_map (held_by Block) (cleared_of owners old spot))
