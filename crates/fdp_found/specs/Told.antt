-- The cells that an opening goes by where the flash does not tell its own.
use Rattle.std.specs.Prelude.{◌≡◌, ℕ, Bool, IsTrue, List, map, Option, Some, None, if◌then◌else◌, replicate}
use Rattle.fdp_base.specs.declared.config.DriveConfig.{DriveConfig}
use Rattle.fdp_base.specs.declared.entry.Spot.{Spot}
use Rattle.fdp_base.specs.declared.spare.DataSpare.{DataSpare}
use Rattle.fdp_base.specs.Geometry.{all_pages}
use Rattle.fdp_base.specs.Numbers.{numbers_below}
use Rattle.fdp_base.specs.Placement.{geometry_of}
use Rattle.fdp_base.specs.Spare.{data_spare}
use Rattle.fdp_locations.specs.fdp_collector.Copying.{IsDataPage}
use Rattle.fdp_flash.specs.declared.cell.Cell.{Cell}
use Rattle.fdp_flash.specs.declared.cell.Cell.TheVariants.{Blank, Whole}
use Rattle.fdp_flash.specs.Layout.{page_number}
use Rattle.fdp_image.specs.Reading.{Reading, spot_of}
use Rattle.fdp_owners.specs.declared.owner.Holder.TheVariants.{Block}
use Rattle.fdp_owners.specs.declared.owner.Owner.{Owner}
use Rattle.fdp_records.specs.Spares.{said_by_data}
use Rattle.fdp_opening.specs.fdp_recovery.Blocks.{names_block}

-- a page as its owner tells it: whole with the spare that the owner knows, and zeros; blank where it has no owner
abbrev pub cell_of_owner : ℕ → Option Owner → Cell
cell_of_owner block None = Blank
cell_of_owner block (Some x) = Whole (data_spare x.spare) (replicate block 0)

-- the pages of a flash as the owners tell them
abbrev pub cells_of_owners : DriveConfig → (Spot → Option Owner) → List Cell
cells_of_owners c owners = map (λ page. cell_of_owner c.block (owners (spot_of c page))) (numbers_below (all_pages (geometry_of c)))

-- the cells that an opening goes by: those of the flash where it tells them, else those that the owners tell
abbrev pub opened_cells : Bool → DriveConfig → List Cell → (Spot → Option Owner) → List Cell
opened_cells told c cells owners = if told then cells else cells_of_owners c owners

-- a block owns its page, and the spare of that names it
pub record IsOwnedBlock (c : DriveConfig) (r : Reading) (owners : Spot → Option Owner) (nsid lba page : ℕ) : Type 0 where
  pub spare : DataSpare
  pub owner : owners (spot_of c page) ≡ Some (record { holder = Block; spare = spare })
  pub names : IsTrue (names_block c r nsid lba page spare)

-- an owner is the block that its spare names, and stands on this page of data; the spare has the bytes of one
pub record IsBlockOwner (c : DriveConfig) (r : Reading) (spot : Spot) (x : Owner) : Type 0 where
  pub page : IsDataPage (geometry_of c) spot
  pub holder : x.holder ≡ Block
  pub stands : r.pages x.spare.nsid x.spare.lba ≡ Some (page_number (geometry_of c) spot)
  pub spelled : said_by_data (data_spare x.spare) ≡ Some x.spare

-- each block owns its page, and nothing else owns one
pub record AreBlockOwners (c : DriveConfig) (r : Reading) (owners : Spot → Option Owner) : Type 0 where
  pub blocks : (nsid lba page : ℕ) → r.pages nsid lba ≡ Some page → IsOwnedBlock c r owners nsid lba page
  pub owners_are : (spot : Spot) (x : Owner) → owners spot ≡ Some x → IsBlockOwner c r spot x
