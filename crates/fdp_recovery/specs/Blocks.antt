-- The pages of the blocks that an image names.
use Rattle.std.specs.Prelude.{◌≡◌, ◌⊎◌, ℕ, ◌<◌, Bool, false, IsTrue, ◌&&◌, ◌==◌, List, nat_lt, Option, Some, None, slice_get}
use Rattle.std.specs.List.{list_any}
use Rattle.std.specs.Option.{option_map_or}
use Rattle.fdp_base.specs.declared.config.DriveConfig.{DriveConfig}
use Rattle.fdp_base.specs.declared.spare.DataSpare.{DataSpare}
use Rattle.fdp_base.specs.Placement.{geometry_of}
use Rattle.fdp_flash.specs.declared.cell.Cell.{Cell}
use Rattle.fdp_flash.specs.declared.cell.Cell.TheVariants.{Blank, Torn, Whole}
use Rattle.fdp_image.specs.Areas.{data_pages}
use Rattle.fdp_image.specs.Reading.{Reading}
use Rattle.fdp_image.specs.Valid.{is_named}
use Rattle.fdp_records.specs.Spares.{said_by_data}
use Rattle.fdp_state.specs.Parts.{handles_at}

-- one of the handles
abbrev pub is_one_of : List ℕ → ℕ → Bool
is_one_of handles ruh = list_any (λ handle. handle == ruh) handles

-- the spare of a page names the block, and one of the handles of its namespace
abbrev pub names_block : DriveConfig → Reading → ℕ → ℕ → ℕ → DataSpare → Bool
names_block c r nsid lba page s = is_named c r nsid lba page s && is_one_of (handles_at r nsid) s.ruh

-- a page is whole, and its spare names the block
abbrev pub holds : DriveConfig → Reading → ℕ → ℕ → ℕ → Cell → Bool
holds c r nsid lba page Blank = false
holds c r nsid lba page Torn = false
holds c r nsid lba page (Whole spare bytes) = option_map_or (names_block c r nsid lba page) (said_by_data spare) false

-- a block is kept on a page: that is a data page that holds it
abbrev pub is_kept : DriveConfig → List Cell → Reading → ℕ → ℕ → ℕ → Bool
is_kept c cells r nsid lba page = nat_lt page (data_pages (geometry_of c)) && option_map_or (holds c r nsid lba page) (slice_get cells page) false

-- each block is kept on its page
abbrev pub AreKept : DriveConfig → List Cell → Reading → Type 0
AreKept c cells r = (nsid lba page : ℕ) → r.pages nsid lba ≡ Some page → IsTrue (is_kept c cells r nsid lba page)

-- a block comes before another, by namespace and address
abbrev pub IsBefore : ℕ → ℕ → ℕ → ℕ → Type 0
IsBefore n l nsid lba = (n < nsid) ⊎ ((n ≡ nsid) × (l < lba))

-- each block stands on a data page, and no two blocks stand on one
pub record StandApart (c : DriveConfig) (r : Reading) : Type 0 where
  pub places : (nsid lba page : ℕ) → r.pages nsid lba ≡ Some page → page < data_pages (geometry_of c)
  pub apart : (nsid lba other_nsid other_lba page : ℕ) → r.pages nsid lba ≡ Some page → r.pages other_nsid other_lba ≡ Some page → (nsid ≡ other_nsid) × (lba ≡ other_lba)

-- this is the page of the first block, by namespace and address, that is not kept on its page
pub record IsFirstUnkept (c : DriveConfig) (cells : List Cell) (r : Reading) (page : ℕ) : Type 0 where
  pub nsid : ℕ
  pub lba : ℕ
  pub there : r.pages nsid lba ≡ Some page
  pub unkept : is_kept c cells r nsid lba page ≡ false
  pub before : (n l p : ℕ) → r.pages n l ≡ Some p → IsBefore n l nsid lba → IsTrue (is_kept c cells r n l p)

-- what is told of the blocks: the page of the first that is not kept, or that all are
abbrev pub TellsBlocks : DriveConfig → List Cell → Reading → Option ℕ → Type 0
TellsBlocks c cells r None = AreKept c cells r
TellsBlocks c cells r (Some page) = IsFirstUnkept c cells r page
