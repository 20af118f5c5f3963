-- What is known while the pages of the blocks are looked at, by namespace and address.
use Rattle.std.specs.Prelude.{◌≡◌, ℕ, ◌+◌, ◌≤◌, Bool, true, IsTrue, List, length, Option, Some, None, count_by, slice_get}
use Rattle.fdp_base.specs.declared.config.DriveConfig.{DriveConfig}
use Rattle.fdp_base.specs.Placement.{geometry_of}
use Rattle.fdp_flash.specs.declared.cell.Cell.{Cell}
use Rattle.fdp_flash.specs.FlashState.{FlashState}
use Rattle.fdp_flash.specs.OnlyReads.{ReadsOnly}
use Rattle.fdp_image.specs.Areas.{data_pages}
use Rattle.fdp_image.specs.Reading.{Reading}
use Rattle.fdp_recovery.specs.Blocks.{IsBefore, IsFirstUnkept, is_kept}

-- some calls were made, none of which changed anything
pub record OnlyLooks (old new : FlashState) : Type 0 where
  pub most : ℕ
  pub reads : ReadsOnly most old new

-- how many pages are marked
abbrev pub marked_in : List Bool → ℕ
marked_in marks = count_by (λ (x : Bool). x) marks

-- no more looks were made than pages were marked
pub record LooksMarked (before after : List Bool) (old new : FlashState) : Type 0 where
  pub most : ℕ
  pub reads : ReadsOnly most old new
  pub counted : marked_in before + most ≤ marked_in after

-- a block before one stands on a page
pub record StandsBefore (r : Reading) (nsid lba page : ℕ) : Type 0 where
  pub n : ℕ
  pub l : ℕ
  pub before : IsBefore n l nsid lba
  pub there : r.pages n l ≡ Some page

-- the marked pages are those of the blocks before one: data pages, no two of these blocks on one
pub record AreMarks (c : DriveConfig) (r : Reading) (nsid lba : ℕ) (marks : List Bool) : Type 0 where
  pub size : length marks ≡ data_pages (geometry_of c)
  pub marked : (n l page : ℕ) → IsBefore n l nsid lba → r.pages n l ≡ Some page → slice_get marks page ≡ Some true
  pub stands : (page : ℕ) → slice_get marks page ≡ Some true → StandsBefore r nsid lba page
  pub apart : (n l m k page : ℕ) → IsBefore n l nsid lba → IsBefore m k nsid lba → r.pages n l ≡ Some page → r.pages m k ≡ Some page → (n ≡ m) × (l ≡ k)

-- the blocks before one are kept on their pages
abbrev pub AreKeptBefore : DriveConfig → List Cell → Reading → ℕ → ℕ → Type 0
AreKeptBefore c cells r nsid lba = (n l page : ℕ) → IsBefore n l nsid lba → r.pages n l ≡ Some page → IsTrue (is_kept c cells r n l page)

-- what is told of the blocks up to one: the page of the first that is not kept, or that all before this one are
abbrev pub TellsUpTo : DriveConfig → List Cell → Reading → ℕ → ℕ → Option ℕ → Type 0
TellsUpTo c cells r nsid lba None = AreKeptBefore c cells r nsid lba
TellsUpTo c cells r nsid lba (Some page) = IsFirstUnkept c cells r page
