-- The blocks that a flash in memory keeps for the pages that are not whole.
use Rattle.std.specs.Prelude.{◌≡◌, ℕ, Bool, true, false, List, length, slice_get, Option, Some, None}
use Rattle.fdp_flash.specs.declared.cell.Cell.{Cell}
use Rattle.fdp_flash.specs.declared.cell.Cell.TheVariants.{Blank, Torn, Whole}

-- a page that is not whole
abbrev pub unwritten : Bool → Cell
unwritten true = Torn
unwritten false = Blank

-- the size of a block that is there
abbrev pub block_size : Option (Option (List ℕ)) → Option ℕ
block_size None = None
block_size (Some None) = None
block_size (Some (Some block)) = Some (length block)

-- a page that is not whole has a block of this size, and a whole page has so many bytes
pub record HasBlocks (size : ℕ) (cells : List Cell) (blocks : List (Option (List ℕ))) : Type 0 where
  pub count : length blocks ≡ length cells
  pub blank : (k : ℕ) → slice_get cells k ≡ Some Blank → block_size (slice_get blocks k) ≡ Some size
  pub torn : (k : ℕ) → slice_get cells k ≡ Some Torn → block_size (slice_get blocks k) ≡ Some size
  pub whole : (k : ℕ) (spare bytes : List ℕ) → slice_get cells k ≡ Some (Whole spare bytes) → length bytes ≡ size

-- a page that is not whole has a block of this size
abbrev pub BlockFits : ℕ → Cell → Option (List ℕ) → Type 0
BlockFits size Blank block = block_size (Some block) ≡ Some size
BlockFits size Torn block = block_size (Some block) ≡ Some size
BlockFits size (Whole spare bytes) block = Unit {0}
