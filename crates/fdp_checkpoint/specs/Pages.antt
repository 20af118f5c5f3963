-- What the checkpoint pages of a sealed area tell.
use Rattle.std.specs.Prelude.{◌≡◌, ◌⊎◌, ℕ, ◌+◌, ◌*◌, ◌/◌, ◌≤◌, IsTrue, List, length, Some, None, Result, Ok, Err}
use Rattle.std.specs.List.{concat}
use Rattle.fdp_base.specs.declared.config.Geometry.{Geometry}
use Rattle.fdp_flash.specs.Layout.{first_page}
use Rattle.fdp_flash.specs.declared.cell.Cell.{Cell}
use Rattle.fdp_areas.specs.Seals.{IsSealOf}
use Rattle.fdp_image.specs.Areas.{Sealed, area_unit, sealed_in}
use Rattle.fdp_image.specs.Replacing.{IsCheckpointOf}
use Rattle.fdp_snapshot.specs.declared.state.State.{State}
use Rattle.fdp_snapshot.specs.Checkpoint.{IsBadAt, checkpoint_size, is_checkpoint}
use Rattle.fdp_snapshot.specs.Reading.{summary_in}
use Rattle.fdp_checkpoint.specs.declared.fault.CheckpointFault.{CheckpointFault}
use Rattle.fdp_checkpoint.specs.declared.fault.CheckpointFault.TheVariants as faults
use Rattle.fdp_checkpoint.specs.declared.fault.ContentFault.{ContentFault}
use Rattle.fdp_checkpoint.specs.declared.fault.ContentFault.TheVariants as contents
use Rattle.fdp_checkpoint.specs.declared.fault.FoundCheckpoint.{FoundCheckpoint}

-- the bytes are a checkpoint that does not reach into the last of their pages
pub record IsOverlong (version block : ℕ) (bytes : List ℕ) (number : ℕ) : Type 0 where
  pub whole : IsTrue (is_checkpoint version bytes)
  pub long : checkpoint_size (summary_in bytes) + block ≤ length bytes
  pub last : (number + 1) * block ≡ length bytes

-- the page with this number shows that the bytes are no checkpoint, or it is one too many
pub record IsBadPage (version block : ℕ) (bytes : List ℕ) (number : ℕ) : Type 0 where
  pub shown : ((at : ℕ) × (number ≡ at / block) × IsBadAt version bytes at) ⊎ IsOverlong version block bytes number

-- the same by the number of the page in the flash
pub record IsBadIn (g : Geometry) (area version : ℕ) (bytes : List ℕ) (page : ℕ) : Type 0 where
  pub number : ℕ
  pub place : page ≡ first_page g (area_unit g area) + number
  pub bad : IsBadPage version g.block bytes number

-- What is told of these bytes, where they stand in the checkpoint pages of an area: the state whose checkpoint they are, or the page
-- that shows them to be that of none.
abbrev pub TellsBytes : Geometry → ℕ → ℕ → List ℕ → Result State ContentFault → Type 0
TellsBytes g area version bytes (Ok state) = IsCheckpointOf version g.block bytes state
TellsBytes g area version bytes (Err (contents.Bad page)) = IsBadIn g area version bytes page
TellsBytes g area version bytes (Err (contents.Failed moment)) = Unit {0}
TellsBytes g area version bytes (Err contents.NoMemory) = Unit {0}

-- what is told of a sealed area: the state whose checkpoint it holds, or the page that shows that it holds none
abbrev pub TellsContent : Geometry → ℕ → Sealed → Result State ContentFault → Type 0
TellsContent g area z result = TellsBytes g area z.stamp.version (concat z.checkpoint) result

-- the area is sealed so, and its content is the checkpoint of this state
pub record HoldsCheckpoint (block : ℕ) (cells : List Cell) (x : FoundCheckpoint) : Type 0 where
  pub area : Sealed
  pub sealed : sealed_in cells ≡ Some area
  pub seal_is : IsSealOf x.seal area
  pub content : IsCheckpointOf area.stamp.version block (concat area.checkpoint) x.state

-- the area is sealed, and as a page of it shows its content is the checkpoint of no state
pub record HoldsNoState (g : Geometry) (area : ℕ) (cells : List Cell) (page : ℕ) : Type 0 where
  pub sealed : Sealed
  pub is : sealed_in cells ≡ Some sealed
  pub bad : IsBadIn g area sealed.stamp.version (concat sealed.checkpoint) page

-- what is told of an area: the checkpoint that it holds, that it is not sealed, or the page that shows that it holds none
abbrev pub TellsArea : Geometry → ℕ → List Cell → Result FoundCheckpoint CheckpointFault → Type 0
TellsArea g area cells (Ok found) = HoldsCheckpoint g.block cells found
TellsArea g area cells (Err faults.NoCheckpoint) = sealed_in cells ≡ None
TellsArea g area cells (Err (faults.Bad page)) = HoldsNoState g area cells page
TellsArea g area cells (Err (faults.Failed moment)) = Unit {0}
TellsArea g area cells (Err faults.NoMemory) = Unit {0}
