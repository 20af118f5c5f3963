-- A checkpoint that takes the place of what a system area held.
use Rattle.std.specs.Prelude.{◌≡◌, ◌≢◌, ◌⊎◌, ℕ, ◌+◌, ◌-◌, ◌/◌, ◌<◌, ◌≤◌, IsTrue, false, List, [], length, slice_get, take, Some, None}
use Rattle.std.specs.List.{concat, list_all}
use Rattle.fdp_base.specs.declared.config.DriveConfig.{DriveConfig}
use Rattle.fdp_base.specs.declared.config.Geometry.{Geometry}
use Rattle.fdp_base.specs.Geometry.{area_pages}
use Rattle.fdp_base.specs.Placement.{geometry_of}
use Rattle.fdp_flash.specs.declared.cell.Cell.{Cell}
use Rattle.fdp_flash.specs.declared.cell.Cell.TheVariants.{Blank, Torn}
use Rattle.fdp_flash.specs.Layout.{first_page}
use Rattle.fdp_records.specs.declared.spare.Stamp.{Stamp}
use Rattle.fdp_snapshot.specs.declared.state.State.{State}
use Rattle.fdp_snapshot.specs.declared.state.Summary.{Summary}
use Rattle.fdp_snapshot.specs.Checkpoint.{checkpoint_size, is_checkpoint}
use Rattle.fdp_snapshot.specs.Reading.{state_in, summary_in}
use Rattle.fdp_image.specs.Areas.{Sealed, area_of, area_unit, current_area, is_seal, sealed_in}
use Rattle.fdp_image.specs.BadFields.{bad_field}
use Rattle.fdp_image.specs.Checkpoint.{reading_of_state}
use Rattle.fdp_image.specs.CheckpointFields.{same_keys}
use Rattle.fdp_image.specs.Reading.{Reading}
use Rattle.fdp_image.specs.Reads.{reads_as}

-- how many pages of so many bytes a checkpoint takes
abbrev pub pages_for : ℕ → Summary → ℕ
pages_for block s = (checkpoint_size s + (block - 1)) / block

-- the bytes are the checkpoint of this state, and just fill their pages
pub record IsCheckpointOf (version block : ℕ) (bytes : List ℕ) (s : State) : Type 0 where
  pub whole : IsTrue (is_checkpoint version bytes)
  pub state : s ≡ state_in bytes
  pub filled : length bytes < checkpoint_size (summary_in bytes) + block

-- the version and epoch of a checkpoint that is written
abbrev pub new_stamp : ℕ → Stamp
new_stamp epoch = record { version = 1; epoch = epoch }

-- an area is sealed with this state and epoch: its content reads back as exactly this state, these journal pages stand before the seal, and none behind it
pub record IsNewlySealed (block epoch : ℕ) (s : State) (pages : List (List ℕ)) (cells : List Cell) : Type 0 where
  pub area : Sealed
  pub sealed : sealed_in cells ≡ Some area
  pub stamp : area.stamp ≡ new_stamp epoch
  pub content : IsCheckpointOf 1 block (concat area.checkpoint) s
  pub filled : length area.checkpoint ≡ pages_for block s.summary
  pub before : area.before ≡ length pages
  pub journal : area.journal ≡ pages

-- each page of an area is as it was, blank or torn
pub record IsWiped (old new : List Cell) : Type 0 where
  pub size : length new ≡ length old
  pub pages : (k : ℕ) → k < length old → (slice_get new k ≡ slice_get old k) ⊎ (slice_get new k ≡ Some Blank) ⊎ (slice_get new k ≡ Some Torn)

-- an area is sealed with the checkpoint pages, the journal pages before the seal and the seal that it had, and with a beginning of its journal
pub record IsShortened (old new : List Cell) : Type 0 where
  pub before : Sealed
  pub after : Sealed
  pub sealed_before : sealed_in old ≡ Some before
  pub sealed_after : sealed_in new ≡ Some after
  pub stamp : after.stamp ≡ before.stamp
  pub checkpoint : after.checkpoint ≡ before.checkpoint
  pub before_is : after.before ≡ before.before
  pub kept : ℕ
  pub enough : before.before ≤ kept
  pub journal : after.journal ≡ take kept before.journal

-- what may become of an area that a checkpoint is written into: it is not sealed, or as it was but for the end of its journal, or
-- sealed with the new checkpoint
abbrev pub IsReplacedIn : ℕ → ℕ → State → List Cell → List Cell → Type 0
IsReplacedIn block epoch s old new = (sealed_in new ≡ None) ⊎ IsShortened old new ⊎ IsNewlySealed block epoch s [] new

-- no page is a seal
abbrev pub HasNoSeal : List Cell → Type 0
HasNoSeal cells = (k : ℕ) (cell : Cell) → slice_get cells k ≡ Some cell → (t : Stamp) (n : ℕ) → is_seal t n cell ≡ false

-- all pages of the data units and of the other system area are as they were
pub record IsSameBeside (g : Geometry) (area : ℕ) (old new : List Cell) : Type 0 where
  pub size : length new ≡ length old
  pub below : (page : ℕ) → page < first_page g (area_unit g area) → slice_get new page ≡ slice_get old page
  pub above : (page : ℕ) → first_page g (area_unit g area) + area_pages g ≤ page → slice_get new page ≡ slice_get old page

-- the area is not the current one, and the current one, if there is one, has an epoch below this
abbrev pub MayBeReplaced : Geometry → List Cell → ℕ → ℕ → Type 0
MayBeReplaced g cells area epoch = (number : ℕ) (current : Sealed) → current_area g cells ≡ Some (number, current) → (number ≢ area) × (current.stamp.epoch < epoch)

-- the state names the sizes of the drive
abbrev pub NamesSizes : DriveConfig → State → Type 0
NamesSizes c s = IsTrue (list_all (λ same. same) (same_keys c s.summary.keys))

-- the state is one that a drive of the configuration saves: it names the sizes of the drive, and each field is one that the drive may have
pub record IsSavedBy (c : DriveConfig) (s : State) : Type 0 where
  pub sizes : NamesSizes c s
  pub fields : bad_field c s.summary ≡ None

-- What writing a checkpoint may leave: the pages beside the area are as they were, the area is not sealed, as it was or sealed anew, and
-- where it was not the current one, an image reads as the cells did, or as the state.
pub record MayBeWritten (g : Geometry) (area epoch : ℕ) (s : State) (old new : List Cell) : Type 0 where
  pub beside : IsSameBeside g area old new
  pub replaced : IsReplacedIn g.block epoch s (area_of g area old) (area_of g area new)
  pub reads : (c : DriveConfig) (r : Reading) → geometry_of c ≡ g → IsSavedBy c s → MayBeReplaced g old area epoch → reads_as c old ≡ Some r
      → (reads_as c new ≡ Some r) ⊎ (reads_as c new ≡ Some (reading_of_state s))
