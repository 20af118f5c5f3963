-- A checkpoint that is written: its pages, what is between the calls, and which calls are made.
use Rattle.std.specs.Prelude.{◌≡◌, ◌⊎◌, ℕ, suc, ◌+◌, ◌*◌, ◌<◌, List, [], ◌++◌, drop, length, slice_get, take, Option, Some, None}
use Rattle.fdp_base.specs.declared.config.Geometry.{Geometry}
use Rattle.fdp_flash.specs.declared.cell.Cell.{Cell}
use Rattle.fdp_flash.specs.declared.cell.Cell.TheVariants.{Whole}
use Rattle.fdp_flash.specs.FlashState.{Call}
use Rattle.fdp_flash.specs.Planned.{calls_from, erase_of, program_of}
use Rattle.fdp_image.specs.Areas.{area_of, area_unit, sealed_in}
use Rattle.fdp_image.specs.Replacing.{HasNoSeal, IsNewlySealed, IsSameBeside, IsShortened, pages_for}
use Rattle.fdp_image.specs.Saving.{AreBlankFrom}
use Rattle.fdp_image.specs.Spots.{spot_in}
use Rattle.fdp_records.specs.declared.spare.Stamp.{Stamp}
use Rattle.fdp_records.specs.declared.spare.SystemKind.{SystemKind}
use Rattle.fdp_records.specs.declared.spare.SystemKind.TheVariants.{Checkpoint, Journal}
use Rattle.fdp_records.specs.Spares.{system_spare}
use Rattle.fdp_snapshot.specs.declared.state.State.{State}
use Rattle.fdp_snapshot.specs.declared.state.Summary.{Summary}
use Rattle.fdp_snapshot.specs.Checkpoint.{IsState, checkpoint_of}
use Rattle.fdp_snapshot.specs.Sizes.{SummaryFits}
use Rattle.fdp_checkpoint.specs.declared.target.Target.{Target}

-- a summary with the pages of its blocks is a state
abbrev pub with_pages : Summary → List (List (Option ℕ)) → State
with_pages summary pages = record { summary = summary; pages = pages }

-- a page of some bytes, by its number
abbrev pub page_in : ℕ → List ℕ → ℕ → List ℕ
page_in block bytes number = take block (drop (number * block) bytes)

-- the bytes are the checkpoint of a state, which just fills its pages
pub record IsFrozen (block : ℕ) (s : State) (bytes : List ℕ) : Type 0 where
  pub state : IsState s
  pub fits : SummaryFits s.summary
  pub is : bytes ≡ checkpoint_of 1 (pages_for block s.summary * block) s

-- a page of an area as it stands once it is programmed
abbrev pub system_cell : SystemKind → ℕ → Stamp → List ℕ → Cell
system_cell kind number t bytes = Whole (system_spare (record { kind = kind; number = number; stamp = t })) bytes

-- so many pages of a checkpoint with these bytes stand in an area, and those behind them are blank
pub record HasPages (block : ℕ) (t : Stamp) (bytes : List ℕ) (cells : List Cell) (number : ℕ) : Type 0 where
  pub whole : (k : ℕ) → k < number → slice_get cells k ≡ Some (system_cell Checkpoint k t (page_in block bytes k))
  pub blank : AreBlankFrom number cells

-- all pages of the checkpoint of a state stand in an area, so many, and those behind them are blank
pub record HasCheckpoint (x : Target) (count : ℕ) (s : State) (cells : List Cell) : Type 0 where
  pub bytes : List ℕ
  pub frozen : IsFrozen x.geometry.block s bytes
  pub count_is : count ≡ pages_for x.geometry.block s.summary
  pub pages : HasPages x.geometry.block x.stamp bytes (area_of x.geometry x.area cells) count

-- the first pages of an area are as they were, so many of these journal pages stand behind them, and the pages behind those are blank
pub record IsKeptBehind (t : Stamp) (count : ℕ) (kept : List (List ℕ)) (number : ℕ) (old new : List Cell) : Type 0 where
  pub same : (k : ℕ) → k < count → slice_get new k ≡ slice_get old k
  pub journal : (k : ℕ) (page : List ℕ) → k < number → slice_get kept k ≡ Some page → slice_get new (count + k) ≡ Some (system_cell Journal k t page)
  pub blank : AreBlankFrom (count + number) new

-- the pages beside an area are as they were, and it has no seal
pub record IsUnsealed (g : Geometry) (area : ℕ) (old new : List Cell) : Type 0 where
  pub beside : IsSameBeside g area old new
  pub none : HasNoSeal (area_of g area new)

-- the pages beside an area are as they were, and it is not sealed, or as it was but for the end of its journal
pub record IsErasing (g : Geometry) (area : ℕ) (old new : List Cell) : Type 0 where
  pub beside : IsSameBeside g area old new
  pub left : (sealed_in (area_of g area new) ≡ None) ⊎ IsShortened (area_of g area old) (area_of g area new)

-- the pages beside an area are as they were, and it is not sealed, or sealed anew, with these journal pages before its seal
pub record IsSealing (g : Geometry) (area epoch : ℕ) (s : State) (kept : List (List ℕ)) (old new : List Cell) : Type 0 where
  pub beside : IsSameBeside g area old new
  pub left : (sealed_in (area_of g area new) ≡ None) ⊎ IsNewlySealed g.block epoch s kept (area_of g area new)

-- an area is sealed anew, and blank behind its seal, so that a journal can go on there
pub record IsWritten (g : Geometry) (area epoch : ℕ) (s : State) (cells : List Cell) : Type 0 where
  pub sealed : IsNewlySealed g.block epoch s [] (area_of g area cells)
  pub blank : AreBlankFrom (suc (pages_for g.block s.summary)) (area_of g area cells)

-- the same, with these journal pages before its seal
pub record IsWrittenWith (g : Geometry) (area epoch : ℕ) (s : State) (kept : List (List ℕ)) (cells : List Cell) : Type 0 where
  pub sealed : IsNewlySealed g.block epoch s kept (area_of g area cells)
  pub blank : AreBlankFrom (suc (pages_for g.block s.summary + length kept)) (area_of g area cells)

-- a program of a page of an area, by its number there
abbrev pub page_call : Geometry → ℕ → ℕ → Call
page_call g area number = program_of (spot_in g area number)

-- the calls that write a checkpoint of so many pages: an erase of each unit of the area, then a program of each page, the seal last
abbrev pub checkpoint_calls : Geometry → ℕ → ℕ → List Call
checkpoint_calls g area count = calls_from erase_of (area_unit g area) g.area_units ++ calls_from (page_call g area) 0 (count + 1)
