-- What a list of calls makes of the pages, and what a stop within one of them leaves.
use Rattle.std.specs.Prelude.{◌≡◌, ◌⊎◌, ℕ, zero, suc, ◌+◌, ◌-◌, ◌<◌, List, [], ◌∷◌, length, slice_get, slice_set, take, Option, Some, None}
use Rattle.fdp_base.specs.declared.config.Geometry.{Geometry}
use Rattle.fdp_base.specs.declared.entry.Spot.{Spot}
use Rattle.fdp_flash.specs.declared.answer.Operation.{Operation}
use Rattle.fdp_flash.specs.declared.answer.Operation.TheVariants.{Look, Fetch, Program, Erase}
use Rattle.fdp_flash.specs.declared.cell.Cell.{Cell}
use Rattle.fdp_flash.specs.declared.cell.Cell.TheVariants as cell
use Rattle.fdp_flash.specs.declared.memory.recorded.Recorded.{Recorded}
use Rattle.fdp_flash.specs.declared.plan.Fate.{Fate}
use Rattle.fdp_flash.specs.declared.plan.Fate.TheVariants.{Done, Fails, Refused}
use Rattle.fdp_flash.specs.declared.plan.Outcome.{Outcome}
use Rattle.fdp_flash.specs.declared.plan.Outcome.TheVariants.{Blank, Whole, Torn}
use Rattle.fdp_flash.specs.Cells.{ProgramMayLeave, EraseMayLeave}
use Rattle.fdp_flash.specs.FlashState.{Call}
use Rattle.fdp_flash.specs.Layout.{IsIn, first_page, page_number}
use Rattle.fdp_flash.specs.Plan.{fails}

-- so many pages from this one on are all this cell
unfoldable pub filled : ℕ → ℕ → Cell → List Cell → List Cell
filled first zero content cells = cells
filled first (suc n) content cells = slice_set (filled first n content cells) (first + n) content

-- what a program with this outcome leaves of its page
abbrev pub programmed_cell : Outcome → List ℕ → List ℕ → Cell
programmed_cell Blank spare bytes = cell.Blank
programmed_cell Torn spare bytes = cell.Torn
programmed_cell Whole spare bytes = cell.Whole spare bytes

-- what a program with this fate makes of its page, if anything
abbrev pub programmed_by : List ℕ → List ℕ → Fate → Option Cell
programmed_by spare bytes Done = Some (cell.Whole spare bytes)
programmed_by spare bytes (Fails outcome) = Some (programmed_cell outcome spare bytes)
programmed_by spare bytes Refused = None

-- the pages after a program with this fate, by the number of its page
abbrev pub after_program : ℕ → List ℕ → List ℕ → Fate → List Cell → List Cell
after_program page spare bytes Done cells = slice_set cells page (cell.Whole spare bytes)
after_program page spare bytes (Fails outcome) cells = slice_set cells page (programmed_cell outcome spare bytes)
after_program page spare bytes Refused cells = cells

-- the pages after an erase with this outcome, by the number of its first page and how many it has
abbrev pub after_failed_erase : ℕ → ℕ → Outcome → List Cell → List Cell
after_failed_erase first count Blank cells = filled first count cell.Blank cells
after_failed_erase first count Torn cells = filled first count cell.Torn cells
after_failed_erase first count Whole cells = cells

-- the pages after an erase with this fate
abbrev pub after_erase : ℕ → ℕ → Fate → List Cell → List Cell
after_erase first count Done cells = filled first count cell.Blank cells
after_erase first count (Fails outcome) cells = after_failed_erase first count outcome cells
after_erase first count Refused cells = cells

-- the pages after a call with this fate
abbrev pub after_call : Geometry → Operation → Spot → List ℕ → List ℕ → Fate → List Cell → List Cell
after_call g Look at spare bytes fate cells = cells
after_call g Fetch at spare bytes fate cells = cells
after_call g Program at spare bytes fate cells = after_program (page_number g at) spare bytes fate cells
after_call g Erase at spare bytes fate cells = after_erase (first_page g at.unit) g.unit_pages fate cells

-- the pages after these calls
unfoldable pub replay : Geometry → List Recorded → List Cell → List Cell
replay g [] cells = cells
replay g (call ∷ calls) cells = replay g calls (after_call g call.operation call.at call.spare call.bytes call.fate cells)

-- each call is at a place of the flash
abbrev pub ArePlaced : Geometry → List Recorded → Type 0
ArePlaced g calls = (k : ℕ) (call : Recorded) → slice_get calls k ≡ Some call → IsIn g call.at

-- what a stop with this outcome leaves, if this is the call
abbrev pub stopped : Geometry → Option Recorded → Outcome → List Cell → List Cell
stopped g None outcome cells = cells
stopped g (Some call) outcome cells = after_call g call.operation call.at call.spare call.bytes (Fails outcome) cells

-- what a stop with this outcome in the call of this moment leaves
abbrev pub image_by : Geometry → List Cell → List Recorded → ℕ → Outcome → List Cell
image_by g first calls moment outcome = stopped g (slice_get calls (moment - 1)) outcome (replay g (take (moment - 1) calls) first)

-- what a stop within a call may leave
abbrev pub StopMayLeave : Operation → Geometry → List Cell → Spot → List ℕ → List ℕ → List Cell → Type 0
StopMayLeave Look g cells at spare bytes image = image ≡ cells
StopMayLeave Fetch g cells at spare bytes image = image ≡ cells
StopMayLeave Program g cells at spare bytes image = ProgramMayLeave g cells at spare bytes image
StopMayLeave Erase g cells at spare bytes image = EraseMayLeave g cells at.unit image

-- the call of this moment is on the list, and a stop within it may leave this image
pub record MayLeaveWithin (g : Geometry) (first : List Cell) (calls : List Recorded) (moment : ℕ) (image : List Cell) : Type 0 where
  pub before : ℕ
  pub moment_is : moment ≡ before + 1
  pub call : Recorded
  pub call_is : slice_get calls before ≡ Some call
  pub left : StopMayLeave call.operation g (replay g (take before calls) first) call.at call.spare call.bytes image

-- a stop in the call of this moment may leave this image; a call that is not on the list leaves all as it was
abbrev pub MayLeaveAt : Geometry → List Cell → List Recorded → ℕ → List Cell → Type 0
MayLeaveAt g first calls moment image = MayLeaveWithin g first calls moment image ⊎ ((length calls < moment) × (image ≡ replay g calls first))

-- a call on the list as it is told
abbrev pub call_of : Recorded → Call
call_of call = record { operation = call.operation; at = call.at; failed = fails call.fate }
