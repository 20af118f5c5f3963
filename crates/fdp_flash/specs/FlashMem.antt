-- A flash in memory as contracts see it.
use Rattle.std.specs.Prelude.{◌≡◌, ℕ, Bool, IsTrue, List, [], if◌then◌else◌}
use Rattle.fdp_base.specs.declared.config.Geometry.{Geometry}
use Rattle.fdp_base.specs.declared.entry.Spot.{Spot}
use Rattle.fdp_flash.specs.declared.cell.Cell.{Cell}
use Rattle.fdp_flash.specs.declared.memory.FlashMem.{FlashMem}
use Rattle.fdp_flash.specs.declared.plan.Outcome.{Outcome}
use Rattle.fdp_flash.specs.declared.plan.Plan.{Plan}
use Rattle.fdp_base.specs.Counts.{counted}
use Rattle.fdp_flash.specs.FlashState.{FlashState}
use Rattle.fdp_flash.specs.Layout.{first_page, page_number}
use Rattle.fdp_flash.specs.MemoryState.{state_by, LeavesAllBehind}
use Rattle.fdp_flash.specs.Plan.{fate_of, fails, keeps_calls, plan_is_empty}
use Rattle.fdp_flash.specs.Recorded.{after_program, after_erase, image_by}

-- what contracts see of a flash in memory
abbrev pub state_of : FlashMem → FlashState
state_of flash = state_by flash.plan flash.geometry flash.moment flash.faults flash.programs flash.pages.cells.items flash.first.items flash.list.calls.items

-- the plan that it was made with
abbrev pub plan_of : FlashMem → Plan
plan_of flash = flash.plan

-- the call failed exactly where the plan has it fail, and that counts one fault; where it stands behind a full list of
-- calls a stop in it leaves all as it was; and the plan stays
pub record FollowsPlan (old new : FlashMem) (failed : Bool) : Type 0 where
  pub fate : failed ≡ fails (fate_of (plan_of old) (state_of new).moment)
  pub faults : (state_of new).faults ≡ (if failed then counted (state_of old).faults else (state_of old).faults)
  pub behind : LeavesAllBehind (plan_of old) (state_of old) (state_of new)
  pub plan : plan_of new ≡ plan_of old

-- the pages are as the plan says: all as they were, or what it names of the page that was to be programmed
abbrev pub ProgramsAsPlanned : FlashMem → FlashMem → Spot → List ℕ → List ℕ → Type 0
ProgramsAsPlanned old new at spare bytes =
    (state_of new).cells ≡ after_program (page_number (state_of old).geometry at) spare bytes (fate_of (plan_of old) (state_of new).moment) (state_of old).cells

-- the pages are as the plan says: all as they were, or what it names of those of the unit
abbrev pub ErasesAsPlanned : FlashMem → FlashMem → ℕ → Type 0
ErasesAsPlanned old new unit =
    (state_of new).cells ≡ after_erase (first_page (state_of old).geometry unit) (state_of old).geometry.unit_pages (fate_of (plan_of old) (state_of new).moment) (state_of old).cells

-- a flash that was just made with these cells and this plan
pub record BeginsWith (geometry : Geometry) (cells : List Cell) (plan : Plan) (flash : FlashMem) : Type 0 where
  pub geometry_is : (state_of flash).geometry ≡ geometry
  pub moment : (state_of flash).moment ≡ 0
  pub faults : (state_of flash).faults ≡ 0
  pub programs : (state_of flash).programs ≡ 0
  pub told : IsTrue (state_of flash).told
  pub cells_are : (state_of flash).cells ≡ cells
  pub reliable : (state_of flash).reliable ≡ plan_is_empty plan
  pub tells_images : (state_of flash).tells_images ≡ keeps_calls plan
  pub tells_calls : (state_of flash).tells_calls ≡ keeps_calls plan
  pub calls : (state_of flash).calls ≡ []
  pub plan_is : plan_of flash ≡ plan

-- the cells that a stop with this outcome in the call of this moment leaves: what the calls before it made of those
-- that the flash began with, and then what the outcome makes of the page that it programs or the unit that it erases
abbrev pub image_of : FlashMem → ℕ → Outcome → List Cell
image_of flash moment outcome = image_by flash.geometry flash.first.items flash.list.calls.items moment outcome
