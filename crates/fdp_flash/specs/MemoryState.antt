-- A flash in memory as contracts see it, by its parts.
use Rattle.std.specs.Prelude.{◌≡◌, ℕ, ◌+◌, ◌^◌, ◌<◌, ◌≤◌, min, Bool, true, false, ◌&&◌, nat_le, nat_lt, if◌then◌else◌, IsTrue, List, length, map, Option}
use Rattle.fdp_base.specs.declared.config.Geometry.{Geometry}
use Rattle.fdp_base.specs.declared.entry.Spot.{Spot}
use Rattle.fdp_flash.specs.declared.answer.Operation.{Operation}
use Rattle.fdp_flash.specs.declared.answer.Operation.TheVariants.{Look, Fetch, Program, Erase}
use Rattle.fdp_flash.specs.declared.cell.Cell.{Cell}
use Rattle.fdp_flash.specs.declared.memory.recorded.Recorded.{Recorded}
use Rattle.fdp_flash.specs.declared.plan.Plan.{Plan}
use Rattle.fdp_flash.specs.Blocks.{HasBlocks}
use Rattle.fdp_base.specs.Counts.{counted}
use Rattle.fdp_flash.specs.FlashState.{FlashState, Begins, Ends}
use Rattle.fdp_base.specs.Geometry.{IsValidGeometry, all_pages, data_units}
use Rattle.fdp_flash.specs.Cells.{AreCells, HaveBytes}
use Rattle.fdp_flash.specs.Noted.{AllOfSize, HaveProgramBytes}
use Rattle.fdp_flash.specs.Plan.{keeps_calls, is_full_before, plan_is_empty, fate_of, fails}
use Rattle.fdp_flash.specs.Recorded.{replay, after_call, ArePlaced, StopMayLeave, MayLeaveAt, call_of}

-- the state of a flash in memory: its cells are told, its images where it keeps its calls, and its calls while all of them are on the list
abbrev pub state_by : Plan → Geometry → ℕ → ℕ → ℕ → List Cell → List Cell → List Recorded → FlashState
state_by plan geometry moment faults programs cells first calls = record {
  geometry = geometry;
  moment = moment;
  faults = faults;
  programs = programs;
  reliable = plan_is_empty plan;
  told = true;
  cells = cells;
  tells_images = keeps_calls plan;
  during = λ m image. IsTrue (keeps_calls plan) × MayLeaveAt geometry first calls m image;
  tells_calls = keeps_calls plan && nat_le moment plan.calls;
  calls = map call_of calls;
}

-- what holds of the parts of a flash in memory: among them that each page which is not whole has a block, that the
-- list is as long as it may be, that the calls on it make the cells of those that stood there first, and that each
-- image has such cells too
pub record IsSound (plan : Plan) (g : Geometry) (moment : ℕ) (cells : List Cell) (blocks : List (Option (List ℕ))) (first : List Cell) (calls : List Recorded) (call_blocks : List (List ℕ)) (capacity : ℕ) : Type 0 where
  pub geometry : IsValidGeometry g
  pub size : length cells ≡ all_pages g
  pub has_blocks : HasBlocks g.block cells blocks
  pub limit : plan.calls < 2 ^ 32
  pub listed : length calls ≡ min moment plan.calls
  pub room : length calls + length call_blocks ≡ plan.calls
  pub reserved : plan.calls ≤ capacity
  pub block_size : AllOfSize g.block call_blocks
  pub places : ArePlaced g calls
  pub program_bytes : HaveProgramBytes g.block calls
  pub first_bytes : IsTrue (keeps_calls plan) → HaveBytes g.block first
  pub replayed : IsTrue (keeps_calls plan) → cells ≡ replay g calls first
  pub images : (m : ℕ) (image : List Cell) → IsTrue (keeps_calls plan) → MayLeaveAt g first calls m image → AreCells g image

-- the count of programs after a call
abbrev pub count_of_programs : Geometry → Operation → ℕ → Bool → ℕ → ℕ
count_of_programs g Look unit failed programs = programs
count_of_programs g Fetch unit failed programs = programs
count_of_programs g Erase unit failed programs = programs
count_of_programs g Program unit true programs = programs
count_of_programs g Program unit false programs = if nat_lt unit (data_units g) then counted programs else programs

-- a stop in a call behind a full list leaves all as it was
abbrev pub LeavesAllBehind : Plan → FlashState → FlashState → Type 0
LeavesAllBehind plan old new =
    IsTrue (is_full_before plan new.moment) → old.moment < new.moment → (image : List Cell) → new.during new.moment image → image ≡ old.cells

-- a call was made, with the fate that the plan has for its moment
pub record Called (plan : Plan) (old new : FlashState) (operation : Operation) (at : Spot) (spare bytes : List ℕ) (failed : Bool) : Type 0 where
  pub begins : Begins old new
  pub ended : Ends old new (record { operation = operation; at = at; failed = failed }) (StopMayLeave operation old.geometry old.cells at spare bytes)
  pub fate : failed ≡ fails (fate_of plan new.moment)
  pub cells : new.cells ≡ after_call old.geometry operation at spare bytes (fate_of plan new.moment) old.cells
  pub faults : new.faults ≡ (if failed then counted old.faults else old.faults)
  pub programs : new.programs ≡ count_of_programs old.geometry operation at.unit failed old.programs
  pub behind : LeavesAllBehind plan old new
