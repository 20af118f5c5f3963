-- What one call more makes of the pages and of the images.
use Rattle.std.proofs.Common.{◌≡◌, ℕ, List, [], ◌∷◌, ◌++◌, length, Some, arith, refl, sym, ◌∙◌, inl, inr}
use Rattle.std.specs.List.{slice_get}
use Rattle.std.proofs.lemmas.List.{length-set}
use Rattle.fdp_base.specs.declared.config.Geometry.{Geometry}
use Rattle.fdp_base.specs.declared.entry.Spot.{Spot}
use Rattle.fdp_flash.specs.declared.answer.Operation.{Operation}
use Rattle.fdp_flash.specs.declared.answer.Operation.TheVariants.{Look, Fetch, Program, Erase}
use Rattle.fdp_flash.specs.declared.cell.Cell.{Cell}
use Rattle.fdp_flash.specs.declared.cell.Cell.TheVariants as cell
use Rattle.fdp_flash.specs.declared.memory.recorded.Recorded.{Recorded}
use Rattle.fdp_flash.specs.declared.plan.Fate.{Fate}
use Rattle.fdp_flash.specs.declared.plan.Fate.TheVariants.{Done, Fails, Refused}
use Rattle.fdp_flash.specs.declared.plan.Outcome.{Outcome}
use Rattle.fdp_flash.specs.declared.plan.Outcome.TheVariants.{Blank, Whole, Torn}
use Rattle.fdp_base.specs.Geometry.{all_pages}
use Rattle.fdp_flash.specs.Layout.{IsIn, first_page, page_number}
use Rattle.fdp_flash.specs.Noted.{NotesOne}
use Rattle.fdp_flash.specs.Recorded.{after_call, programmed_cell, replay, StopMayLeave}
use Rattle.fdp_flash.proofs.Filled.{filled_erases, filled_torn, filled_size, erase_unchanged}
use Rattle.fdp_flash.proofs.Lists.{slice_set-same}
use Rattle.fdp_flash.proofs.Pages.{unit_fits, erased_may_leave}

pub replay-append : (g : Geometry) (calls : List Recorded) (call : Recorded) (first : List Cell) →
    replay g (calls ++ call ∷ []) first ≡ after_call g call.operation call.at call.spare call.bytes call.fate (replay g calls first)
unfolding replay
replay-append g [] call first = refl
replay-append g (c ∷ calls) call first = replay-append g calls call (after_call g c.operation c.at c.spare c.bytes c.fate first)

-- the bytes of a call count only where it programs
after_call-bytes : (g : Geometry) (operation : Operation) (at : Spot) (spare bytes other : List ℕ) (fate : Fate) (cells : List Cell) →
    (operation ≡ Program → other ≡ bytes) → after_call g operation at spare other fate cells ≡ after_call g operation at spare bytes fate cells
after_call-bytes g Look at spare bytes other fate cells e = refl
after_call-bytes g Fetch at spare bytes other fate cells e = refl
after_call-bytes g Program at spare bytes other fate cells e = rw (e refl) refl
after_call-bytes g Erase at spare bytes other fate cells e = refl

pub stop-bytes : (g : Geometry) (operation : Operation) (at : Spot) (spare bytes other : List ℕ) (cells image : List Cell) →
    (operation ≡ Program → other ≡ bytes) → StopMayLeave operation g cells at spare other image → StopMayLeave operation g cells at spare bytes image
stop-bytes g Look at spare bytes other cells image e p = p
stop-bytes g Fetch at spare bytes other cells image e p = p
stop-bytes g Program at spare bytes other cells image e p = rw (← e refl) p
stop-bytes g Erase at spare bytes other cells image e p = p

pub bytes-stop : (g : Geometry) (operation : Operation) (at : Spot) (spare bytes other : List ℕ) (cells image : List Cell) →
    (operation ≡ Program → other ≡ bytes) → StopMayLeave operation g cells at spare bytes image → StopMayLeave operation g cells at spare other image
bytes-stop g operation at spare bytes other cells image e p = stop-bytes g operation at spare other bytes cells image (λ q. sym (e q)) p

-- a stop may leave all as it was
pub stop_unchanged : (g : Geometry) (operation : Operation) (at : Spot) (spare bytes : List ℕ) (cells : List Cell) →
    (operation ≡ Program → slice_get cells (page_number g at) ≡ Some cell.Blank) → StopMayLeave operation g cells at spare bytes cells
stop_unchanged g Look at spare bytes cells blank = refl
stop_unchanged g Fetch at spare bytes cells blank = refl
stop_unchanged g Program at spare bytes cells blank = record {
  cell = cell.Blank;
  page = inl refl;
  cells = sym (slice_set-same cells (page_number g at) cell.Blank (blank refl));
}
stop_unchanged g Erase at spare bytes cells blank = erase_unchanged g at.unit cells

-- a stop with an outcome leaves what a stop may leave
pub outcome_may_leave : (g : Geometry) (operation : Operation) (at : Spot) (spare bytes : List ℕ) (outcome : Outcome) (cells : List Cell) →
    IsIn g at → length cells ≡ all_pages g → StopMayLeave operation g cells at spare bytes (after_call g operation at spare bytes (Fails outcome) cells)
outcome_may_leave g Look at spare bytes outcome cells i size = refl
outcome_may_leave g Fetch at spare bytes outcome cells i size = refl
outcome_may_leave g Program at spare bytes Blank cells i size = record { cell = cell.Blank; page = inl refl; cells = refl }
outcome_may_leave g Program at spare bytes Torn cells i size = record { cell = cell.Torn; page = inr (inl refl); cells = refl }
outcome_may_leave g Program at spare bytes Whole cells i size = record { cell = cell.Whole spare bytes; page = inr (inr refl); cells = refl }
outcome_may_leave g Erase at spare bytes Blank cells i size =
    let fits = unit_fits g at.unit i.unit in erased_may_leave _ _ _ _ (filled_erases g at.unit cells (omega arith))
outcome_may_leave g Erase at spare bytes Torn cells i size = let fits = unit_fits g at.unit i.unit in filled_torn g at.unit cells (omega arith)
outcome_may_leave g Erase at spare bytes Whole cells i size = erase_unchanged g at.unit cells

-- a call leaves what a stop within it may leave
pub call_may_leave : (g : Geometry) (operation : Operation) (at : Spot) (spare bytes : List ℕ) (fate : Fate) (cells : List Cell) →
    IsIn g at → length cells ≡ all_pages g → (operation ≡ Program → slice_get cells (page_number g at) ≡ Some cell.Blank) →
    StopMayLeave operation g cells at spare bytes (after_call g operation at spare bytes fate cells)
call_may_leave g Look at spare bytes fate cells i size blank = refl
call_may_leave g Fetch at spare bytes fate cells i size blank = refl
call_may_leave g Program at spare bytes Done cells i size blank = outcome_may_leave g Program at spare bytes Whole cells i size
call_may_leave g Program at spare bytes (Fails outcome) cells i size blank = outcome_may_leave g Program at spare bytes outcome cells i size
call_may_leave g Program at spare bytes Refused cells i size blank = stop_unchanged g Program at spare bytes cells blank
call_may_leave g Erase at spare bytes Done cells i size blank = outcome_may_leave g Erase at spare bytes Blank cells i size
call_may_leave g Erase at spare bytes (Fails outcome) cells i size blank = outcome_may_leave g Erase at spare bytes outcome cells i size
call_may_leave g Erase at spare bytes Refused cells i size blank = erase_unchanged g at.unit cells

-- the calls on the list after one more make what that call makes
pub replay-noted : (g : Geometry) (old new : List Recorded) (first : List Cell) (operation : Operation) (at : Spot) (fate : Fate) (spare bytes : List ℕ) →
    NotesOne old new operation at fate spare bytes → replay g new first ≡ after_call g operation at spare bytes fate (replay g old first)
replay-noted g old new first operation at fate spare bytes n =
    rw (n.list, replay-append g old n.call first, n.operation_is, n.at_is, n.spare_is, n.fate_is)
    (after_call-bytes g operation at spare bytes n.call.bytes fate (replay g old first) n.bytes_are)

-- a refused call leaves all as it was
pub refused_changes_nothing : (g : Geometry) (operation : Operation) (at : Spot) (spare bytes : List ℕ) (cells : List Cell) → after_call g operation at spare bytes Refused cells ≡ cells
refused_changes_nothing g Look at spare bytes cells = refl
refused_changes_nothing g Fetch at spare bytes cells = refl
refused_changes_nothing g Program at spare bytes cells = refl
refused_changes_nothing g Erase at spare bytes cells = refl

-- a call leaves as many pages as there were
pub call_size : (g : Geometry) (operation : Operation) (at : Spot) (spare bytes : List ℕ) (fate : Fate) (cells : List Cell) → length (after_call g operation at spare bytes fate cells) ≡ length cells
call_size g Look at spare bytes fate cells = refl
call_size g Fetch at spare bytes fate cells = refl
call_size g Program at spare bytes Done cells = length-set cells (page_number g at) (cell.Whole spare bytes)
call_size g Program at spare bytes (Fails outcome) cells = length-set cells (page_number g at) (programmed_cell outcome spare bytes)
call_size g Program at spare bytes Refused cells = refl
call_size g Erase at spare bytes Done cells = filled_size (first_page g at.unit) g.unit_pages cell.Blank cells
call_size g Erase at spare bytes (Fails Blank) cells = filled_size (first_page g at.unit) g.unit_pages cell.Blank cells
call_size g Erase at spare bytes (Fails Torn) cells = filled_size (first_page g at.unit) g.unit_pages cell.Torn cells
call_size g Erase at spare bytes (Fails Whole) cells = refl
call_size g Erase at spare bytes Refused cells = refl

-- no calls change nothing
pub replay-none : (g : Geometry) (first : List Cell) → replay g [] first ≡ first
unfolding replay
replay-none g first = refl

-- calls leave as many pages as there were
pub replay_size : (g : Geometry) (calls : List Recorded) (first : List Cell) → length (replay g calls first) ≡ length first
unfolding replay
replay_size g [] first = refl
replay_size g (call ∷ calls) first =
    replay_size g calls (after_call g call.operation call.at call.spare call.bytes call.fate first) ∙ call_size g call.operation call.at call.spare call.bytes call.fate first
