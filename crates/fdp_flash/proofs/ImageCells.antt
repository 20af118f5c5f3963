-- What calls and stops leave are cells of the flash: one for each page, with the bytes of a block where it is whole.
use Rattle.std.proofs.Common.{◌≡◌, ℕ, zero, suc, ◌+◌, List, [], ◌∷◌, length, slice_set, take, Some, refl, sym, ap, ◌∙◌, inl, inr}
use Rattle.std.specs.List.{slice_get}
use Rattle.std.proofs.lemmas.List.{length-set}
use Rattle.fdp_base.specs.declared.config.Geometry.{Geometry}
use Rattle.fdp_base.specs.declared.entry.Spot.{Spot}
use Rattle.fdp_base.specs.Geometry.{all_pages}
use Rattle.fdp_flash.specs.declared.answer.Operation.{Operation}
use Rattle.fdp_flash.specs.declared.answer.Operation.TheVariants.{Look, Fetch, Program, Erase}
use Rattle.fdp_flash.specs.declared.cell.Cell.{Cell}
use Rattle.fdp_flash.specs.declared.cell.Cell.TheVariants as cell
use Rattle.fdp_flash.specs.declared.memory.recorded.Recorded.{Recorded}
use Rattle.fdp_flash.specs.declared.plan.Fate.{Fate}
use Rattle.fdp_flash.specs.declared.plan.Fate.TheVariants.{Done, Fails, Refused}
use Rattle.fdp_flash.specs.declared.plan.Outcome.TheVariants.{Blank, Whole, Torn}
use Rattle.fdp_flash.specs.Cells.{AreCells, HaveBytes}
use Rattle.fdp_flash.specs.Layout.{first_page, page_number}
use Rattle.fdp_flash.specs.Noted.{HaveProgramBytes}
use Rattle.fdp_flash.specs.Recorded.{filled, after_call, replay, StopMayLeave, MayLeaveAt}
use Rattle.fdp_flash.proofs.Lists.{set_cases}
use Rattle.fdp_flash.proofs.Replay.{replay_size}
use Rattle.fdp_flash.proofs.Units.{inside_erase}

-- one cell more that is not whole, or has the bytes of a block
set_bytes : (size : ℕ) (cells : List Cell) (page : ℕ) (new : Cell) → HaveBytes size cells → ((spare bytes : List ℕ) → new ≡ cell.Whole spare bytes → length bytes ≡ size) →
    HaveBytes size (slice_set cells page new)
set_bytes size cells page new have fits k spare bytes h = elim (set_cases cells page k new (cell.Whole spare bytes) h) [
  | inl same ↦ fits spare bytes same.1
  | inr other ↦ have k spare bytes other.1
]

blank_fits : (size : ℕ) (spare bytes : List ℕ) → cell.Blank ≡ cell.Whole spare bytes → length bytes ≡ size
blank_fits size spare bytes e = absurd (let f : cell.Blank ≡ cell.Whole spare bytes = e in cc)

torn_fits : (size : ℕ) (spare bytes : List ℕ) → cell.Torn ≡ cell.Whole spare bytes → length bytes ≡ size
torn_fits size spare bytes e = absurd (let f : cell.Torn ≡ cell.Whole spare bytes = e in cc)

whole_fits : (size : ℕ) (spare bytes other_spare other : List ℕ) → length bytes ≡ size → cell.Whole spare bytes ≡ cell.Whole other_spare other → length other ≡ size
whole_fits size spare bytes other_spare other fits e = let same : bytes ≡ other = cc in rw (← same) fits

filled_bytes : (size first n : ℕ) (content : Cell) (cells : List Cell) → HaveBytes size cells → ((spare bytes : List ℕ) → content ≡ cell.Whole spare bytes → length bytes ≡ size) →
    HaveBytes size (filled first n content cells)
unfolding filled
filled_bytes size first zero content cells have fits = have
filled_bytes size first (suc n) content cells have fits = set_bytes size (filled first n content cells) (first + n) content (filled_bytes size first n content cells have fits) fits

-- a call leaves cells with the bytes of a block
call_bytes : (g : Geometry) (operation : Operation) (at : Spot) (spare bytes : List ℕ) (fate : Fate) (cells : List Cell) → HaveBytes g.block cells →
    (operation ≡ Program → length bytes ≡ g.block) → HaveBytes g.block (after_call g operation at spare bytes fate cells)
call_bytes g Look at spare bytes fate cells have fits = have
call_bytes g Fetch at spare bytes fate cells have fits = have
call_bytes g Program at spare bytes Done cells have fits = set_bytes g.block cells (page_number g at) _ have (λ s b e. whole_fits g.block spare bytes s b (fits refl) e)
call_bytes g Program at spare bytes (Fails Blank) cells have fits = set_bytes g.block cells (page_number g at) _ have (blank_fits g.block)
call_bytes g Program at spare bytes (Fails Torn) cells have fits = set_bytes g.block cells (page_number g at) _ have (torn_fits g.block)
call_bytes g Program at spare bytes (Fails Whole) cells have fits = set_bytes g.block cells (page_number g at) _ have (λ s b e. whole_fits g.block spare bytes s b (fits refl) e)
call_bytes g Program at spare bytes Refused cells have fits = have
call_bytes g Erase at spare bytes Done cells have fits = filled_bytes g.block (first_page g at.unit) g.unit_pages cell.Blank cells have (blank_fits g.block)
call_bytes g Erase at spare bytes (Fails Blank) cells have fits = filled_bytes g.block (first_page g at.unit) g.unit_pages cell.Blank cells have (blank_fits g.block)
call_bytes g Erase at spare bytes (Fails Torn) cells have fits = filled_bytes g.block (first_page g at.unit) g.unit_pages cell.Torn cells have (torn_fits g.block)
call_bytes g Erase at spare bytes (Fails Whole) cells have fits = have
call_bytes g Erase at spare bytes Refused cells have fits = have

-- calls leave cells with the bytes of a block
replay_bytes : (g : Geometry) (calls : List Recorded) (first : List Cell) → HaveBytes g.block first → HaveProgramBytes g.block calls → HaveBytes g.block (replay g calls first)
unfolding replay
replay_bytes g [] first have fits = have
replay_bytes g (call ∷ calls) first have fits =
    replay_bytes g calls (after_call g call.operation call.at call.spare call.bytes call.fate first)
    (call_bytes g call.operation call.at call.spare call.bytes call.fate first have (fits 0 call refl)) (λ k c h o. fits (suc k) c h o)

slice_get-take : (xs : List Recorded) (n k : ℕ) (x : Recorded) → slice_get (take n xs) k ≡ Some x → slice_get xs k ≡ Some x
slice_get-take xs zero k x h = absurd (let e = h in cc)
slice_get-take [] (suc n) k x h = h
slice_get-take (y ∷ xs) (suc n) zero x h = h
slice_get-take (y ∷ xs) (suc n) (suc k) x h = slice_get-take xs n k x h

-- a stop within a call leaves cells with the bytes of a block
stop_bytes : (g : Geometry) (operation : Operation) (at : Spot) (spare bytes : List ℕ) (cells image : List Cell) → HaveBytes g.block cells →
    (operation ≡ Program → length bytes ≡ g.block) → StopMayLeave operation g cells at spare bytes image → HaveBytes g.block image
stop_bytes g Look at spare bytes cells image have fits p = rw p have
stop_bytes g Fetch at spare bytes cells image have fits p = rw p have
stop_bytes g Program at spare bytes cells image have fits p = rw p.cells (set_bytes g.block cells (page_number g at) p.cell have (λ s b e. elim p.page [
  | inl blank ↦ blank_fits g.block s b (sym blank ∙ e)
  | inr rest ↦ elim rest [ inl torn ↦ torn_fits g.block s b (sym torn ∙ e) | inr whole ↦ whole_fits g.block spare bytes s b (fits refl) (sym whole ∙ e) ]
]))
stop_bytes g Erase at spare bytes cells image have fits p = λ k s b h. elim (inside_erase g cells at.unit image k p) [
  | inl same ↦ have k s b (sym same ∙ h)
  | inr rest ↦ elim rest [
    | inl blank ↦ absurd (let e : Some cell.Blank ≡ Some (cell.Whole s b) = sym blank ∙ h in cc)
    | inr torn ↦ absurd (let e : Some cell.Torn ≡ Some (cell.Whole s b) = sym torn ∙ h in cc)
  ]
]

-- a stop within a call leaves as many pages as there were
stop_size : (g : Geometry) (operation : Operation) (at : Spot) (spare bytes : List ℕ) (cells image : List Cell) → StopMayLeave operation g cells at spare bytes image → length image ≡ length cells
stop_size g Look at spare bytes cells image p = rw p refl
stop_size g Fetch at spare bytes cells image p = rw p refl
stop_size g Program at spare bytes cells image p = rw p.cells (length-set cells (page_number g at) p.cell)
stop_size g Erase at spare bytes cells image p = p.others.size

-- the image of each moment has the cells of the flash
pub image_cells : (g : Geometry) (cells first : List Cell) (calls : List Recorded) (moment : ℕ) (image : List Cell) → length cells ≡ all_pages g → HaveBytes g.block cells →
    cells ≡ replay g calls first → HaveBytes g.block first → HaveProgramBytes g.block calls → MayLeaveAt g first calls moment image → AreCells g image
image_cells g cells first calls moment image size have replayed first_bytes program_bytes (inl within) =
    let call = within.call in
    let before = take within.before calls in
    record {
      size = stop_size g call.operation call.at call.spare call.bytes (replay g before first) image within.left ∙ replay_size g before first
          ∙ sym (replay_size g calls first) ∙ sym (ap length replayed) ∙ size;
      blocks = stop_bytes g call.operation call.at call.spare call.bytes (replay g before first) image
          (replay_bytes g before first first_bytes (λ k c h o. program_bytes k c (slice_get-take calls within.before k c h) o))
          (program_bytes within.before call within.call_is) within.left;
    }
image_cells g cells first calls moment image size have replayed first_bytes program_bytes (inr behind) = record {
  size = rw (behind.1, ← replayed) size;
  blocks = rw (behind.1, ← replayed) have;
}
