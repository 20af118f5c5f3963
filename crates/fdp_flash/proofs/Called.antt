-- One call of a flash in memory: its state is sound after it, and it did what the plan says.
use Rattle.std.proofs.Common.{◌≡◌, ◌⊎◌, ℕ, ◌+◌, ◌^◌, ◌<◌, ◌≤◌, ◌&&◌, nat_le, nat_lt, if◌then◌else◌, Bool, true, false, IsTrue, List, [], ◌∷◌, length, Option, Some, arith, refl, sym, ap, ◌∙◌, inl, inr}
use Rattle.std.specs.List.{slice_get}
use Rattle.std.proofs.lemmas.Bool.{cases_lt, and_parts, and_from, leb-true, le-leb, ltb-true}
use Rattle.std.proofs.lemmas.List.{map-append}
use Rattle.std.proofs.lemmas.Option.{slice_get_within}
use Rattle.fdp_base.specs.declared.config.Geometry.{Geometry}
use Rattle.fdp_base.specs.declared.entry.Spot.{Spot}
use Rattle.fdp_flash.specs.declared.answer.Operation.{Operation}
use Rattle.fdp_flash.specs.declared.answer.Operation.TheVariants.{Look, Fetch, Program, Erase}
use Rattle.fdp_flash.specs.declared.cell.Cell.{Cell}
use Rattle.fdp_flash.specs.declared.cell.Cell.TheVariants.{Blank}
use Rattle.fdp_flash.specs.declared.memory.recorded.Recorded.{Recorded}
use Rattle.fdp_flash.specs.declared.plan.Fate.{Fate}
use Rattle.fdp_flash.specs.declared.plan.Fate.TheVariants.{Refused}
use Rattle.fdp_flash.specs.declared.plan.Plan.{Plan}
use Rattle.fdp_flash.specs.Blocks.{HasBlocks}
use Rattle.fdp_base.specs.Counts.{counted}
use Rattle.fdp_flash.specs.FlashState.{Begins, Ends}
use Rattle.fdp_flash.specs.Layout.{IsIn, page_number}
use Rattle.fdp_flash.specs.MemoryState.{state_by, IsSound, Called, count_of_programs}
use Rattle.fdp_flash.specs.Noted.{Notes, NotesOne, HaveProgramBytes}
use Rattle.fdp_flash.specs.Plan.{keeps_calls, is_full_before, fate_of, fails}
use Rattle.fdp_flash.specs.Recorded.{replay, after_call, StopMayLeave, MayLeaveAt, call_of, ArePlaced}
use Rattle.fdp_flash.proofs.Fates.{failure_is_planned, full_list_refuses}
use Rattle.fdp_flash.proofs.ImageCells.{image_cells}
use Rattle.fdp_flash.proofs.Images.{image_earlier, image_kept, image_of_call, call_image, longer}
use Rattle.fdp_flash.proofs.Lists.{append_cases}
use Rattle.fdp_flash.proofs.Replay.{replay-noted, stop_unchanged, refused_changes_nothing, call_size}

-- the parts of a flash before a call, and what the call did to them
pub record Step (plan : Plan) (g : Geometry) (m faults programs : ℕ) (cells : List Cell) (old : List Recorded) (first : List Cell)
    (m' faults' programs' : ℕ) (cells' : List Cell) (new : List Recorded)
    (operation : Operation) (at : Spot) (spare bytes : List ℕ) (fate : Fate) (failed : Bool) : Type 0 where
  pub blocks : List (Option (List ℕ))
  pub blocks' : List (Option (List ℕ))
  pub call_blocks : List (List ℕ)
  pub call_blocks' : List (List ℕ)
  pub capacity : ℕ
  pub capacity' : ℕ
  pub sound : IsSound plan g m cells blocks first old call_blocks capacity
  pub small : m < 2 ^ 64
  pub small_faults : faults < 2 ^ 64
  pub small_programs : programs < 2 ^ 64
  pub place : IsIn g at
  pub size : operation ≡ Program → length bytes ≡ g.block
  pub blank : operation ≡ Program → slice_get cells (page_number g at) ≡ Some Blank
  pub moment : m' ≡ counted m
  pub fate_is : fate ≡ fate_of plan m'
  pub failed_is : failed ≡ fails fate
  pub noted : Notes old new call_blocks call_blocks' operation at fate spare bytes
  pub capacity_same : capacity' ≡ capacity
  pub cells_are : cells' ≡ after_call g operation at spare bytes fate cells
  pub has_blocks : HasBlocks g.block cells' blocks'
  pub faults_are : faults' ≡ (if failed then counted faults else faults)
  pub programs_are : programs' ≡ count_of_programs g operation at.unit failed programs

-- a call is noted while the list has room
step_noted : (plan : Plan) (g : Geometry) (m faults programs : ℕ) (cells : List Cell) (old : List Recorded) (first : List Cell)
    (m' faults' programs' : ℕ) (cells' : List Cell) (new : List Recorded)
    (operation : Operation) (at : Spot) (spare bytes : List ℕ) (fate : Fate) (failed : Bool) →
    Step plan g m faults programs cells old first m' faults' programs' cells' new operation at spare bytes fate failed →
    (NotesOne old new operation at fate spare bytes × (m < plan.calls) × (length old ≡ m) × (m' ≡ m + 1)) ⊎ ((new ≡ old) × (plan.calls ≤ m) × (length old ≡ plan.calls))
step_noted plan g m faults programs cells old first m' faults' programs' cells' new operation at spare bytes fate failed s =
    elim (cases_lt m plan.calls) [
      | inl more ↦ inl (s.noted.noted (omega (arith, s.sound.room, s.sound.listed)), more, omega (arith, s.sound.listed), omega (arith, s.moment, s.sound.limit))
      | inr full ↦ inr (s.noted.full (omega (arith, s.sound.room, s.sound.listed)), full, omega (arith, s.sound.listed))
    ]

programs_fall_never : (g : Geometry) (operation : Operation) (unit : ℕ) (failed : Bool) (programs : ℕ) → programs < 2 ^ 64 → programs ≤ count_of_programs g operation unit failed programs
programs_fall_never g Look unit failed programs h = omega arith
programs_fall_never g Fetch unit failed programs h = omega arith
programs_fall_never g Erase unit failed programs h = omega arith
programs_fall_never g Program unit true programs h = omega arith
programs_fall_never g Program unit false programs h = grind arith

-- what a call that is not noted leaves: it was refused
step_full : (plan : Plan) (g : Geometry) (m faults programs : ℕ) (cells : List Cell) (old : List Recorded) (first : List Cell)
    (m' faults' programs' : ℕ) (cells' : List Cell) (new : List Recorded)
    (operation : Operation) (at : Spot) (spare bytes : List ℕ) (fate : Fate) (failed : Bool) →
    Step plan g m faults programs cells old first m' faults' programs' cells' new operation at spare bytes fate failed → IsTrue (keeps_calls plan) → plan.calls ≤ m → cells' ≡ cells
step_full plan g m faults programs cells old first m' faults' programs' cells' new operation at spare bytes fate failed s keeps full =
    let refused : fate_of plan m' ≡ Refused = full_list_refuses plan m' keeps (omega (arith, s.moment, s.sound.limit)) in
    s.cells_are ∙ rw (s.fate_is, refused) (refused_changes_nothing g operation at spare bytes cells)

step_replayed : (plan : Plan) (g : Geometry) (m faults programs : ℕ) (cells : List Cell) (old : List Recorded) (first : List Cell)
    (m' faults' programs' : ℕ) (cells' : List Cell) (new : List Recorded)
    (operation : Operation) (at : Spot) (spare bytes : List ℕ) (fate : Fate) (failed : Bool) →
    Step plan g m faults programs cells old first m' faults' programs' cells' new operation at spare bytes fate failed → IsTrue (keeps_calls plan) → cells' ≡ replay g new first
step_replayed plan g m faults programs cells old first m' faults' programs' cells' new operation at spare bytes fate failed s keeps =
    let before = s.sound.replayed keeps in
    elim (step_noted plan g m faults programs cells old first m' faults' programs' cells' new operation at spare bytes fate failed s) [
      | inl noted ↦ s.cells_are ∙ rw (before) (sym (replay-noted g old new first operation at fate spare bytes noted.0))
      | inr full ↦ step_full plan g m faults programs cells old first m' faults' programs' cells' new operation at spare bytes fate failed s keeps full.1 ∙ rw full.0 before
    ]

places_more : (g : Geometry) (old new : List Recorded) (operation : Operation) (at : Spot) (fate : Fate) (spare bytes : List ℕ) → ArePlaced g old → IsIn g at → NotesOne old new operation at fate spare bytes → ArePlaced g new
places_more g old new operation at fate spare bytes p i n k call h = elim (append_cases old n.call call k (rw n.list at h)) [
  | inl there ↦ p k call there
  | inr last ↦ rw (← last.1, n.at_is) i
]

program_bytes_more : (size : ℕ) (old new : List Recorded) (operation : Operation) (at : Spot) (fate : Fate) (spare bytes : List ℕ) → HaveProgramBytes size old →
    (operation ≡ Program → length bytes ≡ size) → NotesOne old new operation at fate spare bytes → HaveProgramBytes size new
program_bytes_more size old new operation at fate spare bytes p fits n k call h o = elim (append_cases old n.call call k (rw n.list at h)) [
  | inl there ↦ p k call there o
  | inr last ↦ (let is : operation ≡ Program = sym n.operation_is ∙ ap (λ (c : Recorded). c.operation) last.1 ∙ o in rw (← last.1, n.bytes_are is) (fits is))
]

-- the flash is sound after a call
pub step_sound : (plan : Plan) (g : Geometry) (m faults programs : ℕ) (cells : List Cell) (old : List Recorded) (first : List Cell)
    (m' faults' programs' : ℕ) (cells' : List Cell) (new : List Recorded)
    (operation : Operation) (at : Spot) (spare bytes : List ℕ) (fate : Fate) (failed : Bool) →
    (s : Step plan g m faults programs cells old first m' faults' programs' cells' new operation at spare bytes fate failed) → IsSound plan g m' cells' s.blocks' first new s.call_blocks' s.capacity'
step_sound plan g m faults programs cells old first m' faults' programs' cells' new operation at spare bytes fate failed s =
    let size = ap length s.cells_are ∙ call_size g operation at spare bytes fate cells ∙ s.sound.size in
    let replayed = step_replayed plan g m faults programs cells old first m' faults' programs' cells' new operation at spare bytes fate failed s in
    let program_bytes : HaveProgramBytes g.block new = elim (step_noted plan g m faults programs cells old first m' faults' programs' cells' new operation at spare bytes fate failed s) [
      | inl noted ↦ program_bytes_more g.block old new operation at fate spare bytes s.sound.program_bytes s.size noted.0
      | inr full ↦ rw full.0 s.sound.program_bytes
    ] in
    record {
      geometry = s.sound.geometry;
      size = size;
      has_blocks = s.has_blocks;
      limit = s.sound.limit;
      listed = elim (step_noted plan g m faults programs cells old first m' faults' programs' cells' new operation at spare bytes fate failed s) [
        | inl noted ↦ omega (arith, longer old new noted.0.call noted.0.list, noted)
        | inr full ↦ omega (arith, s.moment, s.small, s.sound.limit, ap length full.0, full)
      ];
      room = elim (step_noted plan g m faults programs cells old first m' faults' programs' cells' new operation at spare bytes fate failed s) [
        | inl noted ↦ omega (arith, longer old new noted.0.call noted.0.list, s.noted.taken (omega (arith, s.sound.room, noted)), s.sound.room)
        | inr full ↦ omega (arith, ap length full.0, ap length (s.noted.none_taken (omega (arith, s.sound.room, full))), s.sound.room)
      ];
      reserved = omega (arith, s.capacity_same, s.sound.reserved);
      block_size = s.noted.sizes g.block s.sound.block_size;
      places = elim (step_noted plan g m faults programs cells old first m' faults' programs' cells' new operation at spare bytes fate failed s) [
        | inl noted ↦ places_more g old new operation at fate spare bytes s.sound.places s.place noted.0
        | inr full ↦ rw full.0 s.sound.places
      ];
      program_bytes = program_bytes;
      first_bytes = s.sound.first_bytes;
      replayed = replayed;
      images = λ t image keeps d. image_cells g cells' first new t image size s.has_blocks.whole (replayed keeps) (s.sound.first_bytes keeps) program_bytes d;
    }

step_earlier : (plan : Plan) (g : Geometry) (m faults programs : ℕ) (cells : List Cell) (old : List Recorded) (first : List Cell)
    (m' faults' programs' : ℕ) (cells' : List Cell) (new : List Recorded)
    (operation : Operation) (at : Spot) (spare bytes : List ℕ) (fate : Fate) (failed : Bool) →
    Step plan g m faults programs cells old first m' faults' programs' cells' new operation at spare bytes fate failed → (t : ℕ) (image : List Cell) → t ≤ m → MayLeaveAt g first new t image → MayLeaveAt g first old t image
step_earlier plan g m faults programs cells old first m' faults' programs' cells' new operation at spare bytes fate failed s t image early d =
    elim (step_noted plan g m faults programs cells old first m' faults' programs' cells' new operation at spare bytes fate failed s) [
      | inl noted ↦ image_earlier g first old new noted.0.call t image noted.0.list (omega (arith, noted)) d
      | inr full ↦ rw full.0 at d
    ]

step_kept : (plan : Plan) (g : Geometry) (m faults programs : ℕ) (cells : List Cell) (old : List Recorded) (first : List Cell)
    (m' faults' programs' : ℕ) (cells' : List Cell) (new : List Recorded)
    (operation : Operation) (at : Spot) (spare bytes : List ℕ) (fate : Fate) (failed : Bool) →
    Step plan g m faults programs cells old first m' faults' programs' cells' new operation at spare bytes fate failed → (t : ℕ) (image : List Cell) → t ≤ m → MayLeaveAt g first old t image → MayLeaveAt g first new t image
step_kept plan g m faults programs cells old first m' faults' programs' cells' new operation at spare bytes fate failed s t image early d =
    elim (step_noted plan g m faults programs cells old first m' faults' programs' cells' new operation at spare bytes fate failed s) [
      | inl noted ↦ image_kept g first old new noted.0.call t image noted.0.list (omega (arith, noted)) d
      | inr full ↦ rw full.0 d
    ]

faults_fall_never : (faults : ℕ) (failed : Bool) → faults < 2 ^ 64 → faults ≤ (if failed then counted faults else faults)
faults_fall_never faults true small = omega arith
faults_fall_never faults false small = omega arith

fault_counted : (faults faults' : ℕ) (failed : Bool) → faults' ≡ (if failed then counted faults else faults) → failed ≡ true → faults' ≡ counted faults
fault_counted faults faults' true e f = e
fault_counted faults faults' false e f = cc

no_fault_counted : (faults faults' : ℕ) (failed : Bool) → faults' ≡ (if failed then counted faults else faults) → failed ≡ false → faults' ≡ faults
no_fault_counted faults faults' true e f = cc
no_fault_counted faults faults' false e f = e

step_begins : (plan : Plan) (g : Geometry) (m faults programs : ℕ) (cells : List Cell) (old : List Recorded) (first : List Cell)
    (m' faults' programs' : ℕ) (cells' : List Cell) (new : List Recorded)
    (operation : Operation) (at : Spot) (spare bytes : List ℕ) (fate : Fate) (failed : Bool) →
    Step plan g m faults programs cells old first m' faults' programs' cells' new operation at spare bytes fate failed → Begins (state_by plan g m faults programs cells first old) (state_by plan g m' faults' programs' cells' first new)
step_begins plan g m faults programs cells old first m' faults' programs' cells' new operation at spare bytes fate failed s = record {
  geometry = refl;
  moment = s.moment;
  later = omega (arith, s.moment, s.small);
  faults = rw s.faults_are (faults_fall_never faults failed s.small_faults);
  programs = rw s.programs_are (programs_fall_never g operation at.unit failed programs s.small_programs);
  reliable = refl;
  told = refl;
  tells_images = refl;
  earlier = λ t image early d. (d.0, step_earlier plan g m faults programs cells old first m' faults' programs' cells' new operation at spare bytes fate failed s t image early d.1);
  kept = λ t image early d. (d.0, step_kept plan g m faults programs cells old first m' faults' programs' cells' new operation at spare bytes fate failed s t image early d.1);
}

step_image : (plan : Plan) (g : Geometry) (m faults programs : ℕ) (cells : List Cell) (old : List Recorded) (first : List Cell)
    (m' faults' programs' : ℕ) (cells' : List Cell) (new : List Recorded)
    (operation : Operation) (at : Spot) (spare bytes : List ℕ) (fate : Fate) (failed : Bool) →
    Step plan g m faults programs cells old first m' faults' programs' cells' new operation at spare bytes fate failed → (image : List Cell) → m < m' → IsTrue (keeps_calls plan) → MayLeaveAt g first new m' image → StopMayLeave operation g cells at spare bytes image
step_image plan g m faults programs cells old first m' faults' programs' cells' new operation at spare bytes fate failed s image later keeps d =
    let before = s.sound.replayed keeps in
    elim (step_noted plan g m faults programs cells old first m' faults' programs' cells' new operation at spare bytes fate failed s) [
      | inl noted ↦ rw before (image_of_call g first old new operation at fate spare bytes image noted.0 (let e : m' ≡ length old + 1 = omega (arith, noted) in rw e at d))
      | inr full ↦ elim d [
        | inl within ↦ absurd (omega (arith, within.moment_is, slice_get_within new within.before within.call within.call_is, ap length full.0, full, s.moment))
        | inr behind ↦ rw (behind.1, full.0, ← before) (stop_unchanged g operation at spare bytes cells s.blank)
      ]
    ]

-- a call behind a full list leaves no image but the cells
step_behind : (plan : Plan) (g : Geometry) (m faults programs : ℕ) (cells : List Cell) (old : List Recorded) (first : List Cell)
    (m' faults' programs' : ℕ) (cells' : List Cell) (new : List Recorded)
    (operation : Operation) (at : Spot) (spare bytes : List ℕ) (fate : Fate) (failed : Bool) →
    Step plan g m faults programs cells old first m' faults' programs' cells' new operation at spare bytes fate failed → IsTrue (is_full_before plan m') → (image : List Cell) →
    IsTrue (keeps_calls plan) → MayLeaveAt g first new m' image → image ≡ cells
step_behind plan g m faults programs cells old first m' faults' programs' cells' new operation at spare bytes fate failed s full_before image keeps d =
    let before = s.sound.replayed keeps in
    let behind : plan.calls < m' = ltb-true plan.calls m' (and_parts (keeps_calls plan) (nat_lt plan.calls m') full_before).1 in
    elim (step_noted plan g m faults programs cells old first m' faults' programs' cells' new operation at spare bytes fate failed s) [
      | inl noted ↦ absurd (omega (arith, noted, behind))
      | inr full ↦ elim d [
        | inl within ↦ absurd (omega (arith, within.moment_is, slice_get_within new within.before within.call within.call_is, ap length full.0, full, behind))
        | inr left ↦ rw (left.1, full.0) (sym before)
      ]
    ]

step_unchanged : (plan : Plan) (g : Geometry) (m faults programs : ℕ) (cells : List Cell) (old : List Recorded) (first : List Cell)
    (m' faults' programs' : ℕ) (cells' : List Cell) (new : List Recorded)
    (operation : Operation) (at : Spot) (spare bytes : List ℕ) (fate : Fate) (failed : Bool) →
    Step plan g m faults programs cells old first m' faults' programs' cells' new operation at spare bytes fate failed → m < m' → IsTrue (keeps_calls plan) → MayLeaveAt g first new m' cells
step_unchanged plan g m faults programs cells old first m' faults' programs' cells' new operation at spare bytes fate failed s later keeps =
    let before = s.sound.replayed keeps in
    elim (step_noted plan g m faults programs cells old first m' faults' programs' cells' new operation at spare bytes fate failed s) [
      | inl noted ↦
          let e : m' ≡ length old + 1 = omega (arith, noted) in
          rw e (call_image g first old new operation at fate spare bytes cells noted.0 (rw (← before) (stop_unchanged g operation at spare bytes cells s.blank)))
      | inr full ↦ inr (omega (arith, ap length full.0, full), rw full.0 before)
    ]

call_of_noted : (call : Recorded) (operation : Operation) (at : Spot) (fate : Fate) (failed : Bool) →
    call.operation ≡ operation → call.at ≡ at → call.fate ≡ fate → failed ≡ fails fate → call_of call ≡ record { operation = operation; at = at; failed = failed }
call_of_noted call operation at fate failed o a f e = rw (o, a, f, e) refl

-- where the calls are told the list has room for this one
step_told : (plan : Plan) (g : Geometry) (m faults programs : ℕ) (cells : List Cell) (old : List Recorded) (first : List Cell)
    (m' faults' programs' : ℕ) (cells' : List Cell) (new : List Recorded)
    (operation : Operation) (at : Spot) (spare bytes : List ℕ) (fate : Fate) (failed : Bool) →
    Step plan g m faults programs cells old first m' faults' programs' cells' new operation at spare bytes fate failed → IsTrue (keeps_calls plan && nat_le m' plan.calls) →
    (IsTrue (keeps_calls plan)) × NotesOne old new operation at fate spare bytes × (length old ≡ m) × (m' ≡ m + 1) × (m < plan.calls)
step_told plan g m faults programs cells old first m' faults' programs' cells' new operation at spare bytes fate failed s tells =
    let parts = and_parts (keeps_calls plan) (nat_le m' plan.calls) tells in
    let most : m' ≤ plan.calls = leb-true m' plan.calls parts.1 in
    elim (step_noted plan g m faults programs cells old first m' faults' programs' cells' new operation at spare bytes fate failed s) [
      | inl noted ↦ (parts.0, noted.0, noted.2, noted.3, noted.1)
      | inr full ↦ absurd (omega (arith, most, s.moment, s.small, s.sound.limit, full))
    ]

step_ends : (plan : Plan) (g : Geometry) (m faults programs : ℕ) (cells : List Cell) (old : List Recorded) (first : List Cell)
    (m' faults' programs' : ℕ) (cells' : List Cell) (new : List Recorded)
    (operation : Operation) (at : Spot) (spare bytes : List ℕ) (fate : Fate) (failed : Bool) →
    Step plan g m faults programs cells old first m' faults' programs' cells' new operation at spare bytes fate failed →
    Ends (state_by plan g m faults programs cells first old) (state_by plan g m' faults' programs' cells' first new) (record { operation = operation; at = at; failed = failed }) (StopMayLeave operation g cells at spare bytes)
step_ends plan g m faults programs cells old first m' faults' programs' cells' new operation at spare bytes fate failed s = record {
  fault = λ e. record { rose = omega (arith, fault_counted faults faults' failed s.faults_are e); unreliable = failure_is_planned plan m' (rw (← s.fate_is, ← s.failed_is) e) };
  no_fault = no_fault_counted faults faults' failed s.faults_are;
  listed_before = λ tells.
      let told = step_told plan g m faults programs cells old first m' faults' programs' cells' new operation at spare bytes fate failed s tells in
      and_from (keeps_calls plan) (nat_le m plan.calls) told.0 (le-leb m plan.calls (omega (arith, told)));
  listed = λ tells.
      let told = step_told plan g m faults programs cells old first m' faults' programs' cells' new operation at spare bytes fate failed s tells in
      rw (told.1.list, map-append call_of old (told.1.call ∷ []), call_of_noted told.1.call operation at fate failed told.1.operation_is told.1.at_is told.1.fate_is s.failed_is) refl;
  images = λ image later d. step_image plan g m faults programs cells old first m' faults' programs' cells' new operation at spare bytes fate failed s image later d.0 d.1;
  all_images = λ tells image left.
      let told = step_told plan g m faults programs cells old first m' faults' programs' cells' new operation at spare bytes fate failed s tells in
      (told.0, rw (told.3, ← told.2) (call_image g first old new operation at fate spare bytes image told.1 (rw (← s.sound.replayed told.0) left)));
  unchanged_image = λ keeps later. (keeps, step_unchanged plan g m faults programs cells old first m' faults' programs' cells' new operation at spare bytes fate failed s later keeps);
}

-- a call does what the plan says
pub step_called : (plan : Plan) (g : Geometry) (m faults programs : ℕ) (cells : List Cell) (old : List Recorded) (first : List Cell)
    (m' faults' programs' : ℕ) (cells' : List Cell) (new : List Recorded)
    (operation : Operation) (at : Spot) (spare bytes : List ℕ) (fate : Fate) (failed : Bool) →
    Step plan g m faults programs cells old first m' faults' programs' cells' new operation at spare bytes fate failed → Called plan (state_by plan g m faults programs cells first old) (state_by plan g m' faults' programs' cells' first new) operation at spare bytes failed
step_called plan g m faults programs cells old first m' faults' programs' cells' new operation at spare bytes fate failed s = record {
  begins = step_begins plan g m faults programs cells old first m' faults' programs' cells' new operation at spare bytes fate failed s;
  ended = step_ends plan g m faults programs cells old first m' faults' programs' cells' new operation at spare bytes fate failed s;
  fate = rw (← s.fate_is) s.failed_is;
  cells = rw (← s.fate_is) s.cells_are;
  faults = s.faults_are;
  programs = s.programs_are;
  behind = λ full later image d. step_behind plan g m faults programs cells old first m' faults' programs' cells' new operation at spare bytes fate failed s full image d.0 d.1;
}
