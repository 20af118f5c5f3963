-- One call is a run, and runs that follow one another are one run.
use Rattle.std.proofs.Common.{◌≡◌, ◌⊎◌, ℕ, ◌-◌, ◌^◌, ◌<◌, ◌≤◌, IsTrue, Bool, true, false, List, [], ◌∷◌, length, Some, arith, refl, ap, ◌∙◌, inl, inr}
use Rattle.std.specs.List.{slice_get}
use Rattle.std.proofs.lemmas.Bool.{cases_lt}
use Rattle.std.proofs.lemmas.List.{length-append}
use Rattle.fdp_base.specs.declared.entry.Spot.{Spot}
use Rattle.fdp_flash.specs.declared.answer.Fetched.{Fetched}
use Rattle.fdp_flash.specs.declared.answer.Seen.{Seen}
use Rattle.fdp_flash.specs.declared.answer.Wrote.{Wrote}
use Rattle.fdp_flash.specs.declared.cell.Cell.{Cell}
use Rattle.fdp_base.specs.Counts.{Rose}
use Rattle.fdp_flash.specs.Answers.{Looks, Fetches, Programs, Erases}
use Rattle.fdp_flash.specs.Cells.{ProgramMayLeave, EraseMayLeave}
use Rattle.fdp_flash.specs.FlashState.{FlashState, Call, Begins, Ends, Faulted, IsWellFormed}
use Rattle.fdp_flash.specs.Runs.{Runs}
use Rattle.fdp_flash.proofs.Lists.{slice_get-append, slice_get-append_last}

-- no call was made
pub no_run : (s : FlashState) (Image : ℕ → List Cell → Type 0) → Runs s s Image
no_run s Image = record {
  geometry = refl;
  reliable = refl;
  told = refl;
  tells_images = refl;
  later = omega arith;
  faults = omega arith;
  no_fault = λ _. refl;
  programs = omega arith;
  images = λ _ m image above most d. absurd (omega arith);
  earlier = λ m image most d. d;
  kept = λ m image most d. d;
  listed_before = λ t. t;
  listed = λ _ k call h. h;
}

joined_images : (a b c : FlashState) (Image : ℕ → List Cell → Type 0) → Runs a b Image → Runs b c Image → IsTrue a.told →
    (m : ℕ) (image : List Cell) → a.moment < m → m ≤ c.moment → c.during m image → Image m image
joined_images a b c Image p q t m image above most d = elim (cases_lt b.moment m) [
  | inl late ↦ q.images (rw p.told t) m image late most d
  | inr early ↦ p.images t m image above early (q.earlier m image early d)
]

-- two runs, one after the other
pub runs_joined : (a b c : FlashState) (Image : ℕ → List Cell → Type 0) → Runs a b Image → Runs b c Image → Runs a c Image
runs_joined a b c Image p q = record {
  geometry = q.geometry ∙ p.geometry;
  reliable = q.reliable ∙ p.reliable;
  told = q.told ∙ p.told;
  tells_images = q.tells_images ∙ p.tells_images;
  later = omega arith;
  faults = omega arith;
  no_fault = λ r. q.no_fault (rw p.reliable r) ∙ p.no_fault r;
  programs = omega arith;
  images = λ t m image above most d. joined_images a b c Image p q t m image above most d;
  earlier = λ m image most d. p.earlier m image most (q.earlier m image (omega arith) d);
  kept = λ m image most d. q.kept m image (omega arith) (p.kept m image most d);
  listed_before = λ t. p.listed_before (q.listed_before t);
  listed = λ t k call h. q.listed t k call (p.listed (q.listed_before t) k call h);
}

-- what holds of each image of a run may be said more weakly
pub runs_weakened : (old new : FlashState) (Image Weaker : ℕ → List Cell → Type 0) → Runs old new Image →
    (IsTrue old.told → (m : ℕ) (image : List Cell) → old.moment < m → m ≤ new.moment → Image m image → Weaker m image) → Runs old new Weaker
runs_weakened old new Image Weaker p weaker = record {
  geometry = p.geometry;
  reliable = p.reliable;
  told = p.told;
  tells_images = p.tells_images;
  later = p.later;
  faults = p.faults;
  no_fault = p.no_fault;
  programs = p.programs;
  images = λ t m image above most d. weaker t m image above most (p.images t m image above most d);
  earlier = p.earlier;
  kept = p.kept;
  listed_before = p.listed_before;
  listed = p.listed;
}

reliable_counts : (old new : FlashState) (failed : Bool) → (failed ≡ true → Faulted old new) → (failed ≡ false → new.faults ≡ old.faults) → IsTrue old.reliable → new.faults ≡ old.faults
reliable_counts old new true fault no_fault r = let u = (fault refl).unreliable in cc
reliable_counts old new false fault no_fault r = no_fault refl

-- one call
pub run_of_call : (old new : FlashState) (call : Call) (MayLeave : List Cell → Type 0) (Image : ℕ → List Cell → Type 0) →
    Begins old new → Ends old new call MayLeave →
    (IsTrue old.told → old.moment < new.moment → (image : List Cell) → MayLeave image → Image new.moment image) → Runs old new Image
run_of_call old new call MayLeave Image b e each = record {
  geometry = b.geometry;
  reliable = b.reliable;
  told = b.told;
  tells_images = b.tells_images;
  later = b.later;
  faults = b.faults;
  no_fault = reliable_counts old new call.failed e.fault e.no_fault;
  programs = b.programs;
  images = λ t m image above most d.
      let now : m ≡ new.moment = omega arith in
      rw now (each t (omega arith) image (e.images image (omega arith) (rw now at d)));
  earlier = b.earlier;
  kept = b.kept;
  listed_before = e.listed_before;
  listed = λ t k call h. rw (e.listed t) (slice_get-append old.calls _ k call h);
}

-- a look, which leaves the cells as they were
pub run_of_look : (old new : FlashState) (at : Spot) (spare bytes : List ℕ) (result : Seen) (Image : ℕ → List Cell → Type 0) →
    Begins old new → Looks old new at spare bytes result → (IsTrue old.told → old.moment < new.moment → Image new.moment old.cells) → Runs old new Image
run_of_look old new at spare bytes result Image b a each =
    run_of_call old new _ _ Image b a.ended (λ t m image same. rw same (each t m))

-- a fetch, which leaves the cells as they were
pub run_of_fetch : (old new : FlashState) (at : Spot) (spare bytes : List ℕ) (result : Fetched) (Image : ℕ → List Cell → Type 0) →
    Begins old new → Fetches old new at spare bytes result → (IsTrue old.told → old.moment < new.moment → Image new.moment old.cells) → Runs old new Image
run_of_fetch old new at spare bytes result Image b a each =
    run_of_call old new _ _ Image b a.ended (λ t m image same. rw same (each t m))

-- a program
pub run_of_program : (old new : FlashState) (at : Spot) (spare bytes : List ℕ) (result : Wrote) (Image : ℕ → List Cell → Type 0) →
    Begins old new → Programs old new at spare bytes result →
    (IsTrue old.told → old.moment < new.moment → (image : List Cell) → ProgramMayLeave old.geometry old.cells at spare bytes image → Image new.moment image) → Runs old new Image
run_of_program old new at spare bytes result Image b a each = run_of_call old new _ _ Image b a.ended each

-- an erase
pub run_of_erase : (old new : FlashState) (unit : ℕ) (result : Wrote) (Image : ℕ → List Cell → Type 0) →
    Begins old new → Erases old new unit result →
    (IsTrue old.told → old.moment < new.moment → (image : List Cell) → EraseMayLeave old.geometry old.cells unit image → Image new.moment image) → Runs old new Image
run_of_erase old new unit result Image b a each = run_of_call old new _ _ Image b a.ended each

-- where the calls are told the last call stands on the list at its moment
pub call_is_listed : (old new : FlashState) (call : Call) (MayLeave : List Cell → Type 0) → IsWellFormed new → Ends old new call MayLeave → IsTrue new.tells_calls →
    slice_get new.calls (new.moment - 1) ≡ Some call
call_is_listed old new call MayLeave w e t =
    let listed = e.listed t in
    let count : new.moment - 1 ≡ length old.calls = omega (arith, w.calls t, ap length listed, length-append old.calls (call ∷ [])) in
    rw (count, listed) (slice_get-append_last old.calls call)

-- a fault behind a run is a fault since its beginning
pub fault_after_run : (start old new : FlashState) (Image : ℕ → List Cell → Type 0) → Runs start old Image → Faulted old new → Faulted start new
fault_after_run start old new Image run fault = record { rose = omega (arith, run.faults, fault.rose); unreliable = rw (← run.reliable) fault.unreliable }

-- a fault before a run is a fault up to its end
pub fault_before_run : (start old new : FlashState) (Image : ℕ → List Cell → Type 0) → Faulted start old → Runs old new Image → Faulted start new
fault_before_run start old new Image fault run = record { rose = omega (arith, run.faults, fault.rose); unreliable = fault.unreliable }

-- the images after one more call are those before it, and those of that call
pub one_more_image : (old new : FlashState) (call : Call) (MayLeave : List Cell → Type 0) → Begins old new → Ends old new call MayLeave →
    (m : ℕ) (image : List Cell) → m ≤ new.moment → new.during m image → ((m ≤ old.moment) × old.during m image) ⊎ ((m ≡ new.moment) × MayLeave image)
one_more_image old new call MayLeave b e m image most d = elim (cases_lt old.moment m) [
  | inl late ↦ (
      let now : m ≡ new.moment = omega (arith, b.moment) in
      inr (now, e.images image (omega arith) (rw now at d))
      )
  | inr early ↦ inl (early, b.earlier m image early d)
]

-- each image before one more call is one after it, and, where the calls are told, so is each that a stop in that call may leave
pub image_one_more : (old new : FlashState) (call : Call) (MayLeave : List Cell → Type 0) → Begins old new → Ends old new call MayLeave → IsTrue new.tells_calls →
    (m : ℕ) (image : List Cell) → ((m ≤ old.moment) × old.during m image) ⊎ ((m ≡ new.moment) × MayLeave image) → new.during m image
image_one_more old new call MayLeave b e t m image (inl before) = b.kept m image before.0 before.1
image_one_more old new call MayLeave b e t m image (inr now) = rw (now.0) (e.all_images t image now.1)

-- the moment of a call behind a run has risen since the beginning of the run
pub moment_after_run : (start old new : FlashState) (Image : ℕ → List Cell → Type 0) → Runs start old Image → Begins old new → Rose start.moment new.moment
moment_after_run start old new Image run b = omega (arith, run.later, b.moment)

-- where no fault was counted from the first of three points to the last, none was in either part
pub no_fault_between : (a b c : FlashState) (First Second : ℕ → List Cell → Type 0) → Runs a b First → Runs b c Second → c.faults ≡ a.faults → (b.faults ≡ a.faults) × (c.faults ≡ b.faults)
no_fault_between a b c First Second p q none = (omega (arith, p.faults, q.faults), omega (arith, p.faults, q.faults))

-- a fault at the last value of the count leaves it there
pub last_fault : (old new : FlashState) → IsWellFormed new → Faulted old new → old.faults ≡ 2 ^ 64 - 1 → new.faults ≡ 2 ^ 64 - 1
last_fault old new w fault last = omega (arith, w.counts.faults_are, fault.rose)
