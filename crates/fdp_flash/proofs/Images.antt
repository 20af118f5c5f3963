-- What one call more on the list makes of the images.
use Rattle.std.proofs.Common.{◌≡◌, ℕ, ◌+◌, ◌<◌, ◌≤◌, List, [], ◌∷◌, ◌++◌, length, take, Some, arith, refl, sym, ◌∙◌, inl, inr}
use Rattle.std.specs.List.{slice_get}
use Rattle.std.proofs.Math.Seq.{take-append_seam}
use Rattle.std.proofs.lemmas.List.{length-append, take-append-le}
use Rattle.fdp_base.specs.declared.config.Geometry.{Geometry}
use Rattle.fdp_base.specs.declared.entry.Spot.{Spot}
use Rattle.fdp_flash.specs.declared.answer.Operation.{Operation}
use Rattle.fdp_flash.specs.declared.cell.Cell.{Cell}
use Rattle.fdp_flash.specs.declared.memory.recorded.Recorded.{Recorded}
use Rattle.fdp_flash.specs.declared.plan.Fate.{Fate}
use Rattle.fdp_flash.specs.Noted.{NotesOne}
use Rattle.fdp_flash.specs.Recorded.{replay, StopMayLeave, MayLeaveAt}
use Rattle.fdp_flash.proofs.Lists.{slice_get-append_front, slice_get-append_last}
use Rattle.fdp_flash.proofs.Replay.{stop-bytes, bytes-stop}

pub longer : (old new : List Recorded) (call : Recorded) → new ≡ old ++ call ∷ [] → length new ≡ length old + 1
longer old new call e = rw (e, length-append old (call ∷ [])) (omega arith)

-- the images of earlier moments stay as they were
pub image_earlier : (g : Geometry) (first : List Cell) (old new : List Recorded) (call : Recorded) (m : ℕ) (image : List Cell) →
    new ≡ old ++ call ∷ [] → m ≤ length old → MayLeaveAt g first new m image → MayLeaveAt g first old m image
image_earlier g first old new call m image e early (inl within) =
    let is : within.before < length old = omega (arith, within.moment_is) in
    inl (record {
      before = within.before;
      moment_is = within.moment_is;
      call = within.call;
      call_is = sym (slice_get-append_front old (call ∷ []) within.before is) ∙ rw (← e) within.call_is;
      left = rw (sym (take-append-le within.before old (call ∷ []) (omega arith)), ← e) within.left;
    })
image_earlier g first old new call m image e early (inr behind) = absurd (omega (arith, longer old new call e, behind.0))

pub image_kept : (g : Geometry) (first : List Cell) (old new : List Recorded) (call : Recorded) (m : ℕ) (image : List Cell) →
    new ≡ old ++ call ∷ [] → m ≤ length old → MayLeaveAt g first old m image → MayLeaveAt g first new m image
image_kept g first old new call m image e early (inl within) =
    let is : within.before < length old = omega (arith, within.moment_is) in
    inl (record {
      before = within.before;
      moment_is = within.moment_is;
      call = within.call;
      call_is = rw e (slice_get-append_front old (call ∷ []) within.before is ∙ within.call_is);
      left = rw (e, take-append-le within.before old (call ∷ []) (omega arith)) within.left;
    })
image_kept g first old new call m image e early (inr behind) = absurd (omega (arith, behind.0))

-- a stop within the last call on the list leaves what a stop within that call may leave
pub image_of_call : (g : Geometry) (first : List Cell) (old new : List Recorded) (operation : Operation) (at : Spot) (fate : Fate) (spare bytes : List ℕ) (image : List Cell) →
    NotesOne old new operation at fate spare bytes → MayLeaveAt g first new (length old + 1) image → StopMayLeave operation g (replay g old first) at spare bytes image
image_of_call g first old new operation at fate spare bytes image n (inl within) =
    let here : within.before ≡ length old = omega (arith, within.moment_is) in
    let last : slice_get new within.before ≡ Some n.call = rw (here, n.list) (slice_get-append_last old n.call) in
    let is = within.call_is in
    let same : within.call ≡ n.call = cc in
    let before : take within.before new ≡ old = rw (here, n.list) (take-append_seam old (n.call ∷ [])) in
    stop-bytes g operation at spare bytes n.call.bytes (replay g old first) image n.bytes_are
    (rw (← n.operation_is, ← n.at_is, ← n.spare_is, ← same) (rw before at within.left))
image_of_call g first old new operation at fate spare bytes image n (inr behind) = absurd (omega (arith, longer old new n.call n.list, behind.0))

pub call_image : (g : Geometry) (first : List Cell) (old new : List Recorded) (operation : Operation) (at : Spot) (fate : Fate) (spare bytes : List ℕ) (image : List Cell) →
    NotesOne old new operation at fate spare bytes → StopMayLeave operation g (replay g old first) at spare bytes image → MayLeaveAt g first new (length old + 1) image
call_image g first old new operation at fate spare bytes image n p = inl (record {
  before = length old;
  moment_is = refl;
  call = n.call;
  call_is = rw n.list (slice_get-append_last old n.call);
  left =
      rw (n.list, take-append_seam old (n.call ∷ []), n.operation_is, n.at_is, n.spare_is)
      (bytes-stop g operation at spare bytes n.call.bytes (replay g old first) image n.bytes_are p);
})
