-- The image of a call on the list.
use Rattle.std.proofs.Common.{◌≡◌, ℕ, ◌-◌, ◌<◌, ◌≤◌, IsTrue, List, length, take, Option, arith, sym, ap, ◌∙◌, inl}
use Rattle.std.proofs.lemmas.Bool.{lt-ltb}
use Rattle.fdp_base.specs.declared.config.Geometry.{Geometry}
use Rattle.fdp_flash.specs.declared.cell.Cell.{Cell}
use Rattle.fdp_flash.specs.declared.memory.recorded.Recorded.{Recorded}
use Rattle.fdp_flash.specs.declared.plan.Outcome.{Outcome}
use Rattle.fdp_flash.specs.declared.plan.Plan.{Plan}
use Rattle.fdp_base.specs.Geometry.{all_pages}
use Rattle.fdp_flash.specs.MemoryState.{IsSound}
use Rattle.fdp_flash.specs.Plan.{keeps_calls}
use Rattle.fdp_flash.specs.Recorded.{replay, image_by, MayLeaveAt}
use Rattle.fdp_flash.proofs.Lists.{slice_get_there}
use Rattle.fdp_flash.proofs.Replay.{outcome_may_leave, replay_size}

-- a call on the list is one of a flash that keeps its calls
pub recorded_keeps : (plan : Plan) (g : Geometry) (m : ℕ) (cells : List Cell) (blocks : List (Option (List ℕ))) (first : List Cell) (calls : List Recorded) (call_blocks : List (List ℕ)) (capacity moment : ℕ) →
    IsSound plan g m cells blocks first calls call_blocks capacity → 0 < moment → moment ≤ length calls → IsTrue (keeps_calls plan)
recorded_keeps plan g m cells blocks first calls call_blocks capacity moment s least most = lt-ltb 0 plan.calls (omega (arith, s.room))

-- the cells that it began with are as many as there are pages
pub recorded_first : (plan : Plan) (g : Geometry) (m : ℕ) (cells : List Cell) (blocks : List (Option (List ℕ))) (first : List Cell) (calls : List Recorded) (call_blocks : List (List ℕ)) (capacity moment : ℕ) →
    IsSound plan g m cells blocks first calls call_blocks capacity → 0 < moment → moment ≤ length calls → length first ≡ all_pages g
recorded_first plan g m cells blocks first calls call_blocks capacity moment s least most =
    let keeps = recorded_keeps plan g m cells blocks first calls call_blocks capacity moment s least most in
    sym (replay_size g calls first) ∙ sym (ap length (s.replayed keeps)) ∙ s.size

-- the image is one that a stop in that call may have left
pub image_during : (plan : Plan) (g : Geometry) (m : ℕ) (cells : List Cell) (blocks : List (Option (List ℕ))) (first : List Cell) (calls : List Recorded) (call_blocks : List (List ℕ)) (capacity moment : ℕ) (outcome : Outcome) →
    IsSound plan g m cells blocks first calls call_blocks capacity → 0 < moment → moment ≤ length calls → MayLeaveAt g first calls moment (image_by g first calls moment outcome)
image_during plan g m cells blocks first calls call_blocks capacity moment outcome s least most =
    let there = slice_get_there calls (moment - 1) (omega arith) in
    let size : length (replay g (take (moment - 1) calls) first) ≡ all_pages g =
    replay_size g (take (moment - 1) calls) first ∙ recorded_first plan g m cells blocks first calls call_blocks capacity moment s least most in
    inl (record {
      before = moment - 1;
      moment_is = omega arith;
      call = there.0;
      call_is = there.1;
      left =
          rw (there.1)
          (outcome_may_leave g there.0.operation there.0.at there.0.spare there.0.bytes outcome (replay g (take (moment - 1) calls) first) (s.places (moment - 1) there.0 there.1) size);
    })
