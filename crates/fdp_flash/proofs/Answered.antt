-- What a call of a flash in memory answers.
use Rattle.std.proofs.Common.{◌≡◌, ℕ, true, false, IsTrue, List, length, Some, arith, refl, ap, ◌∙◌}
use Rattle.std.specs.List.{slice_get}
use Rattle.std.proofs.lemmas.Bool.{lt-ltb, le-ltb}
use Rattle.fdp_base.specs.declared.entry.Spot.{Spot}
use Rattle.fdp_flash.specs.declared.answer.Fetched.{Fetched}
use Rattle.fdp_flash.specs.declared.answer.Fetched.TheVariants as fetched
use Rattle.fdp_flash.specs.declared.answer.Operation.TheVariants.{Look, Fetch, Program, Erase}
use Rattle.fdp_flash.specs.declared.answer.Seen.{Seen}
use Rattle.fdp_flash.specs.declared.answer.Seen.TheVariants as seen
use Rattle.fdp_flash.specs.declared.answer.Wrote.{Wrote}
use Rattle.fdp_flash.specs.declared.answer.Wrote.TheVariants as wrote
use Rattle.fdp_flash.specs.declared.cell.Cell.TheVariants.{Blank}
use Rattle.fdp_flash.specs.declared.plan.Fate.{Fate}
use Rattle.fdp_flash.specs.declared.plan.Fate.TheVariants.{Done, Fails, Refused}
use Rattle.fdp_flash.specs.declared.plan.Plan.{Plan}
use Rattle.fdp_flash.specs.Answers.{Looks, Fetches, Programs, Erases, fetched_failed, wrote_failed}
use Rattle.fdp_flash.specs.Cells.{IsErased}
use Rattle.fdp_flash.specs.FlashState.{FlashState}
use Rattle.fdp_base.specs.Geometry.{all_pages, data_units}
use Rattle.fdp_flash.specs.Layout.{IsIn, page_number}
use Rattle.fdp_flash.specs.MemoryState.{Called}
use Rattle.fdp_flash.specs.Plan.{fate_of, fails}
use Rattle.fdp_flash.specs.Read.{ReadsPage, ReadsExpected}
use Rattle.fdp_flash.specs.Recorded.{after_call}
use Rattle.fdp_flash.proofs.Filled.{filled_erases}
use Rattle.fdp_flash.proofs.Pages.{unit_fits}
use Rattle.fdp_flash.proofs.Replay.{call_may_leave}

-- a call that does not fail is done
only_done : (fate : Fate) → false ≡ fails fate → fate ≡ Done
only_done Done e = refl
only_done (Fails outcome) e = cc
only_done Refused e = cc

pub look_failed : (plan : Plan) (old new : FlashState) (at : Spot) (any_spare any_bytes spare bytes : List ℕ) →
    Called plan old new Look at any_spare any_bytes true → Looks old new at spare bytes seen.Failed
look_failed plan old new at any_spare any_bytes spare bytes c = record {
  ended = c.ended;
  reads = record { programs = c.programs; cells = λ t. c.cells };
  whole = λ t e. absurd (let f : seen.Failed ≡ seen.Whole = e in cc);
  blank = λ t e. absurd (let f : seen.Failed ≡ seen.Blank = e in cc);
  torn = λ t e. absurd (let f : seen.Failed ≡ seen.Torn = e in cc);
}

pub look_read : (plan : Plan) (old new : FlashState) (at : Spot) (any_spare any_bytes spare bytes : List ℕ) (result : Seen) →
    Called plan old new Look at any_spare any_bytes false → ReadsPage new.cells (page_number old.geometry at) spare bytes result → Looks old new at spare bytes result
look_read plan old new at any_spare any_bytes spare bytes result c r = record {
  ended = rw r.answers c.ended;
  reads = record { programs = c.programs; cells = λ t. c.cells };
  whole = λ t e. rw (← c.cells) (r.whole e);
  blank = λ t e. rw (← c.cells) (r.blank e);
  torn = λ t e. rw (← c.cells) (r.torn e);
}

pub fetch_failed : (plan : Plan) (old new : FlashState) (at : Spot) (any_spare any_bytes spare bytes : List ℕ) →
    Called plan old new Fetch at any_spare any_bytes true → Fetches old new at spare bytes fetched.Failed
fetch_failed plan old new at any_spare any_bytes spare bytes c = record {
  failed = true;
  ended = c.ended;
  reads = record { programs = c.programs; cells = λ t. c.cells };
  is_failed = λ e. refl;
  is_whole = λ e. absurd (let f : fetched.Failed ≡ fetched.Whole = e in cc);
  whole = λ t e. absurd (let f : fetched.Failed ≡ fetched.Whole = e in cc);
  told = λ e f. absurd (let f : fetched.Failed ≡ fetched.Other = e in cc);
  other = λ e f. absurd (let f : fetched.Failed ≡ fetched.Other = e in cc);
}

pub fetch_read : (plan : Plan) (old new : FlashState) (at : Spot) (any_spare any_bytes spare bytes : List ℕ) (result : Fetched) →
    Called plan old new Fetch at any_spare any_bytes false → IsTrue old.told → ReadsExpected new.cells (page_number old.geometry at) spare bytes result →
    Fetches old new at spare bytes result
fetch_read plan old new at any_spare any_bytes spare bytes result c told r = record {
  failed = false;
  ended = c.ended;
  reads = record { programs = c.programs; cells = λ t. c.cells };
  is_failed = λ e. absurd (let f = r.answers in let g : fetched_failed result ≡ true = ap fetched_failed e in cc);
  is_whole = λ e. refl;
  whole = λ t e. rw (← c.cells) (r.whole e);
  told = λ e f. told;
  other = λ e f. rw (← c.cells) (r.other e);
}

pub program_answers : (plan : Plan) (old new : FlashState) (at : Spot) (spare bytes : List ℕ) (result : Wrote) →
    Called plan old new Program at spare bytes (wrote_failed result) → IsIn old.geometry at → length old.cells ≡ all_pages old.geometry →
    slice_get old.cells (page_number old.geometry at) ≡ Some Blank → Programs old new at spare bytes result
program_answers plan old new at spare bytes wrote.Done c i size blank = record {
  ended = c.ended;
  done = λ t e. c.cells ∙ ap (λ fate. after_call old.geometry Program at spare bytes fate old.cells) (only_done (fate_of plan new.moment) c.fate);
  failed = λ t e. absurd (let f : wrote.Done ≡ wrote.Failed = e in cc);
  data_done = λ e data_unit. c.programs ∙ rw (lt-ltb at.unit (data_units old.geometry) data_unit) refl;
  system_done = λ e system_unit. c.programs ∙ rw (le-ltb at.unit (data_units old.geometry) system_unit) refl;
  not_done = λ e. absurd (let f : wrote.Done ≡ wrote.Failed = e in cc);
}
program_answers plan old new at spare bytes wrote.Failed c i size blank = record {
  ended = c.ended;
  done = λ t e. absurd (let f : wrote.Failed ≡ wrote.Done = e in cc);
  failed = λ t e. rw c.cells (call_may_leave old.geometry Program at spare bytes (fate_of plan new.moment) old.cells i size (λ p. blank));
  data_done = λ e data_unit. absurd (let f : wrote.Failed ≡ wrote.Done = e in cc);
  system_done = λ e system_unit. absurd (let f : wrote.Failed ≡ wrote.Done = e in cc);
  not_done = λ e. c.programs;
}

erased_as_done : (plan : Plan) (old new : FlashState) (at : Spot) (spare bytes : List ℕ) →
    Called plan old new Erase at spare bytes false → IsIn old.geometry at → length old.cells ≡ all_pages old.geometry →
    IsErased old.geometry old.cells at.unit new.cells
erased_as_done plan old new at spare bytes c i size =
    let fits = unit_fits old.geometry at.unit i.unit in
    let cells = c.cells ∙ ap (λ fate. after_call old.geometry Erase at spare bytes fate old.cells) (only_done (fate_of plan new.moment) c.fate) in
    rw cells (filled_erases old.geometry at.unit old.cells (omega arith))

pub erase_answers : (plan : Plan) (old new : FlashState) (unit : ℕ) (spare bytes : List ℕ) (result : Wrote) →
    Called plan old new Erase (record { unit = unit; page = 0 }) spare bytes (wrote_failed result) → IsIn old.geometry (record { unit = unit; page = 0 }) → length old.cells ≡ all_pages old.geometry →
    Erases old new unit result
erase_answers plan old new unit spare bytes wrote.Done c i size = record {
  ended = c.ended;
  done = λ t e. erased_as_done plan old new (record { unit = unit; page = 0 }) spare bytes c i size;
  failed = λ t e. absurd (let f : wrote.Done ≡ wrote.Failed = e in cc);
  programs = c.programs;
}
erase_answers plan old new unit spare bytes wrote.Failed c i size = record {
  ended = c.ended;
  done = λ t e. absurd (let f : wrote.Failed ≡ wrote.Done = e in cc);
  failed = λ t e. rw c.cells (call_may_leave old.geometry Erase (record { unit = unit; page = 0 }) spare bytes (fate_of plan new.moment) old.cells i size (λ p. absurd (let f : Erase ≡ Program = p in cc)));
  programs = c.programs;
}
