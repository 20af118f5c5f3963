-- The calls of a saving.
use Rattle.std.specs.Prelude.{◌≡◌, ◌≤◌, Bool, true, false, List, [], ◌∷◌, ◌++◌, All, if◌then◌else◌}
use Rattle.std.specs.List.{list_any}
use Rattle.fdp_base.specs.Geometry.{data_units}
use Rattle.fdp_calls.specs.Calls.{MakesCalls, has_failed}
use Rattle.fdp_checkpoint.specs.Writing.{checkpoint_calls}
use Rattle.fdp_flash.specs.declared.answer.Wrote.{Wrote}
use Rattle.fdp_flash.specs.declared.answer.Wrote.TheVariants as wrote
use Rattle.fdp_flash.specs.FlashState.{Call, FlashState}
use Rattle.fdp_image.specs.Replacing.{pages_for}
use Rattle.fdp_journal.specs.Journal.{record_call}
use Rattle.fdp_journal.specs.JournalState.{JournalState}
use Rattle.fdp_saving.specs.declared.saved.Saved.{Saved}
use Rattle.fdp_saving.specs.declared.saved.Saved.TheVariants as answers
use Rattle.fdp_saving.specs.Saver.{needs_checkpoint, other_area, renewed}
use Rattle.fdp_snapshot.specs.declared.state.Summary.{Summary}

-- planned calls up to one of them, which failed
pub record AreUpToFailed (planned calls : List Call) : Type 0 where
  pub before : List Call
  pub last : Call
  pub behind : List Call
  pub planned_are : planned ≡ before ++ last ∷ behind
  pub calls_are : calls ≡ before ++ record last { failed = true } ∷ []

-- calls of which just the last failed
pub record FailAtEnd (calls : List Call) : Type 0 where
  pub before : List Call
  pub last : Call
  pub calls_are : calls ≡ before ++ last ∷ []
  pub well : list_any has_failed before ≡ false
  pub failed : last.failed ≡ true

-- Calls in system units were made, one after another, that are these; no page of data was programmed.
pub record MakesSystemCalls (old new : FlashState) (Are : List Call → Type 0) : Type 0 where
  pub calls : List Call
  pub are : Are calls
  pub made : MakesCalls old new calls
  pub system : All (λ (call : Call). data_units old.geometry ≤ call.at.unit) calls
  pub programs : new.programs ≡ old.programs

-- the calls of a checkpoint: an erase of each unit of the other area, then a program of each page, the seal last
abbrev pub calls_of_checkpoint : JournalState → Summary → List Call
calls_of_checkpoint s summary = checkpoint_calls s.geometry (other_area s.area) (pages_for s.geometry.block summary)

-- the calls of a checkpoint, where one was wanted
abbrev pub calls_of_renewal : Bool → JournalState → Summary → List Call
calls_of_renewal wanted s summary = if wanted then calls_of_checkpoint s summary else []

-- the calls of a saving: the program of the record, the only one where no checkpoint is needed
abbrev pub calls_of_saving : JournalState → Summary → List Call
calls_of_saving s summary = calls_of_renewal (needs_checkpoint s) s summary ++ record_call (renewed (needs_checkpoint s) s summary) ∷ []

-- the calls of a checkpoint by its answer: all; or those up to one that failed
abbrev pub AreCallsOfCheckpoint : JournalState → Summary → Wrote → List Call → Type 0
AreCallsOfCheckpoint s summary wrote.Done calls = calls ≡ calls_of_checkpoint s summary
AreCallsOfCheckpoint s summary wrote.Failed calls = AreUpToFailed (calls_of_checkpoint s summary) calls

-- the calls of a checkpoint, where one was wanted, by the answer; it fails only where one was
abbrev pub AreCallsOfRenewal : Bool → JournalState → Summary → Wrote → List Call → Type 0
AreCallsOfRenewal wanted s summary wrote.Done calls = calls ≡ calls_of_renewal wanted s summary
AreCallsOfRenewal wanted s summary wrote.Failed calls = (wanted ≡ true) × AreCallsOfCheckpoint s summary wrote.Failed calls

-- the call of an append by its answer: the program of the record, which was done or failed
abbrev pub AreCallsOfAppend : JournalState → Wrote → List Call → Type 0
AreCallsOfAppend s wrote.Done calls = calls ≡ record_call s ∷ []
AreCallsOfAppend s wrote.Failed calls = calls ≡ record (record_call s) { failed = true } ∷ []

-- the calls of a saving by its answer: all; all, and the program of the record failed; or, only where a checkpoint was needed, the calls of
-- the checkpoint up to one that failed
abbrev pub AreCallsOfSaving : JournalState → Summary → Saved → List Call → Type 0
AreCallsOfSaving s summary answers.Done calls = calls ≡ calls_of_saving s summary
AreCallsOfSaving s summary (answers.Doubtful moment) calls = calls ≡ calls_of_renewal (needs_checkpoint s) s summary ++ record (record_call (renewed (needs_checkpoint s) s summary)) { failed = true } ∷ []
AreCallsOfSaving s summary (answers.Unsaved moment) calls = AreCallsOfRenewal (needs_checkpoint s) s summary wrote.Failed calls
