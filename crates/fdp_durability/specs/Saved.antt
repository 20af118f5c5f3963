-- What a saver did for a drive whose history is known: it saved entries, or the whole drive.
use Rattle.std.specs.Prelude.{◌≡◌, ℕ, Bool, false, IsTrue, List, [], ◌∷◌, ◌++◌, length, if◌then◌else◌}
use Rattle.fdp_base.specs.declared.config.DriveConfig.{DriveConfig}
use Rattle.fdp_base.specs.declared.entry.Entry.{Entry}
use Rattle.fdp_durability.specs.Durable.{SaysDrawn}
use Rattle.fdp_flash.specs.declared.answer.Wrote.{Wrote}
use Rattle.fdp_flash.specs.declared.answer.Wrote.TheVariants as wrote
use Rattle.fdp_flash.specs.FlashState.{FlashState}
use Rattle.fdp_flash.specs.Runs.{Holds}
use Rattle.fdp_base.specs.declared.entry.Totals.{Totals}
use Rattle.fdp_image.specs.Applied.{with_changes}
use Rattle.fdp_image.specs.Checkpoint.{reading_of_state}
use Rattle.fdp_image.specs.Reading.{Reading}
use Rattle.fdp_saving.specs.fdp_journal.JournalState.{JournalState}
use Rattle.fdp_readings.specs.Drawn.{drawn}
use Rattle.fdp_records.specs.declared.change.Change.{Change}
use Rattle.fdp_rules.specs.History.{Found, point_of}
use Rattle.fdp_saving.specs.Calls.{AreCallsOfCheckpoint, AreCallsOfRenewal, AreCallsOfSaving, MakesSystemCalls}
use Rattle.fdp_saving.specs.declared.saved.Saved.{Saved}
use Rattle.fdp_saving.specs.declared.saved.Saved.TheVariants as answers
use Rattle.fdp_saving.specs.Said.{AreasSay, ReadsAsOneOf}
use Rattle.fdp_saving.specs.Saver.{IsSaverIn, after_checkpoint, after_renewal, after_saving, needs_checkpoint}
use Rattle.fdp_saving.specs.Saving.{EndsCheckpoint, EndsSaving, IsOfDrive, SayAfterCheckpoint, SayAfterRenewal, SayAfterSaving, base_of, within_checkpoint, within_renewal, within_saved}
use Rattle.fdp_snapshot.specs.declared.state.State.{State}

-- the history behind a saving of some entries by one page, by the answer: where no page was written, without them
abbrev pub with_saved : List Entry → List Entry → Saved → List Entry
with_saved es added answers.Done = es ++ added
with_saved es added (answers.Doubtful moment) = es ++ added
with_saved es added (answers.Unsaved moment) = es

-- how many entries are firm behind a saving, by the answer: all, or those that were
abbrev pub firm_with : List Entry → List Entry → ℕ → Saved → ℕ
firm_with es added firm answers.Done = length (es ++ added)
firm_with es added firm (answers.Doubtful moment) = firm
firm_with es added firm (answers.Unsaved moment) = firm

-- how many entries are firm behind a checkpoint, where one was wanted, by the answer: all, or those that were
abbrev pub firm_renewed : Bool → List Entry → ℕ → Wrote → ℕ
firm_renewed wanted es firm wrote.Done = if wanted then length es else firm
firm_renewed wanted es firm wrote.Failed = firm

-- with these changes, what a history draws is what it draws with some entries more
abbrev pub SavesAll : DriveConfig → Found → List Entry → List Entry → List (Change × Totals) → Type 0
SavesAll c f es added told = with_changes c (drawn c (point_of c f es)) told ≡ drawn c (point_of c f (es ++ added))

-- Some entries were saved upon a history by the changes of one page, at least one, with this answer: the drive that was given is what the history draws.
pub record SavesEntries (c : DriveConfig) (f : Found) (es added : List Entry) (s now : JournalState) (old new : FlashState) (answer : Saved) : Type 0 where
  pub given : State
  pub first : Change × Totals
  pub rest : List (Change × Totals)
  pub drive : reading_of_state given ≡ drawn c (point_of c f es)
  pub is_of : IsOfDrive c s given
  pub saves : SavesAll c f es added (first ∷ rest)
  pub saver_is : now ≡ after_saving s given.summary answer
  pub stands : IsTrue old.told → IsSaverIn new.cells now
  pub stops : (own tried : Reading) → (IsTrue old.told → AreasSay c s old.cells own tried) → (IsTrue old.told → SaysDrawn c (point_of c f es) s own)
      → Holds (ReadsAsOneOf c old.cells (within_saved c (needs_checkpoint s) own tried given (first ∷ rest) answer)) old new
  pub said : (own tried : Reading) → IsTrue old.told → AreasSay c s old.cells own tried → SaysDrawn c (point_of c f es) s own
      → SayAfterSaving c now new.cells own tried given (base_of (needs_checkpoint s) own given) (first ∷ rest) answer
  pub calls : MakesSystemCalls old new (AreCallsOfSaving s given.summary answer)
  pub ends : EndsSaving old new answer

-- The drive was saved whole, by a checkpoint, with this answer.
pub record SavesDrive (c : DriveConfig) (f : Found) (es : List Entry) (s now : JournalState) (old new : FlashState) (answer : Wrote) : Type 0 where
  pub given : State
  pub drive : reading_of_state given ≡ drawn c (point_of c f es)
  pub is_of : IsOfDrive c s given
  pub saver_is : now ≡ after_checkpoint s given.summary answer
  pub stands : IsTrue old.told → IsSaverIn new.cells now
  pub stops : (own tried : Reading) → (IsTrue old.told → AreasSay c s old.cells own tried)
      → Holds (ReadsAsOneOf c old.cells (within_checkpoint own tried given)) old new
  pub said : (own tried : Reading) → IsTrue old.told → AreasSay c s old.cells own tried → SayAfterCheckpoint c now new.cells own tried given answer
  pub calls : MakesSystemCalls old new (AreCallsOfCheckpoint s given.summary answer)
  pub ends : EndsCheckpoint old new answer

-- A doubt was settled, with this answer: where there was one, by a checkpoint of the whole drive.
pub record SettlesDrive (c : DriveConfig) (f : Found) (es : List Entry) (s now : JournalState) (old new : FlashState) (answer : Wrote) : Type 0 where
  pub given : State
  pub drive : reading_of_state given ≡ drawn c (point_of c f es)
  pub is_of : IsOfDrive c s given
  pub sure : answer ≡ wrote.Done → now.in_doubt ≡ false
  pub saver_is : now ≡ after_renewal s.in_doubt s given.summary answer
  pub stands : IsTrue old.told → IsSaverIn new.cells now
  pub stops : (own tried : Reading) → (IsTrue old.told → AreasSay c s old.cells own tried)
      → Holds (ReadsAsOneOf c old.cells (within_renewal s.in_doubt own tried given)) old new
  pub said : (own tried : Reading) → IsTrue old.told → AreasSay c s old.cells own tried
      → SayAfterRenewal c now new.cells own tried given (base_of s.in_doubt own given) answer
  pub calls : MakesSystemCalls old new (AreCallsOfRenewal s.in_doubt s given.summary answer)
  pub ends : EndsCheckpoint old new answer
