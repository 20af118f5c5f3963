-- What a checkpoint and a saving leave the areas to say.
use Rattle.std.specs.Prelude.{◌≡◌, Bool, List, [], ◌∷◌, if◌then◌else◌}
use Rattle.fdp_base.specs.declared.config.DriveConfig.{DriveConfig}
use Rattle.fdp_base.specs.declared.entry.Totals.{Totals}
use Rattle.fdp_base.specs.Placement.{geometry_of}
use Rattle.fdp_flash.specs.declared.answer.Wrote.{Wrote}
use Rattle.fdp_flash.specs.declared.answer.Wrote.TheVariants as wrote
use Rattle.fdp_flash.specs.declared.cell.Cell.{Cell}
use Rattle.fdp_flash.specs.Failing.{FailsLast}
use Rattle.fdp_flash.specs.FlashState.{FlashState}
use Rattle.fdp_records.specs.declared.change.Change.{Change}
use Rattle.fdp_snapshot.specs.declared.state.State.{State}
use Rattle.fdp_image.specs.Applied.{with_changes}
use Rattle.fdp_image.specs.Checkpoint.{reading_of_state}
use Rattle.fdp_image.specs.Reading.{Reading}
use Rattle.fdp_image.specs.Replacing.{IsSavedBy}
use Rattle.fdp_journal.specs.JournalState.{JournalState}
use Rattle.fdp_saving.specs.declared.saved.Saved.{Saved}
use Rattle.fdp_saving.specs.declared.saved.Saved.TheVariants as answers
use Rattle.fdp_saving.specs.Said.{AreasSay, AreasSayOneOf}

-- the flash of a saver is that of a drive of this configuration, which saves the state
pub record IsOfDrive (c : DriveConfig) (s : JournalState) (given : State) : Type 0 where
  pub geometry : geometry_of c ≡ s.geometry
  pub saved : IsSavedBy c given

-- what is said then: the drive as it was given, where a checkpoint of it was wanted, else what was said before
abbrev pub base_of : Bool → Reading → State → Reading
base_of wanted own given = if wanted then reading_of_state given else own

-- what may be read while a checkpoint is written
abbrev pub within_checkpoint : Reading → Reading → State → List Reading
within_checkpoint own tried given = own ∷ tried ∷ reading_of_state given ∷ []

-- what may be read while a checkpoint is written, where one was wanted
abbrev pub within_renewal : Bool → Reading → Reading → State → List Reading
within_renewal wanted own tried given = own ∷ tried ∷ base_of wanted own given ∷ []

-- what may be read while a page of changes is appended to what is read
abbrev pub within_append : DriveConfig → Reading → List (Change × Totals) → List Reading
within_append c own xs = own ∷ with_changes c own xs ∷ []

-- what may be read while changes are saved
abbrev pub within_saving : DriveConfig → Bool → Reading → Reading → State → List (Change × Totals) → List Reading
within_saving c wanted own tried given xs = own ∷ tried ∷ base_of wanted own given ∷ with_changes c (base_of wanted own given) xs ∷ []

-- what may be read while changes are saved, by the answer: where the checkpoint before it failed, nothing more than while that was written
abbrev pub within_saved : DriveConfig → Bool → Reading → Reading → State → List (Change × Totals) → Saved → List Reading
within_saved c wanted own tried given xs answers.Done = within_saving c wanted own tried given xs
within_saved c wanted own tried given xs (answers.Doubtful moment) = within_saving c wanted own tried given xs
within_saved c wanted own tried given xs (answers.Unsaved moment) = within_checkpoint own tried given

-- what the areas say after a checkpoint, by its answer: the state that was given, or what they said; where it failed, the other area may say
-- that state, or what it said
abbrev pub SayAfterCheckpoint : DriveConfig → JournalState → List Cell → Reading → Reading → State → Wrote → Type 0
SayAfterCheckpoint c s cells own tried given wrote.Done = AreasSay c s cells (reading_of_state given) (reading_of_state given)
SayAfterCheckpoint c s cells own tried given wrote.Failed = AreasSayOneOf c s cells (own ∷ []) (tried ∷ reading_of_state given ∷ [])

-- what the areas say after a checkpoint where one was wanted, by the answer
abbrev pub SayAfterRenewal : DriveConfig → JournalState → List Cell → Reading → Reading → State → Reading → Wrote → Type 0
SayAfterRenewal c s cells own tried given base wrote.Done = AreasSay c s cells base base
SayAfterRenewal c s cells own tried given base wrote.Failed = SayAfterCheckpoint c s cells own tried given wrote.Failed

-- what the areas say after the program of a page of changes upon a reading, by its answer
abbrev pub SayAfterAppend : DriveConfig → JournalState → List Cell → Reading → List (Change × Totals) → Wrote → Type 0
SayAfterAppend c s cells base xs wrote.Done = AreasSay c s cells (with_changes c base xs) (with_changes c base xs)
SayAfterAppend c s cells base xs wrote.Failed = AreasSayOneOf c s cells (within_append c base xs) (within_append c base xs)

-- what the areas say after a saving upon a reading, by its answer: that with the changes; that with them or without; or, where the
-- checkpoint before it failed, what they say then
abbrev pub SayAfterSaving : DriveConfig → JournalState → List Cell → Reading → Reading → State → Reading → List (Change × Totals) → Saved → Type 0
SayAfterSaving c s cells own tried given base xs answers.Done = SayAfterAppend c s cells base xs wrote.Done
SayAfterSaving c s cells own tried given base xs (answers.Doubtful moment) = SayAfterAppend c s cells base xs wrote.Failed
SayAfterSaving c s cells own tried given base xs (answers.Unsaved moment) = SayAfterCheckpoint c s cells own tried given wrote.Failed

-- a saving fails only where its last call did, at the moment that it tells; else no fault was counted
abbrev pub EndsSaving : FlashState → FlashState → Saved → Type 0
EndsSaving old new answers.Done = new.faults ≡ old.faults
EndsSaving old new (answers.Doubtful moment) = FailsLast old new moment
EndsSaving old new (answers.Unsaved moment) = FailsLast old new moment

-- a checkpoint likewise
abbrev pub EndsCheckpoint : FlashState → FlashState → Wrote → Type 0
EndsCheckpoint old new wrote.Done = new.faults ≡ old.faults
EndsCheckpoint old new wrote.Failed = FailsLast old new new.moment
