-- What a step of relocation came to.
use Rattle.std.specs.Prelude.{◌≡◌, ◌≢◌, ◌⊎◌, ℕ, true, not, List, []}
use Rattle.fdp_base.specs.declared.entry.Copied.{Copied}
use Rattle.fdp_base.specs.declared.entry.Entry.TheVariants as entries
use Rattle.fdp_keeper.specs.fdp_book.Book.{BookSeen, point_in}
use Rattle.fdp_keeper.specs.fdp_book.Relocating.{MovesPass, Relocates}
use Rattle.fdp_keeper.specs.fdp_collector.declared.step.Lost.{Lost}
use Rattle.fdp_keeper.specs.fdp_collector.declared.step.Lost.TheVariants as lost
use Rattle.fdp_keeper.specs.fdp_collector.declared.step.Step.{Step}
use Rattle.fdp_keeper.specs.fdp_collector.declared.step.Step.TheVariants as steps
use Rattle.fdp_keeper.specs.fdp_collector.Leaving.{StepMayLeave}
use Rattle.fdp_keeper.specs.fdp_collector.Step.{IsUncalled}
use Rattle.fdp_flash.specs.declared.cell.Cell.{Cell}
use Rattle.fdp_flash.specs.declared.answer.Wrote.TheVariants as wrote
use Rattle.fdp_flash.specs.FlashState.{FlashState}
use Rattle.fdp_flash.specs.Runs.{Runs}
use Rattle.fdp_image.specs.Reading.{Reading}
use Rattle.fdp_keeper.specs.Keeper.{KeepsEntry, KeepsSettled, KeeperSeen}
use Rattle.fdp_keeper.specs.fdp_pages.PageTables.{passes_at}
use Rattle.fdp_passes.specs.declared.due.Due.TheVariants as due
use Rattle.fdp_passes.specs.Due.{IsDue}
use Rattle.fdp_relocation.specs.declared.advance.Advance.{Advance}
use Rattle.fdp_relocation.specs.declared.advance.Advance.TheVariants as answers
use Rattle.fdp_rules.specs.Sites.{moved_blocks}
use Rattle.fdp_keeper.specs.fdp_durability.Durable.{SaysDrawn}
use Rattle.fdp_keeper.specs.fdp_saving.declared.saved.Saved.{Saved}
use Rattle.fdp_keeper.specs.fdp_saving.declared.saved.Saved.TheVariants as saved
use Rattle.fdp_keeper.specs.fdp_saving.Said.{AreasSay}

-- before and after a step: the book, what saves it, and the flash
pub record Stage (F : Type 0) : Type 0 where
  pub book : BookSeen
  pub keeper : KeeperSeen
  pub flash : F

-- the system areas say something of a drive, as they do once it was saved; while nothing is in doubt it is what the history draws
pub record AreasTell (b : BookSeen) (k : KeeperSeen) (cells : List Cell) : Type 0 where
  pub own : Reading
  pub tried : Reading
  pub say : AreasSay b.config k.saver cells own tried
  pub sure : SaysDrawn b.config (point_in b) k.saver own

-- no call was made, and nothing that is told of the flash has changed
pub record StaysUncalled (old new : FlashState) : Type 0 where
  pub uncalled : IsUncalled old new
  pub run : Runs old new (λ m image. ⊥)

-- a move without a block is not saved, and no call is made; any other is, with this answer
abbrev pub SavesMove : {F : Type 0} → (F → FlashState) → Stage F → Stage F → ℕ → Saved → Type 0
SavesMove state old new rg answer =
    ((moved_blocks (point_in old.book) rg ≡ []) × (answer ≡ saved.Done) × (new.keeper ≡ old.keeper) × StaysUncalled (state old.flash) (state new.flash))
    ⊎ ((moved_blocks (point_in old.book) rg ≡ [] → ⊥) × KeepsEntry old.book (entries.Moved (record { rg = rg; blocks = moved_blocks (point_in old.book) rg })) old.keeper new.keeper (state old.flash) (state new.flash) answer)

-- the copies of a group were to be moved, and were, whether the saving of the move was done or not
pub record Moves {F : Type 0} (state : F → FlashState) (old new : Stage F) (rg : ℕ) (answer : Saved) : Type 0 where
  pub due : IsDue (passes_at old.book.pages rg) old.book.pages.units old.book.pages.owners rg due.Move
  pub saved : SavesMove state old new rg answer
  pub moved : MovesPass old.book new.book rg

-- a step of relocation was made, which called no system unit; a unit is erased only while nothing is in doubt
pub record Steps {F : Type 0} (state : F → FlashState) (old new : Stage F) (rg : ℕ) (step : Step) : Type 0 where
  pub made : Relocates old.book new.book (state old.flash) (state new.flash) rg (not old.keeper.saver.in_doubt) step
  pub run : Runs (state old.flash) (state new.flash) (λ m image. StepMayLeave (not old.keeper.saver.in_doubt) (state old.flash).geometry old.book.pages.units old.book.pages.owners (state old.flash).cells image)
  pub keeper : new.keeper ≡ old.keeper

-- an erase was due, the doubt before it was ended by a checkpoint of the drive, and then this step was made: that the unit was erased, or that
-- this failed
pub record StepsSettled {F : Type 0} (state : F → FlashState) (old new : Stage F) (rg : ℕ) (step : Step) : Type 0 where
  pub middle : F
  pub doubt : old.keeper.saver.in_doubt ≡ true
  pub settled : KeepsSettled old.book old.keeper new.keeper (state old.flash) (state middle) wrote.Done
  pub made : Relocates old.book new.book (state middle) (state new.flash) rg true step
  pub run : Runs (state middle) (state new.flash) (λ m image. StepMayLeave true (state middle).geometry old.book.pages.units old.book.pages.owners (state middle).cells image)

-- a step of an erase, behind the end of a doubt where there was one
abbrev pub StepsErase : {F : Type 0} → (F → FlashState) → Stage F → Stage F → ℕ → Step → Type 0
StepsErase state old new rg step = Steps state old new rg step ⊎ StepsSettled state old new rg step

-- an erase was due, and the doubt before it could not be ended: nothing was erased
pub record FailsToSettle {F : Type 0} (state : F → FlashState) (old new : Stage F) (rg : ℕ) : Type 0 where
  pub unit : ℕ
  pub due : IsDue (passes_at old.book.pages rg) old.book.pages.units old.book.pages.owners rg (due.Erase unit)
  pub doubt : old.keeper.saver.in_doubt ≡ true
  pub failed : KeepsSettled old.book old.keeper new.keeper (state old.flash) (state new.flash) wrote.Failed
  pub book : new.book ≡ old.book

-- what a move comes to: it is told as made where its saving was done, else as a fault
abbrev pub EndsMove : {F : Type 0} → (F → FlashState) → Stage F → Stage F → ℕ → Advance → Type 0
EndsMove state old new rg answers.Nothing = ⊥
EndsMove state old new rg answers.Copied = ⊥
EndsMove state old new rg answers.Moved = Moves state old new rg saved.Done
EndsMove state old new rg answers.Erased = ⊥
EndsMove state old new rg answers.Starved = ⊥
EndsMove state old new rg answers.Fault = (answer : Saved) × (answer ≢ saved.Done) × Moves state old new rg answer

-- what an erase in doubt comes to: the erase of the unit behind the end of the doubt; or one of the two failed
abbrev pub EndsDoubt : {F : Type 0} → (F → FlashState) → Stage F → Stage F → ℕ → Advance → Type 0
EndsDoubt state old new rg answers.Nothing = ⊥
EndsDoubt state old new rg answers.Copied = ⊥
EndsDoubt state old new rg answers.Moved = ⊥
EndsDoubt state old new rg answers.Erased = (unit : ℕ) × StepsSettled state old new rg (steps.Erased unit)
EndsDoubt state old new rg answers.Starved = ⊥
EndsDoubt state old new rg answers.Fault = ((unit : ℕ) × StepsSettled state old new rg (steps.Fault (lost.Retired unit))) ⊎ FailsToSettle state old new rg

-- a call failed: that of a step; that of a checkpoint before an erase; or one by which a move was to be saved
abbrev pub FailsIn : {F : Type 0} → (F → FlashState) → Stage F → Stage F → ℕ → Type 0
FailsIn state old new rg =
    ((lost : Lost) × Steps state old new rg (steps.Fault lost))
    ⊎ ((unit : ℕ) × StepsSettled state old new rg (steps.Fault (lost.Retired unit)))
    ⊎ FailsToSettle state old new rg
    ⊎ ((answer : Saved) × (answer ≢ saved.Done) × Moves state old new rg answer)

-- each answer comes exactly where its step is due, and tells what the step made
abbrev pub Collects : {F : Type 0} → (F → FlashState) → Stage F → Stage F → ℕ → Advance → Type 0
Collects state old new rg answers.Nothing = Steps state old new rg steps.Nothing
Collects state old new rg answers.Copied = (copy : Copied) × Steps state old new rg (steps.Copied copy)
Collects state old new rg answers.Moved = Moves state old new rg saved.Done
Collects state old new rg answers.Erased = (unit : ℕ) × StepsErase state old new rg (steps.Erased unit)
Collects state old new rg answers.Starved = Steps state old new rg steps.Starved
Collects state old new rg answers.Fault = FailsIn state old new rg
