-- What a step of relocation in a group comes to, by its entries and its calls of the flash.
use Rattle.std.specs.Prelude.{◌≡◌, ◌≢◌, ◌⊎◌, ℕ, false, true, List, [], ◌∷◌, ◌++◌}
use Rattle.fdp_base.specs.declared.entry.Copied.{Copied}
use Rattle.fdp_base.specs.declared.entry.Entry.{Entry}
use Rattle.fdp_base.specs.declared.entry.Entry.TheVariants as entries
use Rattle.fdp_base.specs.declared.entry.Spot.{Spot}
use Rattle.fdp_relocation.specs.fdp_book.Book.{BookSeen, point_in, state_in}
use Rattle.fdp_relocation.specs.fdp_book.Relocating.{told_by}
use Rattle.fdp_calls.specs.Calls.{erase_at, fetch_at, program_at}
use Rattle.fdp_relocation.specs.fdp_collector.declared.step.Lost.{Lost}
use Rattle.fdp_relocation.specs.fdp_collector.declared.step.Step.TheVariants as steps
use Rattle.fdp_core.specs.Passes.{Relocates}
use Rattle.fdp_core.specs.Seen.{Seen}
use Rattle.fdp_flash.specs.declared.answer.Wrote.{Wrote}
use Rattle.fdp_flash.specs.declared.answer.Wrote.TheVariants as wrote
use Rattle.fdp_flash.specs.FlashState.{Call, FlashState}
use Rattle.fdp_relocation.specs.fdp_journal.JournalState.{JournalState}
use Rattle.fdp_relocation.specs.fdp_pages.PageTables.{passes_at}
use Rattle.fdp_passes.specs.declared.due.Due.{Due}
use Rattle.fdp_passes.specs.declared.due.Due.TheVariants as due
use Rattle.fdp_passes.specs.Due.{IsDue}
use Rattle.fdp_relocation.specs.declared.advance.Advance.{Advance}
use Rattle.fdp_relocation.specs.declared.advance.Advance.TheVariants as advance
use Rattle.fdp_rules.specs.Sites.{moved_blocks}
use Rattle.fdp_relocation.specs.fdp_saving.declared.saved.Saved.{Saved}
use Rattle.fdp_relocation.specs.fdp_saving.declared.saved.Saved.TheVariants as savings
use Rattle.fdp_relocation.specs.fdp_saving.Calls.{AreCallsOfCheckpoint, AreCallsOfSaving, FailAtEnd}
use Rattle.fdp_snapshot.specs.declared.state.Summary.{Summary}
use Rattle.fdp_relocation.specs.fdp_collector.Step.{IsUncalled}
use Rattle.fdp_loading.specs.fdp_ledger.WornOut.{IsWornOut}
use Rattle.fdp_units.specs.UnitTable.{HasNoFree}

-- what is due in a group
abbrev pub IsDueIn : BookSeen → ℕ → Due → Type 0
IsDueIn b rg x = IsDue (passes_at b.pages rg) b.pages.units b.pages.owners rg x

-- the entry of a move of the pass in a group
abbrev pub move_of : BookSeen → ℕ → Entry
move_of b rg = entries.Moved (record { rg = rg; blocks = moved_blocks (point_in b) rg })

-- the calls by which a move is saved, with this answer: none for a move without a block
abbrev pub AreCallsOfMove : BookSeen → JournalState → ℕ → Saved → List Call → Type 0
AreCallsOfMove b s rg answer calls =
    ((moved_blocks (point_in b) rg ≡ []) × (answer ≡ savings.Done) × (calls ≡ []))
    ⊎ ((moved_blocks (point_in b) rg ≡ [] → ⊥) × ((summary : Summary) × AreCallsOfSaving s summary answer calls))

-- the calls by which a doubt is ended before an erase, with this answer: those of a checkpoint, or none where there is no doubt
abbrev pub AreCallsOfSettling : JournalState → Wrote → List Call → Type 0
AreCallsOfSettling s answer calls =
    ((s.in_doubt ≡ false) × (answer ≡ wrote.Done) × (calls ≡ []))
    ⊎ ((s.in_doubt ≡ true) × ((summary : Summary) × AreCallsOfCheckpoint s summary answer calls))

-- the next live page of the victim was copied, by a fetch and a program
pub record CopiesPage (b : BookSeen) (rg : ℕ) (es : List Entry) (calls : List Call) : Type 0 where
  pub copy : Copied
  pub due : IsDueIn b rg (due.Copy copy.from)
  pub entries_are : es ≡ entries.Copied copy ∷ []
  pub calls_are : calls ≡ fetch_at copy.from false ∷ program_at copy.to false ∷ []

-- the copies of the pass under way were moved, and the move saved with this answer: the entry lists the blocks among them
pub record MovesCopies (b : BookSeen) (s : JournalState) (rg : ℕ) (answer : Saved) (es : List Entry) (calls : List Call) : Type 0 where
  pub due : IsDueIn b rg due.Move
  pub entries_are : es ≡ move_of b rg ∷ []
  pub calls_are : AreCallsOfMove b s rg answer calls

-- the victim was erased, behind the end of a doubt if there was one
pub record ErasesVictim (b : BookSeen) (s : JournalState) (rg : ℕ) (es : List Entry) (calls : List Call) : Type 0 where
  pub unit : ℕ
  pub due : IsDueIn b rg (due.Erase unit)
  pub entries_are : es ≡ entries.Erased (record { unit = unit }) ∷ []
  pub settling : List Call
  pub settled : AreCallsOfSettling s wrote.Done settling
  pub calls_are : calls ≡ settling ++ erase_at unit false ∷ []

-- nothing was due, and nothing was done
pub record FindsNothing (b new : BookSeen) (rg : ℕ) (es : List Entry) (calls : List Call) : Type 0 where
  pub due : IsDueIn b rg due.Nothing
  pub entries_are : es ≡ []
  pub calls_are : calls ≡ []
  pub pages : new.pages ≡ b.pages

-- a copy was due, and no unit is free for it
pub record FindsNoUnit (b : BookSeen) (rg : ℕ) (es : List Entry) (calls : List Call) : Type 0 where
  pub from : Spot
  pub due : IsDueIn b rg (due.Copy from)
  pub free : HasNoFree b.pages.units rg
  pub entries_are : es ≡ entries.Worn (record { rg = rg }) ∷ []
  pub calls_are : calls ≡ []

-- the last call, one of a step of relocation, failed; the entry tells what became of the unit, if it was lost
pub record FailsInStep (rg : ℕ) (es : List Entry) (calls : List Call) : Type 0 where
  pub lost : Lost
  pub entries_are : es ≡ told_by rg (steps.Fault lost)
  pub fails : FailAtEnd calls

-- an erase was due, and the doubt before it could not be ended: nothing was erased
pub record FailsBeforeErase (b new : BookSeen) (s : JournalState) (rg : ℕ) (es : List Entry) (calls : List Call) : Type 0 where
  pub unit : ℕ
  pub due : IsDueIn b rg (due.Erase unit)
  pub entries_are : es ≡ []
  pub settled : AreCallsOfSettling s wrote.Failed calls
  pub fails : FailAtEnd calls
  pub pages : new.pages ≡ b.pages

-- the move was made, and its saving failed
pub record MovesUnsaved (b : BookSeen) (s : JournalState) (rg : ℕ) (es : List Entry) (calls : List Call) : Type 0 where
  pub answer : Saved
  pub not_done : answer ≢ savings.Done
  pub moves : MovesCopies b s rg answer es calls
  pub fails : FailAtEnd calls

-- each answer comes of what was due in the group, with these entries and calls
abbrev pub ComesTo : BookSeen → JournalState → BookSeen → ℕ → Advance → List Entry → List Call → Type 0
ComesTo b s new rg advance.Nothing es calls = FindsNothing b new rg es calls
ComesTo b s new rg advance.Copied es calls = CopiesPage b rg es calls
ComesTo b s new rg advance.Moved es calls = MovesCopies b s rg savings.Done es calls
ComesTo b s new rg advance.Erased es calls = ErasesVictim b s rg es calls
ComesTo b s new rg advance.Starved es calls = FindsNoUnit b rg es calls
ComesTo b s new rg advance.Fault es calls = FailsInStep rg es calls ⊎ FailsBeforeErase b new s rg es calls ⊎ MovesUnsaved b s rg es calls

-- a step of relocation within a step of a group
pub record Advances {F : Type 0} (state : F → FlashState) (old new : Seen F) (rg : ℕ) (x : Advance) : Type 0 where
  pub es : List Entry
  pub calls : List Call
  pub came : ComesTo old.book old.keeper.saver new.book rg x es calls
  pub relocates : Relocates state old new rg es calls

-- what is told beside: where nothing was due, that the flash was not called; and that a group without a unit is worn out
abbrev pub TellsMore : {F : Type 0} → (F → FlashState) → Seen F → Seen F → ℕ → Advance → Type 0
TellsMore state old new rg advance.Nothing = IsUncalled (state old.flash) (state new.flash)
TellsMore state old new rg advance.Copied = Unit {0}
TellsMore state old new rg advance.Moved = Unit {0}
TellsMore state old new rg advance.Erased = Unit {0}
TellsMore state old new rg advance.Starved = IsWornOut new.handed (state new.flash) (state_in new.book).is_lost rg
TellsMore state old new rg advance.Fault = Unit {0}
