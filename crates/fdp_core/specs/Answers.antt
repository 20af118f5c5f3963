-- What the calls of a group answer, each with its cause.
use Rattle.std.specs.Prelude.{◌≡◌, ◌⊎◌, ℕ, ◌+◌, ◌<◌, ◌≤◌, true, false, IsTrue, IsFalse, List, [], ◌∷◌, ◌++◌, None, Some, length, option_map}
use Rattle.std.specs.List.{list_any}
use Rattle.fdp_base.specs.declared.command.Command.{Command}
use Rattle.fdp_base.specs.declared.command.Command.TheVariants as commands
use Rattle.fdp_base.specs.declared.command.Read.{Read}
use Rattle.fdp_base.specs.declared.entry.Entry.{Entry}
use Rattle.fdp_base.specs.declared.entry.Entry.TheVariants as entries
use Rattle.fdp_base.specs.declared.entry.Reply.{Reply}
use Rattle.fdp_base.specs.declared.entry.Spot.{Spot}
use Rattle.fdp_base.specs.declared.status.Status.{Status}
use Rattle.fdp_base.specs.declared.status.TheConstants.Status as statuses
use Rattle.fdp_base.specs.CommandKinds.{blocks_written, is_saved, write_of}
use Rattle.fdp_relocation.specs.fdp_book.declared.ticket.Done.{Done}
use Rattle.fdp_relocation.specs.fdp_book.declared.ticket.Ticket.{Ticket}
use Rattle.fdp_relocation.specs.fdp_book.Book.{point_in, position_in, state_in}
use Rattle.fdp_relocation.specs.fdp_book.Commanded.{applied_reply}
use Rattle.fdp_relocation.specs.fdp_book.Tickets.{IsNextSpot, IsTicketOf, WantsUnit}
use Rattle.fdp_calls.specs.Calls.{has_failed, program_at}
use Rattle.fdp_relocation.specs.fdp_collector.Step.{IsUncalled}
use Rattle.fdp_core.specs.declared.answer.Begun.{Begun}
use Rattle.fdp_core.specs.declared.answer.Begun.TheVariants as begun
use Rattle.fdp_core.specs.declared.answer.Placed.{Placed}
use Rattle.fdp_core.specs.declared.answer.Placed.TheVariants as placed
use Rattle.fdp_core.specs.Fetches.{Fetches}
use Rattle.fdp_core.specs.Passes.{HasNoPass}
use Rattle.fdp_core.specs.Seen.{Seen}
use Rattle.fdp_core.specs.Steps.{Adds, Completes, Matches}
use Rattle.fdp_flash.specs.declared.answer.Wrote.{Wrote}
use Rattle.fdp_flash.specs.declared.answer.Wrote.TheVariants as wrote
use Rattle.fdp_flash.specs.FlashState.{Call, FlashState}
use Rattle.fdp_loading.specs.fdp_ledger.WornOut.{IsWornOut}
use Rattle.fdp_relocation.specs.declared.advance.Advance.{Advance}
use Rattle.fdp_relocation.specs.declared.advance.Advance.TheVariants as advance
use Rattle.fdp_relocation.specs.Entries.{AreRelocationIn}
use Rattle.fdp_rules.specs.Answer.{IsSuccess, bare}
use Rattle.fdp_rules.specs.Change.{one_more_placed, started}
use Rattle.fdp_rules.specs.History.{state_of}
use Rattle.fdp_rules.specs.PlainState.{Going, PlainState}
use Rattle.fdp_rules.specs.Refusal.{refusal_of}
use Rattle.fdp_rules.specs.Room.{roomiest}
use Rattle.fdp_rules.specs.Sites.{is_there}
use Rattle.fdp_rules.specs.Step.{MaySucceed, exceeds_budget, goes_to}
use Rattle.fdp_rules.specs.Target.{Target}
use Rattle.fdp_relocation.specs.fdp_saving.declared.saved.Saved.{Saved}
use Rattle.fdp_relocation.specs.fdp_saving.declared.saved.Saved.TheVariants as savings
use Rattle.fdp_relocation.specs.fdp_saving.Calls.{AreCallsOfCheckpoint, AreCallsOfSaving, FailAtEnd}
use Rattle.fdp_snapshot.specs.declared.state.Summary.{Summary}
use Rattle.fdp_units.specs.UnitTable.{toil_of}
use Rattle.fdp_core.specs.Advancing.{ComesTo}

-- ---- the first step of a command

-- a step starts a write that is not refused, and has no more blocks than a command may: at its target, with the group that has
-- most room; the flash is not called
pub record Starts {F : Type 0} (state : F → FlashState) (old new : Seen F) (queue number : ℕ) (command : Command) (ticket : Ticket) : Type 0 where
  pub accepted : refusal_of old.book.config (point_in old.book) command ≡ None
  pub few : blocks_written command ≤ old.book.config.blocks_per_command
  pub target : Target
  pub target_is : option_map (goes_to old.book.config (state_in old.book) (roomiest old.book.config (state_in old.book))) (write_of command) ≡ Some target
  pub step : Adds state old new (entries.Started (record { queue = queue; number = number; command = command; rg = target.rg; ruh = target.ruh; pid_valid = target.valid }) ∷ []) []
  pub ticket_is : ticket ≡ record { queue = queue; number = number; position = position_in new.book }
  pub going : IsTicketOf (state_in new.book) ticket (started old.book.config (state_in old.book) number command target.rg target.ruh target.valid)
  pub uncalled : new.flash ≡ old.flash

-- a command is refused with its refusal; the flash is not called
pub record Refuses {F : Type 0} (old new : Seen F) (command : Command) (calls : List Call) (reply : Reply) : Type 0 where
  pub status : Status
  pub refused : refusal_of old.book.config (point_in old.book) command ≡ Some status
  pub reply_is : reply ≡ bare status false
  pub none : calls ≡ []
  pub uncalled : new.flash ≡ old.flash

-- a read that is not refused fetches its blocks; whether or not a fetch fails, the cells are as they were
pub record ReadsBlocks {F : Type 0} (state : F → FlashState) (old new : Seen F) (command : Command) (calls : List Call) : Type 0 where
  pub accepted : refusal_of old.book.config (point_in old.book) command ≡ None
  pub read : Read
  pub command_is : command ≡ commands.Read read
  pub fetches : Fetches old.book read calls (list_any has_failed calls)
  pub cells : IsTrue (state old.flash).told → (state new.flash).cells ≡ (state old.flash).cells

-- a command that is not refused, and neither read nor saved, is answered with its success; the flash is not called
pub record Succeeds {F : Type 0} (state : F → FlashState) (old new : Seen F) (command : Command) (calls : List Call) (reply : Reply) : Type 0 where
  pub accepted : refusal_of old.book.config (point_in old.book) command ≡ None
  pub unsaved : IsFalse (is_saved command)
  pub success : IsSuccess (state old.flash).told old.book.config (point_in old.book) command reply
  pub none : calls ≡ []
  pub uncalled : new.flash ≡ old.flash

-- The reply to a command whose change was to be saved, by the answer of the saving: success where it was saved; Write Fault, the change made all
-- the same, where the program of its record failed; Write Fault and no change where a checkpoint had to come first and failed.
abbrev pub reply_to_change : PlainState → Command → Saved → Reply
reply_to_change s command savings.Done = applied_reply s command statuses.SUCCESS
reply_to_change s command (savings.Doubtful moment) = bare statuses.WRITE_FAULT true
reply_to_change s command (savings.Unsaved moment) = bare statuses.WRITE_FAULT false

-- the change of a command that is not refused is saved, by calls of the system areas, and its reply follows the answer of the saving
pub record SavesChange {F : Type 0} (old : Seen F) (command : Command) (calls : List Call) (reply : Reply) : Type 0 where
  pub accepted : refusal_of old.book.config (point_in old.book) command ≡ None
  pub saves : IsTrue (is_saved command)
  pub summary : Summary
  pub answer : Saved
  pub saved : AreCallsOfSaving old.keeper.saver summary answer calls
  pub reply_is : reply ≡ reply_to_change (state_in old.book) command answer

-- the first step completes a command: it is refused; it is a read; it is answered; or its change is saved
pub record EndsAtOnce {F : Type 0} (state : F → FlashState) (old new : Seen F) (queue number : ℕ) (command : Command) (done : Done) : Type 0 where
  pub calls : List Call
  pub completes : Completes state old new [] queue number command calls done
  pub came : Refuses old new command calls done.reply ⊎ ReadsBlocks state old new command calls ⊎ Succeeds state old new command calls done.reply ⊎ SavesChange old command calls done.reply

-- the first step of a command completes it or, for a write that is not refused, starts it
abbrev pub Begins : {F : Type 0} → (F → FlashState) → Seen F → Seen F → ℕ → ℕ → Command → Begun → Type 0
Begins state old new queue number command (begun.Ended done) = EndsAtOnce state old new queue number command done
Begins state old new queue number command (begun.Going ticket) = Starts state old new queue number command ticket

-- ---- the pages of a write

-- a step places the next page of a going write, by one call that programs it
pub record PlacesPage {F : Type 0} (state : F → FlashState) (old new : Seen F) (ticket : Ticket) (g : Going) (next : Ticket) : Type 0 where
  pub spot : Spot
  pub goes : IsNextSpot old.book ticket g spot
  pub step : Adds state old new (entries.Placed (record { ticket = ticket.position; index = g.placed; unit = spot.unit; page = spot.page }) ∷ []) (program_at spot false ∷ [])
  pub next_is : next ≡ ticket
  pub going : IsTicketOf (state_in new.book) next (one_more_placed g)

-- a write that wants a unit: a step makes a relocation pass in its group, or ends the one under way; no call fails, the victim is erased
-- and the toil of the group is lower
pub record MakesRoom {F : Type 0} (state : F → FlashState) (old new : Seen F) (ticket : Ticket) (g : Going) (next : Ticket) : Type 0 where
  pub wants : WantsUnit old.book g
  pub before : List Entry
  pub unit : ℕ
  pub calls : List Call
  pub step : Adds state old new (before ++ entries.Erased (record { unit = unit }) ∷ []) calls
  pub inside : AreRelocationIn old.book.config g.rg (before ++ entries.Erased (record { unit = unit }) ∷ [])
  pub well : list_any has_failed calls ≡ false
  pub toil : toil_of new.book.pages.units g.rg < toil_of old.book.pages.units g.rg
  pub next_is : next ≡ ticket
  pub going : IsTicketOf (state_in new.book) next g

-- a going write ends with this reply, behind no other entry; the flash is not called
pub record EndsAlone {F : Type 0} (state : F → FlashState) (old new : Seen F) (ticket : Ticket) (g : Going) (reply : Reply) (done : Done) : Type 0 where
  pub completes : Completes state old new [] ticket.queue g.number g.command [] done
  pub reply_is : done.reply ≡ reply
  pub uncalled : new.flash ≡ old.flash

-- a write that wants a unit is over budget, and no pass is possible in its group: none is under way, and no closed unit has a page that
-- is not live
pub record EndsCrowded {F : Type 0} (state : F → FlashState) (old new : Seen F) (ticket : Ticket) (g : Going) (done : Done) : Type 0 where
  pub wants : WantsUnit old.book g
  pub none : HasNoPass old.book g.rg
  pub over : IsTrue (exceeds_budget old.book.config (state_in old.book) g)
  pub completes : Completes state old new [] ticket.queue g.number g.command [] done
  pub reply_is : done.reply ≡ bare statuses.CAPACITY_EXCEEDED false
  pub flash : IsUncalled (state old.flash) (state new.flash)

-- a write that wants a unit: relocation found no free unit for a copy, so that its group is worn; no call failed. By then the group is
-- worn out, and the write over budget
pub record EndsStarved {F : Type 0} (state : F → FlashState) (old new : Seen F) (ticket : Ticket) (g : Going) (done : Done) : Type 0 where
  pub wants : WantsUnit old.book g
  pub before : List Entry
  pub calls : List Call
  pub inside : AreRelocationIn old.book.config g.rg (before ++ entries.Worn (record { rg = g.rg }) ∷ [])
  pub worn : IsWornOut old.handed (state new.flash) (state_of old.book.config old.book.found (old.book.entries ++ before ++ entries.Worn (record { rg = g.rg }) ∷ [])).is_lost g.rg
  pub over : IsTrue (exceeds_budget old.book.config (state_of old.book.config old.book.found (old.book.entries ++ before ++ entries.Worn (record { rg = g.rg }) ∷ [])) g)
  pub completes : Completes state old new (before ++ entries.Worn (record { rg = g.rg }) ∷ []) ticket.queue g.number g.command calls done
  pub well : list_any has_failed calls ≡ false
  pub reply_is : done.reply ≡ bare statuses.CAPACITY_EXCEEDED false

-- a write that wants a unit: a call of a relocation pass in its group failed, and the write ends with Write Fault
pub record EndsInPass {F : Type 0} (state : F → FlashState) (old new : Seen F) (ticket : Ticket) (g : Going) (done : Done) : Type 0 where
  pub wants : WantsUnit old.book g
  pub before : List Entry
  pub calls : List Call
  pub inside : AreRelocationIn old.book.config g.rg before
  pub completes : Completes state old new before ticket.queue g.number g.command calls done
  pub fails : FailAtEnd calls
  pub reply_is : done.reply ≡ bare statuses.WRITE_FAULT false

-- the program of the next page of a write failed: the handle is shut, which is saved, whether that fails or not; and the write ends with
-- Write Fault
pub record FailsToPlace {F : Type 0} (state : F → FlashState) (old new : Seen F) (ticket : Ticket) (g : Going) (done : Done) : Type 0 where
  pub spot : Spot
  pub goes : IsNextSpot old.book ticket g spot
  pub summary : Summary
  pub answer : Saved
  pub calls : List Call
  pub saved : AreCallsOfSaving old.keeper.saver summary answer calls
  pub completes : Completes state old new (entries.Shut (record { rg = g.rg; ruh = g.ruh }) ∷ []) ticket.queue g.number g.command (program_at spot true ∷ calls) done
  pub reply_is : done.reply ≡ bare statuses.WRITE_FAULT false

-- a write ends in place of its next page: its namespace is gone; it wants a unit and gets none, or a call for that failed; or the program
-- of its page failed
abbrev pub EndsInPlacing : {F : Type 0} → (F → FlashState) → Seen F → Seen F → Ticket → Going → Done → Type 0
EndsInPlacing state old new ticket g done =
    (IsFalse (is_there (state_in old.book) g) × EndsAlone state old new ticket g (bare statuses.INVALID_NAMESPACE false) done)
    ⊎ EndsCrowded state old new ticket g done
    ⊎ EndsStarved state old new ticket g done
    ⊎ EndsInPass state old new ticket g done
    ⊎ FailsToPlace state old new ticket g done

-- a step places a page of a going write, which is its last or not, makes room for it, or ends the write
abbrev pub Places : {F : Type 0} → (F → FlashState) → Seen F → Seen F → Ticket → Going → Placed → Type 0
Places state old new ticket g (placed.More next) = (PlacesPage state old new ticket g next × (g.placed + 1 < blocks_written g.command)) ⊎ MakesRoom state old new ticket g next
Places state old new ticket g (placed.Ready next) = PlacesPage state old new ticket g next × (g.placed + 1 ≡ blocks_written g.command)
Places state old new ticket g (placed.Ended done) = EndsInPlacing state old new ticket g done

-- ---- the end of a write

-- the change of a write was saved with this answer, by calls of the system areas, and the write ends with this reply
pub record EndsSaved {F : Type 0} (state : F → FlashState) (old new : Seen F) (ticket : Ticket) (g : Going) (answer : Saved) (reply : Reply) (done : Done) : Type 0 where
  pub summary : Summary
  pub calls : List Call
  pub saved : AreCallsOfSaving old.keeper.saver summary answer calls
  pub completes : Completes state old new [] ticket.queue g.number g.command calls done
  pub reply_is : done.reply ≡ reply

-- How a write that may succeed ends, by the saving of its change: with Success where it was saved; with Write Fault, the change made all the
-- same, where the program of its record failed; with Write Fault and no change where a checkpoint had to come first and failed.
abbrev pub SavesWrite : {F : Type 0} → (F → FlashState) → Seen F → Seen F → Ticket → Going → Done → Type 0
SavesWrite state old new ticket g done =
    EndsSaved state old new ticket g savings.Done (bare statuses.SUCCESS true) done
    ⊎ ((moment : ℕ) × EndsSaved state old new ticket g (savings.Doubtful moment) (bare statuses.WRITE_FAULT true) done)
    ⊎ ((moment : ℕ) × EndsSaved state old new ticket g (savings.Unsaved moment) (bare statuses.WRITE_FAULT false) done)

-- a write whose pages are placed ends: its namespace is gone; it exceeds its budget; or it may succeed, and its change is saved
abbrev pub Commits : {F : Type 0} → (F → FlashState) → Seen F → Seen F → Ticket → Going → Done → Type 0
Commits state old new ticket g done =
    (IsFalse (is_there (state_in old.book) g) × EndsAlone state old new ticket g (bare statuses.INVALID_NAMESPACE false) done)
    ⊎ (IsTrue (is_there (state_in old.book) g) × IsTrue (exceeds_budget old.book.config (state_in old.book) g) × EndsAlone state old new ticket g (bare statuses.CAPACITY_EXCEEDED false) done)
    ⊎ (MaySucceed old.book.config (point_in old.book) g × SavesWrite state old new ticket g done)

-- ---- the whole drive

-- a checkpoint was written: it is a step that adds no entry, and each entry is firm
pub record SavesAll {F : Type 0} (state : F → FlashState) (old new : Seen F) : Type 0 where
  pub summary : Summary
  pub calls : List Call
  pub saved : AreCallsOfCheckpoint old.keeper.saver summary wrote.Done calls
  pub matches : Matches (state old.flash) (state new.flash) [] calls
  pub handed_is : new.handed ≡ old.handed
  pub book : new.book ≡ record old.book { spare = new.book.spare; spent = new.book.spent; room = new.book.room; may_move = new.book.may_move }
  pub spent_is : new.book.spent ≡ old.book.spent + 1
  pub spare_is : new.book.spare + 1 ≡ old.book.spare
  pub firm : new.keeper.firm ≡ length new.book.entries

-- a call of a checkpoint failed, the last one
pub record FailsToSave {F : Type 0} (state : F → FlashState) (old new : Seen F) : Type 0 where
  pub summary : Summary
  pub calls : List Call
  pub saved : AreCallsOfCheckpoint old.keeper.saver summary wrote.Failed calls
  pub matches : Matches (state old.flash) (state new.flash) [] calls
  pub fails : FailAtEnd calls
  pub handed_is : new.handed ≡ old.handed
  pub book : new.book ≡ old.book

-- The whole drive was saved: each entry is firm, and it was a step. Or a call of that failed, the last one; it was no step.
abbrev pub Checkpoints : {F : Type 0} → (F → FlashState) → Seen F → Seen F → Wrote → Type 0
Checkpoints state old new wrote.Done = SavesAll state old new
Checkpoints state old new wrote.Failed = FailsToSave state old new

-- ---- relocation

-- the next step of relocation in a group: these entries were added, with these calls, which the answer comes of; a group that is worn out is told
-- to be
pub record CollectsStep {F : Type 0} (state : F → FlashState) (old new : Seen F) (rg : ℕ) (x : Advance) : Type 0 where
  pub es : List Entry
  pub calls : List Call
  pub came : ComesTo old.book old.keeper.saver new.book rg x es calls
  pub step : Adds state old new es calls

abbrev pub Collects : {F : Type 0} → (F → FlashState) → Seen F → Seen F → ℕ → Advance → Type 0
Collects state old new rg advance.Copied = CollectsStep state old new rg advance.Copied
Collects state old new rg advance.Moved = CollectsStep state old new rg advance.Moved
Collects state old new rg advance.Erased = CollectsStep state old new rg advance.Erased
Collects state old new rg advance.Nothing = CollectsStep state old new rg advance.Nothing × IsUncalled (state old.flash) (state new.flash)
Collects state old new rg advance.Starved = CollectsStep state old new rg advance.Starved × IsWornOut old.handed (state new.flash) (state_in new.book).is_lost rg
Collects state old new rg advance.Fault = CollectsStep state old new rg advance.Fault
