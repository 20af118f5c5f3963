-- A player as contracts see it, when it may make a step, and what the step comes to.
use Rattle.std.specs.Prelude.{◌≡◌, ◌⊎◌, ℕ, ◌<◌, List, Option, Some, None, slice_get, option_map}
use Rattle.std.specs.Option.{option_flatten}
use Rattle.fdp_base.specs.declared.command.Command.{Command}
use Rattle.fdp_base.specs.CommandKinds.{IsWellFormed}
use Rattle.fdp_rules.specs.PlainState.{Going}
use Rattle.fdp_rules.specs.Step.{IsQueue}
use Rattle.fdp_flash.specs.FlashState.{FlashState}
use Rattle.fdp_core.specs.declared.answer.Placed.{Placed}
use Rattle.fdp_core.specs.declared.answer.Placed.TheVariants as placed
use Rattle.fdp_core.specs.fdp_book.declared.stage.Stage.{Stage}
use Rattle.fdp_core.specs.fdp_book.declared.ticket.Done.{Done}
use Rattle.fdp_core.specs.fdp_book.declared.ticket.Ticket.{Ticket}
use Rattle.fdp_core.specs.Answers.{Collects, Commits, EndsAtOnce, EndsInPlacing, MakesRoom, PlacesPage, Starts}
use Rattle.fdp_core.specs.fdp_book.Book.{state_in}
use Rattle.fdp_core.specs.Seen.{Seen}
use Rattle.fdp_core.specs.fdp_book.Stages.{IsStage}
use Rattle.fdp_core.specs.fdp_book.Stages.{IsFree}
use Rattle.fdp_core.specs.fdp_relocation.declared.advance.Advance.{Advance}
use Rattle.fdp_core_tests.specs.declared.noted.Noted.{Noted}

-- a drive, by queue the write that was started last, and the number of the next command
pub record Played (F : Type 0) : Type 0 where
  pub group : Seen F
  pub noted : List (Option Noted)
  pub next : ℕ

-- the ticket of the write that a queue started last
abbrev pub ticket_in : List (Option Noted) → ℕ → Option Ticket
ticket_in noted queue = option_map (λ (x : Noted). record { queue = queue; number = x.number; position = x.position }) (option_flatten (slice_get noted queue))

-- the drive with room for so many steps
abbrev pub with_spare : {F : Type 0} → Seen F → ℕ → Seen F
with_spare group spare = record group { book = record group.book { spare = spare } }

-- ---- when a step may be made

-- a command may be begun in a queue under a number
pub record MayPlay {F : Type 0} (group : Seen F) (queue number : ℕ) (command : Command) : Type 0 where
  pub queue_is : IsQueue group.book.config queue
  pub formed : IsWellFormed group.book.config command
  pub free : IsFree (state_in group.book) queue number
  pub spare : 0 < group.book.spare

-- a queue may go on with its write, which has this ticket and has come so far
pub record MayGoOn {F : Type 0} (player : Played F) (queue : ℕ) (stage : Stage) (ticket : Ticket) : Type 0 where
  pub known : ticket_in player.noted queue ≡ Some ticket
  pub stage_is : IsStage player.group.book ticket stage
  pub spare : 0 < player.group.book.spare

-- the ticket with which a queue may go on, or none
abbrev pub IsTicketFor : {F : Type 0} → Played F → ℕ → Stage → Option Ticket → Type 0
IsTicketFor player queue stage None = (ticket : Ticket) → MayGoOn player queue stage ticket → ⊥
IsTicketFor player queue stage (Some ticket) = MayGoOn player queue stage ticket

-- relocation may make a step in a group
pub record MayCollect {F : Type 0} (group : Seen F) (rg : ℕ) : Type 0 where
  pub group_is : rg < group.book.config.groups
  pub spare : 0 < group.book.spare

-- ---- what a step comes to

-- the first step of a command completes it; or it starts a write, whose ticket is noted
abbrev pub CameToBegin : {F : Type 0} → (F → FlashState) → Seen F → Played F → ℕ → ℕ → Command → Option Done → Type 0
CameToBegin state old new queue number command (Some done) = EndsAtOnce state old new.group queue number command done
CameToBegin state old new queue number command None = (ticket : Ticket) × Starts state old new.group queue number command ticket × (ticket_in new.noted queue ≡ Some ticket)

-- how the placing of a page completed its command, if it did
abbrev pub ended : Placed → Option Done
ended (placed.More ticket) = None
ended (placed.Ready ticket) = None
ended (placed.Ended done) = Some done

-- a step places a page of a going write, makes room for it, or ends the write
abbrev pub CameToPlace : {F : Type 0} → (F → FlashState) → Seen F → Seen F → Ticket → Going → Option Done → Type 0
CameToPlace state old new ticket g None = PlacesPage state old new ticket g ticket ⊎ MakesRoom state old new ticket g ticket
CameToPlace state old new ticket g (Some done) = EndsInPlacing state old new ticket g done

-- a step ends a write whose pages are placed
abbrev pub CameToCommit : {F : Type 0} → (F → FlashState) → Seen F → Seen F → Ticket → Going → Option Done → Type 0
CameToCommit state old new ticket g None = ⊥
CameToCommit state old new ticket g (Some done) = Commits state old new ticket g done

-- a step of relocation in a group
abbrev pub CameToCollect : {F : Type 0} → (F → FlashState) → Seen F → Seen F → ℕ → Option Advance → Type 0
CameToCollect state old new rg None = ⊥
CameToCollect state old new rg (Some advance) = Collects state old new rg advance
