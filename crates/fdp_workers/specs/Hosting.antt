-- What a seat knows of the record by the entries that carry its number.
use Rattle.std.specs.Prelude.{◌≡◌, ◌≢◌, ℕ, ◌+◌, ◌^◌, ◌<◌, ◌≤◌, List, None, Ok, Err, Result, get_or, length, map, true}
use mathlib.Core.List.{IsPrefix}
use Rattle.fdp_base.specs.declared.command.Command.{Command}
use Rattle.fdp_base.specs.declared.entry.Entry.{Entry}
use Rattle.fdp_base.specs.declared.recorded.Mark.{Mark}
use Rattle.fdp_base.specs.CommandKinds.{blocks_written, is_write}
use Rattle.fdp_base.specs.Records.{carrying}
use Rattle.fdp_core.specs.fdp_book.declared.ticket.Done.{Done}
use Rattle.fdp_core.specs.fdp_book.declared.ticket.Ticket.{Ticket}
use Rattle.fdp_core.specs.declared.answer.Begun.{Begun}
use Rattle.fdp_core.specs.declared.answer.Begun.TheVariants as begun
use Rattle.fdp_core.specs.declared.answer.Placed.{Placed}
use Rattle.fdp_core.specs.declared.answer.Placed.TheVariants as placed
use Rattle.fdp_lock.specs.declared.lock.GroupLock.{GroupLock}
use Rattle.fdp_lock.specs.declared.seat.Seat.{Seat}
use Rattle.fdp_gauge.specs.declared.gauge.Gauge.{Gauge}
use Rattle.fdp_gauge.specs.declared.gauge.Pass.{Pass}
use Rattle.fdp_gauge.specs.Passes as passes
use Rattle.fdp_lock.specs.Seats.{turns_of, number_of, seen_of, made_of, lock_origin, HoldsNoTurn, IsSeatOf, KeepsPlace}
use Rattle.fdp_rules.specs.PlainState.{Going}
use Rattle.fdp_rules.specs.Step.{IsQueue}
use Rattle.fdp_workers.specs.declared.stop.Stop.{Stop}
use Rattle.fdp_workers.specs.declared.receipt.Receipt.{Receipt}
use Rattle.fdp_workers.specs.Queues.{Has, NoOtherGoes, Progress, ended, flying, so_far}
use Rattle.fdp_workers.specs.Run.{IsHistory, Run}
use Rattle.fdp_base.specs.declared.limits.TheConstants.{MOST_STEPS}

-- what the drive of a lock began with
abbrev pub run_of : {S O I : Type 0} → (S → O) → (O → Run) → GroupLock S O I → Run
run_of origin run lock = run (lock_origin origin lock)

-- the ticket is that of a write of this queue
pub record IsTicketIn (queue : ℕ) (ticket : Ticket) (g : Going) : Type 0 where
  pub queue_is : ticket.queue ≡ queue
  pub number_is : g.number ≡ ticket.number
  pub position_is : g.ticket ≡ ticket.position
  pub write : is_write g.command ≡ true

module _ {S O I : Type 0} {g : _} where
  -- Whatever history the seat is given next has this: it goes on from what the seat has seen, and of the seat's number it has just the
  -- entries that the seat made.
  abbrev pub Expects : Run → (I → Entry) → (I → Mark) → (List Entry → Type 0) → Seat S O I g → Type 0
  Expects run entry mark P s = (items : List I) → IsPrefix (seen_of s) items → carrying mark (number_of s) items ≡ made_of s → IsHistory run entry mark items → P (map entry items)

  -- the pass has seen what the seat has seen
  abbrev pub IsShown : (I → Mark) → Seat S O I g → Pass → Type 0
  IsShown mark s pass = IsPrefix (map mark (seen_of s)) (passes.seen_of pass)

  -- a host's seat and pass: its number is that of a queue, and the gauge shows the record
  pub record IsPost (run : Run) (gauge : Gauge) (s : Seat S O I g) (pass : Pass) : Type 0 where
    pub queue_is : IsQueue run.config (number_of s)
    pub gauge_is : gauge.cell.table.shared.table_id ≡ run.gauge
    pub pass_is : passes.IsPassOf gauge pass

  -- they are those of the same worker, and the pass has seen no less
  pub record KeepsPost (gauge : Gauge) (old new : Seat S O I g) (before after : Pass) : Type 0 where
    pub place : KeepsPlace old new
    pub pass_is : passes.IsPassOf gauge after
    pub seen : IsPrefix (seen_of old) (seen_of new)
    pub shown : IsPrefix (passes.seen_of before) (passes.seen_of after)

  -- a seat between its turns, whose queue has this
  pub record IsAt (origin : S → O) (run : O → Run) (entry : I → Entry) (mark : I → Mark) (lock : GroupLock S O I) (p : Progress) (s : Seat S O I g) : Type 0 where
    pub of_lock : IsSeatOf origin lock s
    pub no_turn : HoldsNoTurn s
    pub has : Expects (run_of origin run lock) entry mark (Has (run_of origin run lock) (number_of s) p) s

  -- each of its turns added an entry, so it may take another
  pub record IsPaced (s : Seat S O I g) : Type 0 where
    pub paced : turns_of s ≤ length (seen_of s)
    pub few : turns_of s < 2 ^ 40

  -- no write is going in its queue
  pub record IsIdleAt (origin : S → O) (run : O → Run) (entry : I → Entry) (mark : I → Mark) (lock : GroupLock S O I) (p : Progress) (s : Seat S O I g) : Type 0 where
    pub at : IsAt origin run entry mark lock p s
    pub idle : p.going ≡ None
    pub paced : IsPaced s

  -- so many pages of its write are placed
  pub record IsFlyingAt (origin : S → O) (run : O → Run) (entry : I → Entry) (mark : I → Mark) (lock : GroupLock S O I) (p : Progress) (ticket : Ticket) (x : Going) (count : ℕ) (s : Seat S O I g) : Type 0 where
    pub ticket_is : IsTicketIn (number_of s) ticket x
    pub at : IsAt origin run entry mark lock (flying p x count) s
    pub paced : IsPaced s

  -- its queue has completed a command, which the pass has seen
  pub record EndsAt (origin : S → O) (run : O → Run) (entry : I → Entry) (mark : I → Mark) (lock : GroupLock S O I) (p : Progress) (number : ℕ) (command : Command) (s : Seat S O I g) (pass : Pass) (done : Done) : Type 0 where
    pub at : IsAt origin run entry mark lock (ended p number command done.position) s
    pub paced : IsPaced s
    pub shown : IsShown mark s pass

  -- no further step could be made for a command. No command more was completed; the write of this one may be left going
  pub record StopsAt (origin : S → O) (run : O → Run) (entry : I → Entry) (mark : I → Mark) (lock : GroupLock S O I) (p : Progress) (number : ℕ) (command : Command) (s : Seat S O I g) : Type 0 where
    pub left : Progress
    pub commands_are : left.commands ≡ p.commands
    pub receipts_are : left.receipts ≡ p.receipts
    pub going : NoOtherGoes number command left.going
    pub at : IsAt origin run entry mark lock left s
    pub turns : turns_of s ≤ length (seen_of s) + 1

  -- the drive, as the seat saw it last, had made all the steps that it may make
  pub record IsSpent (origin : S → O) (entries : S → List I) (spent : S → ℕ) (lock : GroupLock S O I) (s : Seat S O I g) : Type 0 where
    pub value : S
    pub origin_is : origin value ≡ lock_origin origin lock
    pub entries_are : entries value ≡ seen_of s
    pub spent_is : spent value ≡ MOST_STEPS

  -- a write was started: it goes on with this ticket
  pub record StartsAt (origin : S → O) (run : O → Run) (entry : I → Entry) (mark : I → Mark) (lock : GroupLock S O I) (p : Progress) (number : ℕ) (command : Command) (s : Seat S O I g) (ticket : Ticket) : Type 0 where
    pub going : Going
    pub number_is : going.number ≡ number
    pub command_is : going.command ≡ command
    pub flies : IsFlyingAt origin run entry mark lock p ticket going 0 s

  -- a command was begun: it is completed, or it is a write that goes on
  abbrev pub BeginsAt : (S → O) → (O → Run) → (I → Entry) → (I → Mark) → GroupLock S O I → Progress → ℕ → Command → Seat S O I g → Pass → Begun → Type 0
  BeginsAt origin run entry mark lock p number command s pass (begun.Ended done) = EndsAt origin run entry mark lock p number command s pass done
  BeginsAt origin run entry mark lock p number command s pass (begun.Going ticket) = StartsAt origin run entry mark lock p number command s ticket

  -- pages of a write are still to be placed
  pub record WaitsAt (origin : S → O) (run : O → Run) (entry : I → Entry) (mark : I → Mark) (lock : GroupLock S O I) (p : Progress) (ticket : Ticket) (x : Going) (s : Seat S O I g) : Type 0 where
    pub count : ℕ
    pub asked : count < blocks_written x.command
    pub flies : IsFlyingAt origin run entry mark lock p ticket x count s

  -- a step was made for a write: pages are still to be placed, or all are placed, or it has ended
  abbrev pub PlacesAt : (S → O) → (O → Run) → (I → Entry) → (I → Mark) → GroupLock S O I → Progress → Going → Seat S O I g → Pass → Placed → Type 0
  PlacesAt origin run entry mark lock p x s pass (placed.More next) = WaitsAt origin run entry mark lock p next x s
  PlacesAt origin run entry mark lock p x s pass (placed.Ready next) = IsFlyingAt origin run entry mark lock p next x (blocks_written x.command) s
  PlacesAt origin run entry mark lock p x s pass (placed.Ended done) = EndsAt origin run entry mark lock p x.number x.command s pass done

  -- the whole trace was served, which the pass has seen where there was a command
  pub record ServesAll (origin : S → O) (run : O → Run) (entry : I → Entry) (mark : I → Mark) (lock : GroupLock S O I) (trace : List Command) (receipts : List Receipt) (s : Seat S O I g) (pass : Pass) : Type 0 where
    pub at : IsAt origin run entry mark lock (so_far trace (length trace) receipts) s
    pub paced : IsPaced s
    pub shown : 0 < length trace → IsShown mark s pass

  -- so many commands of the trace were served, and no more
  pub record ServesSome (origin : S → O) (run : O → Run) (entry : I → Entry) (mark : I → Mark) (lock : GroupLock S O I) (trace : List Command) (receipts : List Receipt) (s : Seat S O I g) (stop : Stop) : Type 0 where
    pub count : ℕ
    pub few : count < length trace
    pub sized : length receipts ≡ count
    pub command : Command
    pub command_is : command ≡ get_or trace count command
    pub stopped : StopsAt origin run entry mark lock (so_far trace count receipts) count command s

  abbrev pub ServesTrace : (S → O) → (O → Run) → (I → Entry) → (I → Mark) → GroupLock S O I → List Command → List Receipt → Seat S O I g → Pass → Result (Unit {0}) Stop → Type 0
  ServesTrace origin run entry mark lock trace receipts s pass (Ok done) = ServesAll origin run entry mark lock trace receipts s pass
  ServesTrace origin run entry mark lock trace receipts s pass (Err stop) = ServesSome origin run entry mark lock trace receipts s stop

  -- the seat has seen no less, and made no entry with its number
  pub record AddsNothing (old new : Seat S O I g) : Type 0 where
    pub place : KeepsPlace old new
    pub seen : IsPrefix (seen_of old) (seen_of new)
    pub made : number_of old ≢ 0 → made_of new ≡ made_of old
