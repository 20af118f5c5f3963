-- Hosts and collectors on threads of their own, by what they begin with and what they have then done.
use Rattle.std.specs.Prelude.{◌≡◌, ◌≢◌, ℕ, ◌-◌, ◌<◌, ◌≤◌, All, Err, List, [], Ok, Result, get_or, length, slice_index_or}
use Rattle.fdp_base.specs.declared.command.Command.{Command}
use Rattle.fdp_base.specs.declared.config.DriveConfig.{DriveConfig}
use Rattle.fdp_base.specs.declared.entry.Entry.{Entry}
use Rattle.fdp_base.specs.declared.limits.TheConstants.{MOST_TRACE_COMMANDS}
use Rattle.fdp_base.specs.declared.recorded.Mark.{Mark}
use Rattle.fdp_base.specs.CommandKinds.{IsWellFormed}
use Rattle.fdp_gauge.specs.declared.gauge.Gauge.{Gauge}
use Rattle.fdp_gauge.specs.Passes.{IsPassOf}
use Rattle.fdp_lock.specs.declared.lock.GroupLock.{GroupLock}
use Rattle.fdp_lock.specs.declared.seat.Seat.{Seat}
use Rattle.fdp_lock.specs.Seats.{turns_of, number_of, parts_of, made_of, HoldsNoTurn, IsSeatOf}
use Rattle.fdp_rules.specs.Queue.{HoldsWhole}
use Rattle.fdp_workers.specs.declared.ends.End.{End}
use Rattle.fdp_workers.specs.declared.ends.End.TheVariants as ends
use Rattle.fdp_workers.specs.declared.stop.Stop.{Stop}
use Rattle.fdp_workers.specs.declared.stop.Stop.TheVariants as stops
use Rattle.fdp_workers.specs.Hosting.{Expects, IsPost, run_of}
use Rattle.fdp_workers.specs.Queues.{Serves, ServesWhole}
use Rattle.fdp_workers.specs.Run.{Run}
use Rattle.fdp_crews.specs.declared.sweeper.Sweeper.{Sweeper}
use Rattle.fdp_crews.specs.declared.worker.Worker.{Worker}

-- ---- what is asked for

-- each command of a trace is well formed, and they are no more than a trace may have
pub record IsTrace (c : DriveConfig) (trace : List Command) : Type 0 where
  pub formed : All (IsWellFormed c) trace
  pub few : length trace ≤ MOST_TRACE_COMMANDS

-- the trace of a queue: queue 1 has the first one. A queue without a trace counts as one with an empty trace
abbrev pub trace_of : List (List Command) → ℕ → List Command
trace_of traces queue = get_or traces (queue - 1) []

-- ---- ends

-- how a host ends that served its trace, or was stopped
abbrev pub end_of : Result (Unit {0}) Stop → End
end_of (Ok done) = ends.Whole
end_of (Err stops.Turns) = ends.Turns
end_of (Err stops.NoMemory) = ends.NoMemory

-- a queue has not completed its whole trace
abbrev pub LeavesSome : ℕ → List Command → List Entry → Type 0
LeavesSome queue trace es = HoldsWhole queue trace es → ⊥

module _ {S O I : Type 0} {g : _} where
  -- a seat of the lock that holds no turn, has one part, and has made nothing
  pub record IsFreshSeat (origin : S → O) (lock : GroupLock S O I) (s : Seat S O I g) : Type 0 where
    pub of_lock : IsSeatOf origin lock s
    pub no_turn : HoldsNoTurn s
    pub turns : turns_of s ≡ 0
    pub parts : parts_of s ≡ 1
    pub made : made_of s ≡ []

  -- a seat of the lock that holds no turn and has one part
  pub record IsFreeSeat (origin : S → O) (lock : GroupLock S O I) (s : Seat S O I g) : Type 0 where
    pub of_lock : IsSeatOf origin lock s
    pub no_turn : HoldsNoTurn s
    pub parts : parts_of s ≡ 1

  -- ---- hosts

  -- a host that may begin to serve its trace
  pub record IsDue (origin : S → O) (run : O → Run) (lock : GroupLock S O I) (gauge : Gauge) (w : Worker S O I g) : Type 0 where
    pub seat : IsFreshSeat origin lock w.seat
    pub post : IsPost (run_of origin run lock) gauge w.seat w.pass
    pub trace : IsTrace (run_of origin run lock).config w.trace.items
    pub none : w.receipts.items ≡ []

  -- a host that has served this trace, or a part of it: whatever record the lock's value then has, its queue has completed a beginning of the trace,
  -- with these receipts; all of it where it ended whole, and not all where it did not
  pub record HasServed (origin : S → O) (run : O → Run) (entry : I → Entry) (mark : I → Mark) (lock : GroupLock S O I) (gauge : Gauge) (trace : List Command) (w : Worker S O I g) : Type 0 where
    pub seat : IsFreeSeat origin lock w.seat
    pub pass : IsPassOf gauge w.pass
    pub serves : Expects (run_of origin run lock) entry mark (Serves (run_of origin run lock) (number_of w.seat) trace w.receipts.items) w.seat
    pub whole : w.end ≡ ends.Whole → Expects (run_of origin run lock) entry mark (ServesWhole (run_of origin run lock) (number_of w.seat) trace) w.seat
    pub left : w.end ≢ ends.Whole → Expects (run_of origin run lock) entry mark (LeavesSome (number_of w.seat) trace) w.seat

  -- a host with a trace of these: that of its queue
  pub record IsDueFor (origin : S → O) (run : O → Run) (lock : GroupLock S O I) (gauge : Gauge) (traces : List (List Command)) (w : Worker S O I g) : Type 0 where
    pub due : IsDue origin run lock gauge w
    pub trace_is : w.trace.items ≡ trace_of traces (number_of w.seat)

  -- a host that has served the trace of its queue
  abbrev pub HasServedFor : (S → O) → (O → Run) → (I → Entry) → (I → Mark) → GroupLock S O I → Gauge → List (List Command) → Worker S O I g → Type 0
  HasServedFor origin run entry mark lock gauge traces w = HasServed origin run entry mark lock gauge (trace_of traces (number_of w.seat)) w

  -- ---- collectors

  -- a collector that may begin; its number is that of no queue, and not 0
  pub record MaySweep (origin : S → O) (lock : GroupLock S O I) (gauge : Gauge) (w : Sweeper S O I g) : Type 0 where
    pub seat : IsFreshSeat origin lock w.seat
    pub number : number_of w.seat ≢ 0
    pub pass : IsPassOf gauge w.pass

  -- a collector that has made its turns; it made no entry with its number
  pub record HasSwept (origin : S → O) (lock : GroupLock S O I) (gauge : Gauge) (w : Sweeper S O I g) : Type 0 where
    pub seat : IsFreeSeat origin lock w.seat
    pub made : made_of w.seat ≡ []
    pub pass : IsPassOf gauge w.pass

  -- ---- crews

  -- hosts that were due have served the traces of their queues; each kept its number
  pub record HaveServed (origin : S → O) (run : O → Run) (entry : I → Entry) (mark : I → Mark) (lock : GroupLock S O I) (gauge : Gauge) (old new : List (Worker S O I g)) : Type 0 where
    pub served : (traces : List (List Command)) → All (λ w. IsDueFor origin run lock gauge traces w) old → All (λ w. HasServedFor origin run entry mark lock gauge traces w) new
    pub numbers : (i : ℕ) (d : Worker S O I g) → i < length old → number_of (slice_index_or new i d).seat ≡ number_of (slice_index_or old i d).seat
    pub count : length new ≡ length old

  -- collectors have made their turns
  pub record HaveSwept (origin : S → O) (lock : GroupLock S O I) (gauge : Gauge) (old new : List (Sweeper S O I g)) : Type 0 where
    pub swept : All (λ w. HasSwept origin lock gauge w) new
    pub count : length new ≡ length old
