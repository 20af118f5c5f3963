-- What a host has done, by how it served its trace.
use Rattle.std.proofs.Common.{◌≡◌, ℕ, ◌<◌, length-take, List, Result, Ok, Err, length, sym, ◌∙◌, ap, arith}
use Rattle.std.specs.Prelude.{take}
use Rattle.std.proofs.lemmas.List.FromFn.{length-enumerate_from}
use Rattle.fdp_base.specs.declared.command.Command.{Command}
use Rattle.fdp_base.specs.declared.entry.Entry.{Entry}
use Rattle.fdp_base.specs.declared.recorded.Mark.{Mark}
use Rattle.fdp_gauge.specs.declared.gauge.Gauge.{Gauge}
use Rattle.fdp_gauge.specs.declared.gauge.Pass.{Pass}
use Rattle.fdp_lock.specs.declared.lock.GroupLock.{GroupLock}
use Rattle.fdp_lock.specs.declared.seat.Seat.{Seat}
use Rattle.fdp_lock.specs.Seats.{number_of}
use Rattle.fdp_rules.specs.Queue.{numbered}
use Rattle.fdp_workers.specs.declared.ends.End.TheVariants as ends
use Rattle.fdp_workers.specs.declared.receipt.Receipt.{Receipt}
use Rattle.fdp_workers.specs.declared.stop.Stop.{Stop}
use Rattle.fdp_workers.specs.declared.stop.Stop.TheVariants as stops
use Rattle.fdp_workers.specs.Hosting.{Expects, IsAt, KeepsPost, ServesTrace, StopsAt, run_of}
use Rattle.fdp_workers.specs.Queues.{Progress, so_far}
use Rattle.fdp_workers.specs.Run.{Run}
use Rattle.fdp_workers.proofs.Serving.{all-serves, all-whole, some-serves}
use Rattle.fdp_crews.specs.declared.worker.Worker.{Worker}
use Rattle.fdp_crews.specs.Crews.{HasServed, IsFreeSeat, IsFreshSeat, LeavesSome, end_of}

-- a host that was stopped has not completed its trace
part-left : (trace : List Command) (count : ℕ) → count < length trace → numbered (take count trace) ≡ numbered trace → ⊥
part-left trace count low same =
    let l : length (numbered (take count trace)) ≡ length (numbered trace) = ap length same in
    absurd (omega (arith, low, l, length-enumerate_from 0 (take count trace), length-enumerate_from 0 trace, length-take count trace))

module _ {S O I : Type 0} {g : _} (origin : S → O) (run : O → Run) (entry : I → Entry) (mark : I → Mark) (lock : GroupLock S O I) where
  some-left : (trace : List Command) (receipts : List Receipt) (s : Seat S O I g) (count : ℕ) (command : Command) → count < length trace → StopsAt origin run entry mark lock (so_far trace count receipts) count command s → Expects (run_of origin run lock) entry mark (LeavesSome (number_of s) trace) s
  some-left trace receipts s count command low b = λ items goes_on own history whole.
      part-left trace count low (sym (b.commands_are) ∙ sym ((b.at.has items goes_on own history).commands) ∙ whole)

  free : (p : Progress) (old new : Seat S O I g) (before after : Pass) (gauge : Gauge) (at : IsAt origin run entry mark lock p new) → IsFreshSeat origin lock old → KeepsPost gauge old new before after → IsFreeSeat origin lock new
  free p old new before after gauge at fresh kept = record { of_lock = at.of_lock; no_turn = at.no_turn; parts = kept.place.parts ∙ fresh.parts }

  -- what it has then done
  pub served-by : (gauge : Gauge) (trace : List Command) (before after : Pass) (old : Seat S O I g) (w : Worker S O I g) (r : Result (Unit {0}) Stop) → w.end ≡ end_of r → IsFreshSeat origin lock old → KeepsPost gauge old w.seat before w.pass →
      ServesTrace origin run entry mark lock trace w.receipts.items w.seat w.pass r → HasServed origin run entry mark lock gauge trace w
  served-by gauge trace before after old w (Ok done) is fresh kept h = record {
    seat = free (so_far trace (length trace) w.receipts.items) old w.seat before w.pass gauge h.at fresh kept;
    pass = kept.pass_is;
    serves = all-serves origin run entry mark lock trace w.receipts.items w.seat h.at;
    whole = λ end. all-whole origin run entry mark lock trace w.receipts.items w.seat h.at;
    left = λ end. absurd (end is);
  }
  served-by gauge trace before after old w (Err stops.Turns) is fresh kept h = record {
    seat = free h.stopped.left old w.seat before w.pass gauge h.stopped.at fresh kept;
    pass = kept.pass_is;
    serves = some-serves origin run entry mark lock trace w.receipts.items w.seat h.count h.command h.few h.command_is h.stopped;
    whole = λ end. absurd (let bad : ends.Turns ≡ ends.Whole = sym is ∙ end in cc);
    left = λ end. some-left trace w.receipts.items w.seat h.count h.command h.few h.stopped;
  }
  served-by gauge trace before after old w (Err stops.NoMemory) is fresh kept h = record {
    seat = free h.stopped.left old w.seat before w.pass gauge h.stopped.at fresh kept;
    pass = kept.pass_is;
    serves = some-serves origin run entry mark lock trace w.receipts.items w.seat h.count h.command h.few h.command_is h.stopped;
    whole = λ end. absurd (let bad : ends.NoMemory ≡ ends.Whole = sym is ∙ end in cc);
    left = λ end. some-left trace w.receipts.items w.seat h.count h.command h.few h.stopped;
  }
