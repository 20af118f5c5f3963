use Rattle.std.proofs.Common.{vec_len}
use Rattle.fdp_lock.specs.Seats.{lock_origin}
use Rattle.fdp_lock.proofs.Gathering.{GathersFrom}
use Rattle.fdp_lock.proofs.lock.GroupLock.gather.Given as goal

abbrev pub invariant-loop-seat : goal.invariant-loop-seat
invariant-loop-seat g l = GathersFrom g.V.Recorded.mark l.self.table.shared.table_id (lock_origin g.V.Recorded.origin l.self) l.fn.seats.items l.seats.items l.token

abbrev pub decreases-loop-seat : goal.decreases-loop-seat
decreases-loop-seat g l = vec_len l.seats
