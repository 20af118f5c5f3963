use Rattle.std.proofs.Common.{arith}
use Rattle.fdp_lock.specs.Seats.{lock_origin}
use Rattle.fdp_lock.proofs.Shares.{note_splits}
use Rattle.fdp_lock.proofs.lock.GroupLock.meet.Goals as goal

pub split_seat-note-requires : goal.split_seat-note-requires
split_seat-note-requires g c =
    let V = g.V.Recorded in
    let table = c.args.self.now.table.shared in
    let token = c.args.giver.now.token in (
      c.requires.giver_of.0,
      omega (arith, c.args.self.now.shape.0),
      note_splits V.origin V.entries V.mark (lock_origin V.origin c.args.self.now) table.key.seats token.id token.me.0 c.requires.giver_free.0,
    )
