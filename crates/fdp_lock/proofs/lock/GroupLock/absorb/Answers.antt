use Rattle.std.proofs.Common.{◌∙◌, ap, arith}
use Rattle.atomic_table.specs.Table.{step}
use mathlib.Core.Option.{none}
use Rattle.fdp_lock.specs.Seats.{lock_origin}
use Rattle.fdp_lock.proofs.Shares.{joins}
use Rattle.fdp_lock.proofs.Turns.{learns}
use Rattle.fdp_lock.proofs.lock.GroupLock.absorb.Goals as goal

pub join_seat-requires : goal.join_seat-requires
join_seat-requires g c =
    let V = g.V.Recorded in
    let table = c.args.self.now.table.shared in
    let token = c.args.token.now in
    let other = c.args.other in (
      c.requires.table.0,
      c.requires.table.1,
      c.requires.rests.1.1,
      omega (arith, c.args.self.now.shape.0),
      joins V.origin V.entries V.mark (lock_origin V.origin c.args.self.now) table.key.seats token.id token.me.0 other.id other.me.0 c.requires.rests.2 c.requires.rests.0.0 c.requires.rests.1.0,
    )

pub load-requires : goal.load-requires
load-requires g c =
    let V = g.V.Recorded in
    let table = c.args.self.now.table.shared in
    let token = c.join_seat.new.seat in (
      c.join_seat.ensures.0 ∙ c.requires.table.0,
      omega (arith, c.args.self.now.shape.0),
      learns V.origin V.entries V.mark (lock_origin V.origin c.args.self.now) table.key.seats table.table_id.slots token.id token.me (step table.table_id.slots 0 0 0 none) (ap (λ m. m.0.stage) c.join_seat.ensures.2 ∙ c.requires.rests.0.0),
    )
