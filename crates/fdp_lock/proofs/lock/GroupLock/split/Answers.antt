use Rattle.std.proofs.Common.{◌∙◌, ap, arith}
use Rattle.atomic_table.specs.Table.{step}
use mathlib.Core.Option.{none}
use Rattle.fdp_lock.specs.Seats.{lock_origin}
use Rattle.fdp_lock.proofs.Shares.{part_splits_after}
use Rattle.fdp_lock.proofs.Turns.{names}
use Rattle.fdp_lock.proofs.lock.GroupLock.split.Goals as goal

pub compare_exchange-requires : goal.compare_exchange-requires
compare_exchange-requires g c =
    let V = g.V.Recorded in
    let table = c.args.self.now.table.shared in
    let token = c.args.seat.now.token in (
      c.requires.of_lock.0,
      omega (arith, c.args.self.now.shape.0),
      names V.origin V.entries V.mark (lock_origin V.origin c.args.self.now) table.key.seats table.table_id.slots token.id token.me (step table.table_id.slots 0 c.from-next.result c.from-next.result none) c.from-next.result c.requires.no_turn.0,
    )

pub split_seat-token-requires : goal.split_seat-token-requires
split_seat-token-requires g c =
    let V = g.V.Recorded in
    let table = c.args.self.now.table.shared in
    let seat = c.args.seat.now in
    let token = c.compare_exchange.new.seat in (
      c.compare_exchange.ensures.0 ∙ c.requires.of_lock.0,
      omega (arith, c.args.self.now.shape.0),
      part_splits_after V.origin V.entries V.mark (lock_origin V.origin c.args.self.now) table.key.seats token.id seat.token.me.0 token.me.0 seat.number seat.parts seat.given c.from-next.result (ap (λ m. m.0) c.compare_exchange.ensures.2) seat.tied
          c.requires.no_turn.0 c.requires.first c.requires.two_parts (omega (arith, c.from-next.ensures, c.requires.fresh)),
    )
