use Rattle.std.proofs.Common.{◌∷◌, Some, ◌∙◌, ap, arith}
use Rattle.atomic_table.specs.Table.{step}
use mathlib.Core.Option.{none}
use Rattle.fdp_lock.specs.Seats.{lock_origin}
use Rattle.fdp_lock.proofs.Turns.{may_take, taken_last}
use Rattle.fdp_lock.proofs.lock.GroupLock.try_take.Goals as goal

pub swap-requires : goal.swap-requires
swap-requires g c =
    let V = g.V.Recorded in
    let table = c.args.self.now.table.shared in
    let token = c.args.token.now in (
      c.requires.table,
      omega (arith, c.args.self.now.shape.0),
      may_take V.origin V.entries V.mark (lock_origin V.origin c.args.self.now) table.key.seats table.table_id.slots token.id token.me (step table.table_id.slots 0 1 0 none) c.requires.idle.0 c.requires.idle.2,
    )

pub exchange-requires : goal.exchange-requires
exchange-requires g c =
    let found = c.swap.ensures.2.0 c.if-swap-ne0.false in
    let out = ap (λ m. m.1) found.1 ∙ (λ i. (0, Some found.0) ∷ c.requires.idle.1 i) in
    (c.swap.ensures.0 ∙ c.requires.table, (Some found.0, taken_last (Some found.0) c.swap.new.seat.me.1 out))
