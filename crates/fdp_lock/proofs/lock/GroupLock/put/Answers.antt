use Rattle.std.proofs.Common.{◌≡◌, [], ◌∷◌, Some, None, ◌∙◌, arith}
use Rattle.atomic_table.specs.Table.{step, rest}
use mathlib.Core.Option.{none}
use Rattle.fdp_lock.specs.Seats.{lock_origin}
use Rattle.fdp_lock.specs.Steps.{Place}
use Rattle.fdp_lock.proofs.Turns.{may_give_after, taken_last}
use Rattle.fdp_lock.proofs.lock.GroupLock.put.Goals as goal

pub exchange-before-requires : goal.exchange-before-requires
exchange-before-requires g c = (c.requires.table, (None, taken_last None c.args.token.now.me.1 c.requires.turn.1))

pub store-requires : goal.store-requires
store-requires g c =
    let V = g.V.Recorded in
    let table = c.args.self.now.table.shared in
    let v = c.args.token.now.me.0 in
    let me : Place g.row.V.Denot g.row.V-Origin.Denot g.row.V-Item.Denot = c.exchange-before.new.seat.me in
    let put : me ≡ (v, (0, Some c.args.value) ∷ []) = c.exchange-before.ensures.3 ∙ (λ i. (v, (0, Some c.args.value) ∷ rest (c.requires.turn.1 i))) in
    let own_entries = c.requires.own_entries in (
      c.exchange-before.ensures.0 ∙ c.requires.table,
      omega (arith, c.args.self.now.shape.0),
      may_give_after V.origin V.entries V.mark (lock_origin V.origin c.args.self.now) table.key.seats table.table_id.slots c.exchange-before.new.seat.id v me (step table.table_id.slots 0 0 0 none) own_entries.0 c.args.value
          c.args.self.now.shape.1 put c.requires.turn.0 own_entries.1 c.requires.turn.2 c.requires.same_origin c.requires.goes_on own_entries.2,
    )
