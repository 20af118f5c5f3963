use Rattle.std.proofs.Common.{◌≡◌, Some, None, sym, ◌∙◌, subst}
use Rattle.std.specs.Slots.{slots_items}
use Rattle.fdp_lock.specs.Gathers.{Ends}
use Rattle.fdp_lock.specs.Seats.{lock_origin}
use Rattle.fdp_lock.proofs.Closes.{ends_with}
use Rattle.fdp_lock.proofs.lock.GroupLock.unlock.Goals as goal

pub unreachable-requires : goal.unreachable-requires
unreachable-requires g c =
    let V = g.V.Recorded in
    let key = c.args.self.table.shared.key in
    let token = c.args.token in
    let closed = c.close_with-closed.result in
    let e = ends_with V.origin V.entries V.mark (lock_origin V.origin c.args.self) key.seats token.id token.me.0 (slots_items closed.words) (slots_items closed.slots) c.take-value.result c.requires.rests.0 c.requires.all_parts c.args.self.shape.2
    c.close_with-closed.ensures.values.2 c.take-value.ensures.value in
    let both : Some e.0 ≡ None = sym e.1 ∙ c.in-None.is in
    cc

pub returns : goal.returns
returns g c =
    let V = g.V.Recorded in
    let key = c.args.self.table.shared.key in
    let token = c.args.token in
    let closed = c.close_with-closed.result in
    let e = ends_with V.origin V.entries V.mark (lock_origin V.origin c.args.self) key.seats token.id token.me.0 (slots_items closed.words) (slots_items closed.slots) c.take-value.result c.requires.rests.0 c.requires.all_parts c.args.self.shape.2
    c.close_with-closed.ensures.values.2 c.take-value.ensures.value in
    let both : Some e.0 ≡ Some c.in-Some.value = sym e.1 ∙ c.in-Some.is in
    let same : e.0 ≡ c.in-Some.value = cc in
    subst (Ends V.origin V.entries V.mark token.me.0) same e.2
