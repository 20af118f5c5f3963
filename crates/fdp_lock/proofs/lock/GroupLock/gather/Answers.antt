use Rattle.std.proofs.Common.{◌≡◌, List, [], ◌∷◌, ◌++◌, ◌∙◌, ap, subst, append_assoc}
use Rattle.fdp_lock.specs.Seats.{lock_origin, HoldsNoTurn, IsSeatOf}
use Rattle.fdp_lock.proofs.Gathering.{All-middle, All-last, gathered_first, gathered_more}
use Rattle.fdp_lock.proofs.lock.GroupLock.gather.Goals as goal

pub loop-seat-init : goal.loop-seat-init
loop-seat-init g c =
    let V = g.V.Recorded in
    let lock = c.args.self.now in
    let s = c.in-Some.last in
    let left = c.pop.new.self.items in
    let at : c.args.seats.items ≡ left ++ s ∷ [] = c.in-Some.ensures.items in
    let of_lock = All-middle (λ x. IsSeatOf V.origin lock x) left s [] (subst (λ xs. Rattle.std.proofs.Common.All (λ x. IsSeatOf V.origin lock x) xs) at c.requires.of_lock) in
    let free = All-middle (λ x. HoldsNoTurn x) left s [] (subst (λ xs. Rattle.std.proofs.Common.All (λ x. HoldsNoTurn x) xs) at c.requires.no_turn) in
    (s ∷ [], at, gathered_first V.mark lock.table.shared.table_id (lock_origin V.origin lock) s of_lock.0 of_lock.1 free)

pub absorb-requires-clause-table : goal.absorb-requires-clause-table
absorb-requires-clause-table g c =
    let V = g.V.Recorded in
    let lock = c.args.self.now in
    let k = c.loop-seat.invariant in
    (k.2.of_table, (All-last (λ x. IsSeatOf V.origin lock x) c.args.seats.items c.loop-seat.seats.items k.0 c.pop-in-loop-seat.new.self.items c.in-Some-pop.seat k.1 c.in-Some-pop.ensures.items c.requires.of_lock).0)

pub absorb-requires-clause-rests : goal.absorb-requires-clause-rests
absorb-requires-clause-rests g c =
    let k = c.loop-seat.invariant in
    (k.2.rests, All-last (λ x. HoldsNoTurn x) c.args.seats.items c.loop-seat.seats.items k.0 c.pop-in-loop-seat.new.self.items c.in-Some-pop.seat k.1 c.in-Some-pop.ensures.items c.requires.no_turn, k.2.some_part)

pub loop-seat-preserved : goal.loop-seat-preserved
loop-seat-preserved g c =
    let V = g.V.Recorded in
    let lock = c.args.self.now in
    let k = c.loop-seat.invariant in
    let s = c.in-Some-pop.seat in
    let left = c.pop-in-loop-seat.new.self.items in
    let free = All-last (λ x. HoldsNoTurn x) c.args.seats.items c.loop-seat.seats.items k.0 left s k.1 c.in-Some-pop.ensures.items c.requires.no_turn in
    let split : c.args.seats.items ≡ left ++ s ∷ k.0 = k.1 ∙ (ap (λ xs. xs ++ k.0) c.in-Some-pop.ensures.items ∙ append_assoc left (s ∷ []) k.0) in
    (s ∷ k.0, split, gathered_more V.mark lock.table.shared.table_id (lock_origin V.origin lock) s k.0 c.loop-seat.token c.absorb.new.token free k.2 c.absorb.ensures.table c.absorb.ensures.absorbed c.absorb.ensures.seen.0 c.absorb.ensures.seen.1)
