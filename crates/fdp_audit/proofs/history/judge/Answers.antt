use Rattle.std.proofs.Common.{◌+◌, [], ◌∷◌, arith, length, length-append, subst, sym}
use Rattle.std.proofs.lemmas.Iterator.Adapters.{YieldsList-from_vec}
use Rattle.std.proofs.lemmas.Iterator.Consumers.{YieldsList-at, YieldsList-end, YieldsList-turn}
use Rattle.fdp_audit.proofs.Judging.{AreTaken, all-taken, none-taken, one-taken, wrong-next}
use Rattle.fdp_audit.proofs.history.judge.Goals as goal

pub loop-position-preserved : goal.loop-position-preserved
loop-position-preserved c =
    let xs = c.args.entries.items in
    let l = c.loop-position in
    let road = YieldsList-at c.into_iter-position-iterator.ensures.into_iter_gives (YieldsList-from_vec xs c.into_iter-position-items.ensures.rest (omega (arith, c.into_iter-position-items.ensures.len, c.args.entries.ok))) in
    let turn = YieldsList-turn road l.yielded l.position-iterator l.yielded_by c.next.result c.next.new.self (c.in-Some.position, c.in-Some.entry) c.in-Some.is c.next.ensures.steps in
    subst (λ n. AreTaken c.args.plain.now xs n c.take_next.new.plain (l.due + 1)) (sym (length-append l.yielded ((c.in-Some.position, c.in-Some.entry) ∷ [])))
    (one-taken c.args.plain.now xs (length l.yielded) l.plain c.take_next.new.plain l.due c.in-Some.position c.in-Some.entry l.invariant turn.0 turn.1 c.in-Ok.ensures.position c.in-Ok.ensures.taken.0 c.in-Ok.ensures.taken.1)

pub returns-in-Err-clause-illegal : goal.returns-in-Err-clause-illegal
returns-in-Err-clause-illegal c =
    let xs = c.args.entries.items in
    let l = c.loop-position in
    let road = YieldsList-at c.into_iter-position-iterator.ensures.into_iter_gives (YieldsList-from_vec xs c.into_iter-position-items.ensures.rest (omega (arith, c.into_iter-position-items.ensures.len, c.args.entries.ok))) in
    let turn = YieldsList-turn road l.yielded l.position-iterator l.yielded_by c.next.result c.next.new.self (c.in-Some.position, c.in-Some.entry) c.in-Some.is c.next.ensures.steps in
    wrong-next c.args.plain.now xs (length l.yielded) l.plain l.due c.in-Some.position c.in-Some.entry c.in-Err.fault l.invariant turn.0 turn.1 c.in-Err.ensures.refused

pub returns-clause-whole : goal.returns-clause-whole
returns-clause-whole c =
    let xs = c.args.entries.items in
    let l = c.loop-position in
    let road = YieldsList-at c.into_iter-position-iterator.ensures.into_iter_gives (YieldsList-from_vec xs c.into_iter-position-items.ensures.rest (omega (arith, c.into_iter-position-items.ensures.len, c.args.entries.ok))) in
    let end = YieldsList-end road l.yielded l.position-iterator l.yielded_by c.next.result c.next.new.self c.in-None.is c.next.ensures.steps in
    all-taken c.args.plain.now xs (length l.yielded) l.plain l.due c.requires.begins (omega (arith, end.1)) l.invariant

pub loop-position-init : goal.loop-position-init
loop-position-init c = none-taken c.args.plain.now c.args.entries.items c.next_position-due.result c.requires.begins c.next_position-due.ensures
