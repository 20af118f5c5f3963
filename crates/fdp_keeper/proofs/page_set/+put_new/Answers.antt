use Rattle.std.proofs.Common.{◌∷◌, [], ◌++◌, arith}
use Rattle.fdp_base.specs.declared.entry.Copied.{Copied}
use Rattle.fdp_keeper.proofs.Runs.{not-taken, put-some, taken}
use Rattle.fdp_keeper.proofs.page_set.+put_new.Goals as goal
use Rattle.fdp_keeper.proofs.page_set.+put_new.Goals.{then-copy-unit-via-then-copy-unit, then-copy-unit-via-else-copy-unit+then-copy-next}

pub returns-then-copy-unit-clause-rest : goal.returns-then-copy-unit-clause-rest
returns-then-copy-unit-clause-rest t c first last other split a b =
    not-taken c.args.unit c.args.next c.in-Some.copy.now c.in-Some.rest.now c.args.copies.now first last other c.in-Some.ensures.cases.0
    (λ same low. elim c.then-copy-unit.branch [
      | then-copy-unit-via-then-copy-unit w ↦ w.if-copy-unit.true same
      | then-copy-unit-via-else-copy-unit+then-copy-next w ↦ absurd (omega (arith, w.if-copy-next.true, low))
    ])
    split a b

pub returns-else-copy-next-clause-set : goal.returns-else-copy-next-clause-set
returns-else-copy-next-clause-set t c pages has =
    put-some c.put_new.new.set pages (λ (x : Copied). x.to.page) c.put_new.result c.in-Some.copy.now c.in-Some.rest.now c.args.copies.now c.in-Some.ensures.cases.0
    (c.put_new.ensures.set (pages ++ c.in-Some.copy.now.to.page ∷ []) (c.put.ensures pages c.args.next has c.if-copy-next.false))

pub returns-else-copy-next-clause-rest : goal.returns-else-copy-next-clause-rest
returns-else-copy-next-clause-rest t c first last other split a b =
    taken c.args.unit c.args.next c.put_new.result c.in-Some.copy.now c.in-Some.rest.now c.args.copies.now first last other c.in-Some.ensures.cases.0 c.if-copy-unit.false c.if-copy-next.false (λ firsts lasts v e f g. c.put_new.ensures.rest firsts lasts v e f g) split a b
