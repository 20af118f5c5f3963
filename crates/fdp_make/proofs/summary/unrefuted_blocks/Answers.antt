use Rattle.std.proofs.Common.{◌≡◌, ◌∙◌, ◌++◌, ◌+◌, ◌∷◌, [], ap, arith, subst, sym, take}
use Rattle.std.proofs.lemmas.List.{take_more}
use Rattle.fdp_make.specs.Summary.{untold}
use Rattle.fdp_make.specs.Table.{Tells}
use Rattle.fdp_make.proofs.Summing.{agreeing_end, agreeing_first, agreeing_next}
use Rattle.fdp_make.proofs.Tables.{tells_nothing}
use Rattle.fdp_make.proofs.summary.unrefuted_blocks.Goals as goal

pub loop-entry-init : goal.loop-entry-init
loop-entry-init c = record { told = tells_nothing c.new-writes.result c.new-writes.ensures.empty; counted = agreeing_first c.args.block untold c.args.entries.now; bound = omega arith }

pub overflow_add-same : goal.overflow_add-same
overflow_add-same c = omega (arith, c.loop-entry.invariant.bound, c.from-same.ensures, c.agreeing.type_inv)

pub loop-entry-preserved : goal.loop-entry-preserved
loop-entry-preserved c =
    let es = c.args.entries.now in
    let i = c.loop-entry.entry-index in
    let e = c.entry-item.result in
    let front : take i es ++ e ∷ [] ≡ take (i + 1) es = ap (λ x. take i es ++ x ∷ []) c.entry-item.is ∙ sym (take_more es i e c.loop-entry-test.true) in
    record {
      told = subst (Tells c.note.new.writes) front (c.in_ok-note.ensures.tells (take i es) c.loop-entry.invariant.told);
      counted = agreeing_next c.args.block untold es i c.loop-entry.same c.from-same.result e c.loop-entry-test.true c.entry-item.is (c.from-same.ensures ∙ c.agreeing.ensures (take i es) c.loop-entry.invariant.told) c.loop-entry.invariant.counted;
      bound = omega (arith, c.loop-entry.invariant.bound, c.from-same.ensures, c.agreeing.type_inv);
    }

pub returns-clause-value : goal.returns-clause-value
returns-clause-value c = agreeing_end c.args.block untold c.args.entries.now c.loop-entry.entry-index c.loop-entry.same c.loop-entry-test.false c.loop-entry.invariant.counted
