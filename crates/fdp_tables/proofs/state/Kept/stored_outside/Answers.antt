use Rattle.std.proofs.Common.{◌≡◌, ◌∙◌, arith, refl}
use Rattle.fdp_commands.proofs.Summing.{namespace_ids_are, summed_next}
use Rattle.fdp_tables.proofs.state.Kept.stored_outside.Goals as goal

pub overflow_add-stored : goal.overflow_add-stored
overflow_add-stored c = omega (arith, c.loop-nsid.invariant.bound, c.from-stored.ensures, c.stored_in.type_inv)

pub loop-nsid-preserved : goal.loop-nsid-preserved
loop-nsid-preserved c =
    summed_next _ _ c.loop-nsid.nsid-index c.loop-nsid.stored c.from-stored.result 0 (omega arith) (c.from-stored.ensures ∙ c.stored_in.ensures) (omega (arith, c.from-stored.ensures)) c.loop-nsid.invariant

pub returns-clause-value : goal.returns-clause-value
returns-clause-value c =
    let all : c.loop-nsid.nsid-index ≡ 16 = omega arith in
    c.loop-nsid.invariant.value ∙ (rw (all, namespace_ids_are) refl)

pub returns-clause-bound : goal.returns-clause-bound
returns-clause-bound c = omega (arith, c.loop-nsid.invariant.bound)
