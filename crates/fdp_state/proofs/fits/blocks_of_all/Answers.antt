use Rattle.std.proofs.Common.{◌≡◌, ◌∙◌, arith, refl}
use Rattle.fdp_commands.proofs.Summing.{namespace_ids_are, summed_next}
use Rattle.fdp_state.proofs.fits.blocks_of_all.Goals as goal

pub overflow_add-all : goal.overflow_add-all
overflow_add-all c = omega (arith, c.loop-nsid.invariant.bound, c.from-all.ensures, c.size_of.type_inv)

pub loop-nsid-preserved : goal.loop-nsid-preserved
loop-nsid-preserved c =
    summed_next _ _ c.loop-nsid.nsid-index c.loop-nsid.all c.from-all.result 0 (omega arith) (c.from-all.ensures ∙ c.size_of.ensures) (omega (arith, c.from-all.ensures)) c.loop-nsid.invariant

pub returns-clause-value : goal.returns-clause-value
returns-clause-value c =
    let all : c.loop-nsid.nsid-index ≡ 16 = omega arith in
    c.loop-nsid.invariant.value ∙ (rw (all, namespace_ids_are) refl)

pub returns-clause-bound : goal.returns-clause-bound
returns-clause-bound c = omega (arith, c.loop-nsid.invariant.bound)
