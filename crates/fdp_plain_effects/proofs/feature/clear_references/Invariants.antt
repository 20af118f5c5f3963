use Rattle.fdp_tables.proofs.Walks.{IsMapped}
use Rattle.fdp_plain_effects.proofs.feature.clear_references.Given as goal

abbrev pub invariant-loop-reference : goal.invariant-loop-reference
invariant-loop-reference l = IsMapped (λ x. l.none) l.fn.references l.reference-index l.references
