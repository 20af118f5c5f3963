use Rattle.std.proofs.Common.{◌≡◌, ◌∙◌, ap, arith, length, map}
use Rattle.std.proofs.lemmas.List.{with_items_is}
use Rattle.fdp_tables.specs.State.{plain_of}
use Rattle.fdp_plain_effects.proofs.Features.{references_cleared}
use Rattle.fdp_plain_effects.proofs.feature.forget_references.Goals as goal

pub returns-clause-state : goal.returns-clause-state
returns-clause-state c =
    let k = c.args.kept.now in
    let rows = c.clear_references.new.references in
    let x = c.no_reference-none.result in
    let same : length rows ≡ k.references.len = omega (arith, k.references.ok.0) in
    references_cleared (plain_of k) k.config k.references.items _ x c.no_reference-none.ensures (with_items_is k.references rows same ∙ c.clear_references.ensures ∙ ap (map (λ z. x)) c.as_mut_slice.ensures.value)
