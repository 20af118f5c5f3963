use Rattle.std.proofs.Common.{◌≡◌, ◌∙◌, ap, arith, length, map, None}
use Rattle.std.proofs.lemmas.List.{with_items_is}
use Rattle.fdp_tables.specs.State.{plain_of}
use Rattle.fdp_plain_effects.proofs.Openings.{writes_cleared}
use Rattle.fdp_plain_effects.proofs.again.forget_writes.Goals as goal

pub returns-clause-state : goal.returns-clause-state
returns-clause-state c =
    let k = c.args.kept.now in
    let rows = c.clear_writes.new.rows in
    let same : length rows ≡ k.going.len = omega (arith, k.going.ok.0) in
    writes_cleared (plain_of k) k.going.items _ (with_items_is k.going rows same ∙ c.clear_writes.ensures ∙ ap (map (λ z. None)) c.as_mut_slice.ensures.value)
