use Rattle.std.proofs.Common.{◌≡◌, ◌∙◌, ap, arith, length, map, false}
use Rattle.std.proofs.lemmas.List.{with_items_is}
use Rattle.fdp_tables.specs.State.{plain_of}
use Rattle.fdp_plain_effects.proofs.Openings.{lost_cleared}
use Rattle.fdp_plain_effects.proofs.again.forget_lost.Goals as goal

pub returns-clause-state : goal.returns-clause-state
returns-clause-state c =
    let k = c.args.kept.now in
    let rows = c.clear_marks.new.rows in
    let same : length rows ≡ k.lost.len = omega (arith, k.lost.ok.0) in
    lost_cleared (plain_of k) k.lost.items _ (with_items_is k.lost rows same ∙ c.clear_marks.ensures ∙ ap (map (λ z. false)) c.as_mut_slice.ensures.value)
