use Rattle.std.proofs.Common.{◌≡◌, List, [], ◌++◌, ◌∙◌, ap, arith, length}
use Rattle.fdp_base.specs.declared.config.Class.{Class}
use Rattle.fdp_rules.specs.LogPages.{descriptor}
use Rattle.fdp_logs.proofs.Appending.{appending_over_end, appending_over_next}
use Rattle.fdp_plain_answers.proofs.configurations.push_descriptors.Goals as goal

pub loop-index-preserved : goal.loop-index-preserved
loop-index-preserved c =
    let config = c.args.config.now in
    let all : length c.as_slice.result.now ≡ length config.fdp = ap (λ (xs : List (List Class)). length xs) c.as_slice.ensures in
    appending_over_next (descriptor config) config.fdp c.loop-index.index c.args.log.now.items c.loop-index.log.items _ [] (omega (arith, all))
    (c.in_ok-push_descriptor.ensures ∙ ap (λ (classes : List Class). c.loop-index.log.items ++ descriptor config classes) c.classes.ensures) c.loop-index.invariant

pub returns : goal.returns
returns c =
    let config = c.args.config.now in
    let all : length c.as_slice.result.now ≡ length config.fdp = ap (λ (xs : List (List Class)). length xs) c.as_slice.ensures in
    appending_over_end (descriptor config) config.fdp c.loop-index.index c.args.log.now.items c.loop-index.log.items (omega (arith, all)) c.loop-index.invariant
