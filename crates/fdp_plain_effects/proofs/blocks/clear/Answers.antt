use Rattle.std.proofs.Common.{◌<◌, ◌≤◌, ◌∙◌, ap, arith, length, None}
use Rattle.std.specs.Prelude.{if◌then◌else◌, option_map}
use Rattle.fdp_rules.specs.Effect.{is_in_ranges}
use Rattle.fdp_tables.specs.Spaces.{block_in}
use Rattle.fdp_tables.specs.State.{namespace_of, plain_of}
use Rattle.fdp_tables.proofs.Spaces.{space_absent, space_changed}
use Rattle.fdp_plain_effects.proofs.blocks.clear.Goals as goal

pub returns-then-place-len-clause-state : goal.returns-then-place-len-clause-state
returns-then-place-len-clause-state c =
    let k = c.args.kept.now in
    let there : c.args.nsid < length k.spaces.items = omega (arith, k.spaces.ok.0) in
    let at = c.index_mut.ensures.value in
    space_changed (plain_of k) k.spaces.items c.args.nsid c.clear_space.new.space there (is_in_ranges c.args.ranges.now) (λ lba. None) c.index_mut.result.now
    (c.clear_space.ensures.namespace ∙ ap (option_map namespace_of) at)
    (λ lba. c.clear_space.ensures.blocks lba ∙ ap (λ space. if is_in_ranges c.args.ranges.now lba then None else block_in space lba) at)

pub returns-else-place-len-clause-state : goal.returns-else-place-len-clause-state
returns-else-place-len-clause-state c =
    let k = c.args.kept.now in
    let past : length k.spaces.items ≤ c.args.nsid = omega (arith, k.spaces.ok.0) in
    space_absent (plain_of k) k.spaces.items c.args.nsid (is_in_ranges c.args.ranges.now) past
