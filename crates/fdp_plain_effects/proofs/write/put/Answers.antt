use Rattle.std.proofs.Common.{◌-◌, ◌∙◌, ap, length}
use Rattle.std.specs.Prelude.{if◌then◌else◌, option_map}
use Rattle.fdp_base.specs.Numbers.{is_among}
use Rattle.fdp_tables.specs.Spaces.{block_in}
use Rattle.fdp_tables.specs.State.{block_of, namespace_of, plain_of, row}
use Rattle.fdp_tables.proofs.Spaces.{space_changed}
use Rattle.fdp_plain_effects.proofs.write.put.Goals as goal

pub returns-clause-state : goal.returns-clause-state
returns-clause-state c =
    let k = c.args.kept.now in
    let made = c.args.made.items in
    let test = is_among c.args.slba (length made) in
    let at = c.index_mut.ensures.value in
    space_changed (plain_of k) k.spaces.items c.args.nsid c.put_in_space.new.space c.requires.there test (λ lba. option_map block_of (row made (lba - c.args.slba))) c.index_mut.result.now
    (c.put_in_space.ensures.namespace ∙ ap (option_map namespace_of) at)
    (λ lba. c.put_in_space.ensures.blocks lba ∙ ap (λ space. if test lba then option_map block_of (row made (lba - c.args.slba)) else block_in space lba) at)
