use Rattle.std.proofs.Common.{ℕ, ◌∙◌, ◌++◌, List, ap, arith, flat_map, sym}
use Rattle.fdp_base.specs.declared.entry.BlockName.{BlockName}
use Rattle.fdp_rules.specs.Sites.{blocks_in}
use Rattle.fdp_tables.specs.State.{point_kept}
use Rattle.fdp_tables.proofs.Collecting.{collecting_in_end, collecting_in_next}
use Rattle.fdp_commands.proofs.Summing.{namespace_ids_are}
use Rattle.fdp_plain_judge.proofs.passes.push_blocks_at.Goals as goal

pub loop-nsid-preserved : goal.loop-nsid-preserved
loop-nsid-preserved c =
    collecting_in_next (blocks_in (point_kept c.args.kept.now) c.args.spot) _ c.loop-nsid.nsid-index 0 c.args.into.now.items c.loop-nsid.into.items c.push_blocks_in.new.into.items (omega arith) c.in_ok-push_blocks_in.ensures c.loop-nsid.invariant

pub returns : goal.returns
returns c =
    let piece : ℕ → List BlockName = blocks_in (point_kept c.args.kept.now) c.args.spot in
    collecting_in_end piece _ c.loop-nsid.nsid-index c.args.into.now.items c.loop-nsid.into.items (omega arith) c.loop-nsid.invariant
    ∙ ap (λ (ids : List ℕ). c.args.into.now.items ++ flat_map piece ids) (sym namespace_ids_are)
