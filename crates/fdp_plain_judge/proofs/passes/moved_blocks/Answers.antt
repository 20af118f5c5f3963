use Rattle.std.proofs.Common.{◌∙◌, List, [], ap, arith, flat_map, subst, sym}
use Rattle.fdp_base.specs.declared.entry.BlockName.{BlockName}
use Rattle.fdp_base.specs.declared.entry.Spot.{Spot}
use Rattle.fdp_rules.specs.Point.{Copy}
use Rattle.fdp_rules.specs.Sites.{blocks_at}
use Rattle.fdp_tables.specs.Copies.{copy_of}
use Rattle.fdp_tables.specs.State.{point_kept}
use Rattle.fdp_tables.proofs.Collecting.{collecting_in_end, flat_map-map}
use Rattle.fdp_plain_judge.specs.Passes.{AreInUnit}
use Rattle.fdp_plain_judge.proofs.passes.moved_blocks.Goals as goal

pub push_moved-requires : goal.push_moved-requires
push_moved-requires c = subst (AreInUnit (point_kept c.args.kept.now) c.unit_of-unit.result 17) (sym c.deref.ensures.value) c.in_ok-standing.ensures

pub returns : goal.returns
returns c =
    let old : Spot × Spot → List BlockName = λ x. blocks_at (point_kept c.args.kept.now) x.0 in
    let of_copy : Copy → List BlockName = λ x. blocks_at (point_kept c.args.kept.now) x.from in
    collecting_in_end old c.pass_in-pass.result.now c.loop-copy.copy-index [] c.loop-copy.blocks.items (omega arith) c.loop-copy.invariant
    ∙ sym (flat_map-map of_copy copy_of c.pass_in-pass.result.now)
    ∙ ap (λ (xs : List Copy). flat_map of_copy xs) c.pass_in-pass.ensures
