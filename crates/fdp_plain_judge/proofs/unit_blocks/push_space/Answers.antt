use Rattle.std.proofs.Common.{◌≡◌, ◌++◌, flat_map, subst}
use Rattle.std.proofs.lemmas.Result.{on_ok_weaker}
use Rattle.fdp_tables.specs.State.{point_kept}
use Rattle.fdp_plain_judge.specs.Passes.{in_unit}
use Rattle.fdp_plain_judge.proofs.InUnit.{took_space}
use Rattle.fdp_plain_judge.proofs.unit_blocks.push_space.Goals as goal

pub returns : goal.returns
returns c =
    let p = point_kept c.args.kept.now in
    let old = c.args.into.now.items in
    let new = c.push_places.new.into.items in
    on_ok_weaker c.push_places.result
    (λ is. took_space p c.args.unit c.args.nsid c.in_ok-places.places.items old new (subst (λ xs. new ≡ old ++ flat_map (in_unit p c.args.unit c.args.nsid) xs) c.deref.ensures.value is) c.in_ok-places.ensures) c.push_places.ensures
