use Rattle.std.proofs.Common.{subst}
use Rattle.std.specs.Bool.{Decides}
use Rattle.fdp_tables.specs.State.{point_kept}
use Rattle.fdp_plain_judge.specs.Judging.{EachIn, IsOutside}
use Rattle.fdp_plain_judge.proofs.InUnit.{outside_decides}
use Rattle.fdp_plain_judge.proofs.pages.has_none_in.Goals as goal

pub returns : goal.returns
returns c =
    let p = point_kept c.args.kept.now in
    outside_decides p c.args.unit c.args.nsid c.in_ok-places.places.items c.are_outside.result c.in_ok-places.ensures
    (subst (λ xs. Decides c.are_outside.result (EachIn (IsOutside p c.args.unit c.args.nsid) xs)) c.deref.ensures.value c.are_outside.ensures)
