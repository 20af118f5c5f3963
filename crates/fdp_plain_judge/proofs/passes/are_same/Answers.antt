use Rattle.std.proofs.lemmas.Slice.Eq.{slice_eq-Decides}
use Rattle.fdp_plain_judge.proofs.Comparing.{same_block_name}
use Rattle.fdp_plain_judge.proofs.passes.are_same.Goals as goal

pub returns : goal.returns
returns c = slice_eq-Decides same_block_name c.args.a.now c.args.b.now c.eq.result c.eq.ensures
