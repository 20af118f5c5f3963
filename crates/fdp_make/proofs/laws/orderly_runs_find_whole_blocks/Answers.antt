use Rattle.fdp_make.proofs.Beginnings.{orderly-whole}
use Rattle.fdp_make.proofs.laws.orderly_runs_find_whole_blocks.Goals as goal

pub returns : goal.returns
returns c = orderly-whole
