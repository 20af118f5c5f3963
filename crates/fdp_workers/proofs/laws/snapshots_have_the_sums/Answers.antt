use Rattle.fdp_workers.proofs.Marks.{snapshot-marked}
use Rattle.fdp_workers.proofs.laws.snapshots_have_the_sums.Goals as goal

pub returns : goal.returns
returns c = snapshot-marked
