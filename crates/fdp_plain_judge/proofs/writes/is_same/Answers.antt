use Rattle.fdp_plain_judge.proofs.Comparing.{same_command}
use Rattle.fdp_plain_judge.proofs.writes.is_same.Goals as goal

pub returns : goal.returns
returns c = rw c.eq.ensures (same_command c.args.a.now c.args.b.now)
