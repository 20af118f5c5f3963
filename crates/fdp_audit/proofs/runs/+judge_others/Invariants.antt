use Rattle.std.proofs.Common.{length}
use Rattle.fdp_audit.proofs.runs.+judge_others.Given as goal

abbrev pub decreases-judge_others : goal.decreases-judge_others
decreases-judge_others l = length l.texts.now
