use Rattle.fdp_plain_judge.proofs.Ruling.{one_rule}
use Rattle.fdp_plain_judge.proofs.rule.falls_under_one_rule.Goals as goal

pub returns : goal.returns
returns c = one_rule
