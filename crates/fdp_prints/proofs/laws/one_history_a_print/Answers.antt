use Rattle.fdp_prints.proofs.Lines.{list-one}
use Rattle.fdp_prints.proofs.laws.one_history_a_print.Goals as goal

pub returns : goal.returns
returns c = list-one
