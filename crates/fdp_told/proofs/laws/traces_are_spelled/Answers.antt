use Rattle.fdp_told.proofs.Commands.{traces-spelled}
use Rattle.fdp_told.proofs.laws.traces_are_spelled.Goals as goal

pub returns : goal.returns
returns c = traces-spelled
