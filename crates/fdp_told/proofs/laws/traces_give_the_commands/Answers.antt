use Rattle.fdp_told.proofs.Commands.{given-legal}
use Rattle.fdp_told.proofs.laws.traces_give_the_commands.Goals as goal

pub returns : goal.returns
returns c = given-legal
