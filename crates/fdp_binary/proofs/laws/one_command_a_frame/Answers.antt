use Rattle.fdp_binary.proofs.Splitting.{one-command}
use Rattle.fdp_binary.proofs.laws.one_command_a_frame.Goals as goal

pub returns : goal.returns
returns c = one-command
