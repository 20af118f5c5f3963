use Rattle.fdp_cli.proofs.GoingOn.{opens_again}
use Rattle.fdp_cli.proofs.laws.a_second_run_opens.Goals as goal

pub returns : goal.returns
returns c = opens_again
