use Rattle.fdp_cli.proofs.GoingOn.{goes_on}
use Rattle.fdp_cli.proofs.laws.a_second_run_goes_on.Goals as goal

pub returns : goal.returns
returns c = goes_on
