use Rattle.fdp_cli.proofs.Recorded.{audited-yes}
use Rattle.fdp_cli.proofs.laws.a_record_is_audited_yes.Goals as goal

pub returns : goal.returns
returns g c = audited-yes _ g.F.Flash.state
