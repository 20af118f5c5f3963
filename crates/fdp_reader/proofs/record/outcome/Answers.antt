use Rattle.std.proofs.Common.{sym}
use Rattle.fdp_reader.proofs.Outcomes.{front-outcome}
use Rattle.fdp_reader.proofs.record.outcome.Goals as goal

pub returns-in-None : goal.returns-in-None
returns-in-None c =
    front-outcome c.args.config.now c.args.text.now c.read_front-place.result.0 c.read_front-place.result.1.now c.line_at.result c.read_front-place.ensures (sym c.in-None.ensures) c.line_at.ensures
