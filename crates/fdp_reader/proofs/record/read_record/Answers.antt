use Rattle.fdp_reader.proofs.Outcomes.{outcome-fault, outcome-ok, outcome-only}
use Rattle.fdp_reader.proofs.record.read_record.Goals as goal

pub returns-clause-ok : goal.returns-clause-ok
returns-clause-ok c = outcome-ok c.args.config.now c.args.text.now c.outcome.result c.outcome.ensures

pub returns-clause-fault : goal.returns-clause-fault
returns-clause-fault c = outcome-fault c.args.config.now c.args.text.now c.outcome.result c.outcome.ensures

pub returns-clause-only : goal.returns-clause-only
returns-clause-only c = outcome-only c.args.config.now c.args.text.now c.outcome.result c.outcome.ensures
