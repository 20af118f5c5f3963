use Rattle.fdp_plain.proofs.First.{first_history, run_is}
use Rattle.fdp_plain.proofs.plain.Plain.new.Goals as goal

pub invariant_of-result : goal.invariant_of-result
invariant_of-result c = first_history c.args.config.now c.in_ok-fresh.field-0 c.requires c.in_ok-fresh.ensures

pub returns : goal.returns
returns c = run_is c.args.config.now c.in_ok-fresh.field-0 c.in_ok-fresh.ensures
