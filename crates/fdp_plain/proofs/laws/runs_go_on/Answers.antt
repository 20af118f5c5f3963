use Rattle.fdp_plain.proofs.GoingOn.{begins_again, goes_on}
use Rattle.fdp_plain.proofs.Ordering.{in_order_fresh}
use Rattle.fdp_plain.proofs.laws.runs_go_on.Goals as goal

pub returns-clause-fresh : goal.returns-clause-fresh
returns-clause-fresh c = in_order_fresh

pub returns-clause-goes_on : goal.returns-clause-goes_on
returns-clause-goes_on c = goes_on

pub returns-clause-in_order : goal.returns-clause-in_order
returns-clause-in_order c = begins_again
