use Rattle.fdp_trails.proofs.Gaining.{toil-least, toil-most}
use Rattle.fdp_trails.proofs.toil.toil_is_what_can_be_won.Goals as goal

pub returns-clause-least : goal.returns-clause-least
returns-clause-least c = toil-least

pub returns-clause-most : goal.returns-clause-most
returns-clause-most c = toil-most
