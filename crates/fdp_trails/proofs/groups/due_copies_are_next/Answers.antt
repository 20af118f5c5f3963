use Rattle.fdp_trails.proofs.Grouping.{due-next}
use Rattle.fdp_trails.proofs.groups.due_copies_are_next.Goals as goal

pub returns : goal.returns
returns c = due-next
