use Rattle.fdp_trails.proofs.Joining.{first-early, pass-copied}
use Rattle.fdp_trails.proofs.laws.copies_follow_the_trail.Goals as goal

pub returns-clause-copied : goal.returns-clause-copied
returns-clause-copied c = pass-copied

pub returns-clause-first : goal.returns-clause-first
returns-clause-first c = first-early
