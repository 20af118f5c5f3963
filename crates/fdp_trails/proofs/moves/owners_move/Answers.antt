use Rattle.fdp_trails.proofs.Moving.{owners-free, owners-kept}
use Rattle.fdp_trails.proofs.moves.owners_move.Goals as goal

pub returns-clause-free : goal.returns-clause-free
returns-clause-free c = owners-free

pub returns-clause-kept : goal.returns-clause-kept
returns-clause-kept c = owners-kept
