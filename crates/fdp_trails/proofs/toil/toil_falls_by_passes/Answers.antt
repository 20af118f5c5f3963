use Rattle.fdp_trails.proofs.Gaining.{gain-erased, gain-lowered, gain-raised, gain-taken, gain-used, toil-one, toil-others}
use Rattle.fdp_trails.proofs.toil.toil_falls_by_passes.Goals as goal

pub returns-clause-one : goal.returns-clause-one
returns-clause-one c = toil-one

pub returns-clause-others : goal.returns-clause-others
returns-clause-others c = toil-others

pub returns-clause-copied : goal.returns-clause-copied
returns-clause-copied c = gain-used

pub returns-clause-taken : goal.returns-clause-taken
returns-clause-taken c = gain-taken

pub returns-clause-moved_out : goal.returns-clause-moved_out
returns-clause-moved_out c = gain-lowered

pub returns-clause-moved_in : goal.returns-clause-moved_in
returns-clause-moved_in c = gain-raised

pub returns-clause-erased : goal.returns-clause-erased
returns-clause-erased c = gain-erased
