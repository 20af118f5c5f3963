use Rattle.fdp_checkpoint.proofs.Staying.{slice_keeps, slice_reads, sliced_erasing}
use Rattle.fdp_checkpoint.proofs.Sliced.{sliced_joined, sliced_no_seal}
use Rattle.fdp_checkpoint.proofs.laws.a_slice_leaves_the_current_area.Goals as goal

pub returns-clause-left : goal.returns-clause-left
returns-clause-left c = sliced_erasing

pub returns-clause-unsealed : goal.returns-clause-unsealed
returns-clause-unsealed c = sliced_no_seal

pub returns-clause-joined : goal.returns-clause-joined
returns-clause-joined c = sliced_joined

pub returns-clause-current : goal.returns-clause-current
returns-clause-current c = slice_keeps

pub returns-clause-reads : goal.returns-clause-reads
returns-clause-reads c = slice_reads
