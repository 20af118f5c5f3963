use Rattle.fdp_checkpoint.proofs.Staying.{sealing_reads}
use Rattle.fdp_checkpoint.proofs.laws.a_seal_says_its_state_with_the_kept_changes.Goals as goal

pub returns : goal.returns
returns c = sealing_reads
