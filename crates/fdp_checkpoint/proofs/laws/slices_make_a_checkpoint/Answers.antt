use Rattle.fdp_checkpoint.proofs.Sliced.{all_calls, all_done, none_done, part_no_seal}
use Rattle.fdp_checkpoint.proofs.laws.slices_make_a_checkpoint.Goals as goal

pub returns-clause-calls : goal.returns-clause-calls
returns-clause-calls c = all_calls

pub returns-clause-begun : goal.returns-clause-begun
returns-clause-begun c = none_done

pub returns-clause-unsealed : goal.returns-clause-unsealed
returns-clause-unsealed c = part_no_seal

pub returns-clause-done : goal.returns-clause-done
returns-clause-done c = all_done
