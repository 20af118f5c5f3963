use Rattle.fdp_found.proofs.Loaded.{loaded-begins}
use Rattle.fdp_found.proofs.found.loaded_states_can_begin.Goals as goal

pub returns : goal.returns
returns c = loaded-begins
