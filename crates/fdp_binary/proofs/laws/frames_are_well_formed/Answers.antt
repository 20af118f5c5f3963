use Rattle.fdp_binary.proofs.Serving.{well-formed}
use Rattle.fdp_binary.proofs.laws.frames_are_well_formed.Goals as goal

pub returns : goal.returns
returns c = well-formed
