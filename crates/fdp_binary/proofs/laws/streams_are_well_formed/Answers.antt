use Rattle.fdp_binary.proofs.Serving.{stream-formed}
use Rattle.fdp_binary.proofs.laws.streams_are_well_formed.Goals as goal

pub returns : goal.returns
returns c = stream-formed
