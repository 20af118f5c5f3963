use Rattle.fdp_prints.proofs.Given.{frame-one}
use Rattle.fdp_prints.proofs.laws.one_frame_a_print.Goals as goal

pub returns : goal.returns
returns c = frame-one
