use Rattle.fdp_make.proofs.Forms.{traces-served}
use Rattle.fdp_make.proofs.laws.generated_traces_can_be_served.Goals as goal

pub returns : goal.returns
returns c = traces-served
