use Rattle.fdp_audit.proofs.Outputs.{output-form}
use Rattle.fdp_audit.proofs.laws.outputs_have_the_form.Goals as goal

pub returns : goal.returns
returns c = output-form
