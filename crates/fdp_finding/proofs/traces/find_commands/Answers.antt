use Rattle.std.proofs.lemmas.Result.{IfOk-weaker}
use Rattle.fdp_finding.proofs.traces.find_commands.Goals as goal

pub returns-in-Traces-clause-servable : goal.returns-in-Traces-clause-servable
returns-in-Traces-clause-servable g c = IfOk-weaker c.find_trace.result _ _ (λ commands servable d is. servable d) c.find_trace.ensures.servable
