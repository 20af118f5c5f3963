use Rattle.fdp_finding.proofs.Formed.{read_answer, read_servable}
use Rattle.fdp_finding.proofs.traces.read_commands.Goals as goal

pub returns : goal.returns
returns c = record {
  answer = read_answer c.args.text.now c.read_trace.result c.read_trace.ensures.commands c.read_trace.ensures.cause;
  servable = read_servable c.args.text.now c.read_trace.result c.read_trace.ensures.commands;
}
