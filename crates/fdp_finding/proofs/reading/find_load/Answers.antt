use Rattle.std.proofs.Common.{ap, arith, length}
use Rattle.std.proofs.lemmas.List.{length-map}
use Rattle.std.specs.Global.{Vec}
use Rattle.fdp_base.specs.declared.command.Command.{Command}
use Rattle.fdp_base.specs.declared.config.DriveConfig.{DriveConfig}
use Rattle.fdp_finding.proofs.Loads.{load_servable}
use Rattle.fdp_finding.proofs.reading.find_load.Goals as goal

pub returns-clause-begins : goal.returns-clause-begins
returns-clause-begins c =
    let traces = c.in-Ok-traces.traces.items in
    record {
      valid = c.in-Ok.ensures.valid;
      queued = omega (arith, ap length c.in-Ok-traces.ensures.value, length-map traces (λ trace. trace.items), ap (λ (x : DriveConfig). x.queues) c.in-Ok.ensures.value);
      servable = load_servable (λ (trace : Vec Command). trace.items) c.in-Ok.config traces c.in-Ok-traces.ensures.servable;
    }
