use Rattle.std.proofs.Common.{ap, sym, subst, ◌∙◌, Some, arith, length}
use Rattle.fdp_finding.specs.declared.fault.Fault.{Fault}
use Rattle.fdp_finding.specs.Wanted.{ConfigLacks, CountsSource}
use Rattle.fdp_finding.proofs.Configuring.{config_counts, config_lacks}
use Rattle.fdp_finding.proofs.reading.find_config.Goals as goal

pub returns-in-Done : goal.returns-in-Done
returns-in-Done g c =
    let old = g.B.Bench.state c.args.bench.now in
    let new = g.B.Bench.state c.read_text.new.self in
    let read = c.in-Done.ensures.answer in
    let at = c.as_slice.ensures.value in
    record {
      texts = c.read_text.ensures.kept;
      flashes = c.read_text.ensures.flashes;
      faults = c.read_text.ensures.faults;
      counts = subst (λ (fault : Fault). CountsSource old.faults new.faults fault) (sym c.from.ensures) (config_counts old.faults new.faults c.in-Err.fault c.in-Done.ensures.counts);
      answer = subst (λ (fault : Fault). ConfigLacks old new c.args.name.now fault) (sym c.from.ensures)
          (config_lacks old new c.args.name.now c.as_slice.result.now c.in-Err.fault
          (omega (arith, read.0, ap length at)) (λ told. read.1 told ∙ ap Some (sym at)) c.in-Err.ensures.fault c.in-Err.ensures.first);
      valid = tt;
    }
