use Rattle.fdp_gauge.specs.Passes.{IsTellerOf}
use Rattle.fdp_drive.proofs.session.settle_all.Given as goal

abbrev pub invariant-loop-pass : goal.invariant-loop-pass
invariant-loop-pass g l = record {
  of_gauge : IsTellerOf l.gauge l.teller;
}
