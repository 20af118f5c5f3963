-- How a run ends that is refused.
use Rattle.std.specs.Prelude.{◌≡◌, ◌⊎◌, ℕ}
use Rattle.fdp_finding.specs.declared.fault.Fault.{Fault}
use Rattle.fdp_finding.specs.Faults.{fault_text, status_of}
use Rattle.fdp_io.specs.Sink.{Holds, HoldsFront, SinkState}

-- the line of the fault was printed; or a write of the sink failed
abbrev pub Refuses : SinkState → SinkState → Fault → ℕ → Type 0
Refuses old new fault status =
    ((status ≡ status_of fault) × Holds old new (fault_text fault))
    ⊎ ((status ≡ 8) × HoldsFront old new (fault_text fault))
