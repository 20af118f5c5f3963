-- The traces of a generated load can be served.
use Rattle.std.specs.List.{All}
use Rattle.fdp_base.specs.declared.command.Command.{Command}
use Rattle.fdp_base.specs.declared.config.DriveConfig.{DriveConfig}
use Rattle.std.proofs.Common.{List}
use Rattle.fdp_make.specs.Load.{CanBeServed}
use Rattle.fdp_finding.specs.Traced.{IsServable}

-- what a drive of any configuration can serve, one of this configuration can
pub load_servable : {T : Type 0} (items : T → List Command) (c : DriveConfig) (traces : List T) → All (λ trace. CanBeServed (items trace)) traces → All (λ trace. IsServable c (items trace)) traces
load_servable items c traces all = λ k d low. record { formed = (all k d low).formed c; few = (all k d low).few }
