-- Histories of traces whose commands lines spell.
use Rattle.std.specs.Prelude.{ℕ, All, List}
use Rattle.fdp_base.specs.declared.command.Command.{Command}
use Rattle.fdp_base.specs.declared.config.DriveConfig.{DriveConfig}
use Rattle.fdp_base.specs.declared.entry.Entry.{Entry}
use Rattle.fdp_prints.specs.Told.{IsSpelled}
use Rattle.fdp_rules.specs.Queue.{KeepsQueueOrder, StartsOwn}
use Rattle.fdp_rules.specs.Step.{IsQueue}

-- each queue completes and starts commands of its trace alone, and each command of a trace is one that a line says
pub record ServesSpelled (c : DriveConfig) (trace : ℕ → List Command) (es : List Entry) : Type 0 where
  pub orders : (queue : ℕ) → IsQueue c queue → KeepsQueueOrder queue (trace queue) es
  pub starts : (queue : ℕ) → IsQueue c queue → StartsOwn queue (trace queue) es
  pub spelled : (queue : ℕ) → All IsSpelled (trace queue)
