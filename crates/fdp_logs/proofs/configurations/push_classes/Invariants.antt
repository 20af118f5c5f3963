use Rattle.std.proofs.Common.{◌∷◌}
use Rattle.fdp_base.specs.declared.config.Class.{Class}
use Rattle.fdp_base.specs.Codes.{class_code}
use Rattle.fdp_rules.specs.LogPages.{zeros}
use Rattle.fdp_logs.proofs.Appending.{IsAppendingOver}
use Rattle.fdp_logs.proofs.configurations.push_classes.Given as goal

abbrev pub invariant-loop-class : goal.invariant-loop-class
invariant-loop-class l = IsAppendingOver (λ (class : Class). class_code class ∷ zeros 3) l.classes l.class-index l.initial.log.items l.log.items
