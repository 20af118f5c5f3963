use Rattle.std.proofs.Common.{unwrap_or}
use Rattle.fdp_base.specs.declared.config.Class.TheVariants.{Initial}
use Rattle.fdp_config.proofs.Views.{ReadsTo}
use Rattle.fdp_config.specs.Ranges.{class_fault}
use Rattle.fdp_config.specs.Ranges.{class_of}
use Rattle.fdp_config.proofs.configurations.classes.Given as goal

abbrev pub invariant-loop-place : goal.invariant-loop-place
invariant-loop-place l = ReadsTo (λ word. unwrap_or (class_of word) Initial) class_fault l.words l.place l.classes.items
