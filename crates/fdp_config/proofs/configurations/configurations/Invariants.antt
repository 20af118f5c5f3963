use Rattle.fdp_config.proofs.Views.{ReadsTo}
use Rattle.fdp_config.specs.Ranges.{classes_fault}
use Rattle.fdp_config.specs.Reader.Config.{classes_in}
use Rattle.fdp_config.proofs.configurations.configurations.Given as goal

abbrev pub invariant-loop-place : goal.invariant-loop-place
invariant-loop-place l = ReadsTo classes_in classes_fault l.arrays l.place l.configurations.items
