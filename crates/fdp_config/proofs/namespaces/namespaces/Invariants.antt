use Rattle.fdp_config.proofs.Views.{ReadsTo}
use Rattle.fdp_config.specs.Ranges.{namespace_fault}
use Rattle.fdp_config.specs.Reader.Config.{namespace_in}
use Rattle.fdp_config.proofs.namespaces.namespaces.Given as goal

abbrev pub invariant-loop-place : goal.invariant-loop-place
invariant-loop-place l = ReadsTo namespace_in (namespace_fault l.listable) l.entries l.place l.namespaces.items
