use Rattle.std.proofs.Common.{Some}
use Rattle.fdp_config.proofs.Views.{ReadsTo}
use Rattle.fdp_config.proofs.Handles.{handle_fault}
use Rattle.fdp_config.specs.Document.{amount_of}
use Rattle.fdp_config.proofs.namespaces.handles.Given as goal

abbrev pub invariant-loop-value : goal.invariant-loop-value
invariant-loop-value l = ReadsTo (λ d. amount_of (Some d)) (handle_fault l.listable) l.values l.value-index l.list.items
