use Rattle.std.proofs.Common.{◌≡◌, ◌+◌, [], ◌∷◌}
use Rattle.fdp_base.specs.declared.event.EventKind.TheVariants as kinds
use Rattle.fdp_rules.specs.Events.{handle_event}
use Rattle.fdp_rules.specs.PlainState.{PlainState}
use Rattle.fdp_outline.proofs.Keeping.{AreKept}
use Rattle.fdp_outline.proofs.outline.Outline.keep_reopened_in.Given as goal

abbrev pub invariant-loop-ruh : goal.invariant-loop-ruh
invariant-loop-ruh l =
    (s : PlainState) → s.position + 1 ≡ l.position → AreKept (λ ruh. handle_event s kinds.HandlesModified l.rg ruh ∷ []) l.fn.self l.ruh l.self
