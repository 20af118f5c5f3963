use Rattle.std.proofs.Common.{◌≡◌, ◌+◌, map}
use Rattle.fdp_base.specs.declared.event.EventKind.TheVariants as kinds
use Rattle.fdp_base.specs.Numbers.{numbers_below}
use Rattle.fdp_rules.specs.Events.{handle_event}
use Rattle.fdp_rules.specs.PlainState.{PlainState}
use Rattle.fdp_outline.proofs.Keeping.{AreKept}
use Rattle.fdp_outline.proofs.outline.Outline.keep_reopened.Given as goal

abbrev pub invariant-loop-rg : goal.invariant-loop-rg
invariant-loop-rg l =
    (s : PlainState) → s.position + 1 ≡ l.position → AreKept (λ rg. map (handle_event s kinds.HandlesModified rg) (numbers_below l.handles)) l.fn.self l.rg l.self
