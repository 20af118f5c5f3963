use Rattle.std.proofs.Common.{◌≡◌, ◌+◌}
use Rattle.fdp_rules.specs.Events.{reallocated}
use Rattle.fdp_rules.specs.PlainState.{PlainState}
use Rattle.fdp_outline.specs.Events.{names_of_handle}
use Rattle.fdp_outline.proofs.Keeping.{AreKept}
use Rattle.fdp_outline.proofs.outline.Outline.keep_moved.Given as goal

abbrev pub invariant-loop-ruh : goal.invariant-loop-ruh
invariant-loop-ruh l =
    (s : PlainState) → s.position + 1 ≡ l.position → AreKept (λ ruh. reallocated s l.rg ruh (names_of_handle l.blocks ruh)) l.fn.self l.ruh l.self
