use Rattle.std.proofs.Common.{◌∷◌}
use Rattle.fdp_rules.specs.LogPages.{usage_of, zeros}
use Rattle.fdp_tables.specs.State.{plain_of}
use Rattle.fdp_plain_answers.proofs.Appending.{IsAppending}
use Rattle.fdp_plain_answers.proofs.pages.push_usages.Given as goal

abbrev pub invariant-loop-ruh : goal.invariant-loop-ruh
invariant-loop-ruh l = IsAppending (λ ruh. usage_of (plain_of l.kept) ruh ∷ zeros 7) l.handles l.ruh l.initial.log.items l.log.items
