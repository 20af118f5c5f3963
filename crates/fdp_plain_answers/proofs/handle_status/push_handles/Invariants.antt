use Rattle.std.proofs.Common.{ℕ}
use Rattle.std.specs.Prelude.{flat_map}
use Rattle.fdp_rules.specs.LogPages.{status_descriptor}
use Rattle.fdp_base.specs.Numbers.{numbers_below}
use Rattle.fdp_tables.specs.State.{plain_of}
use Rattle.fdp_plain_answers.proofs.Appending.{IsAppendingPlaces}
use Rattle.fdp_plain_answers.proofs.handle_status.push_handles.Given as goal

abbrev pub invariant-loop-handle : goal.invariant-loop-handle
invariant-loop-handle l = IsAppendingPlaces (λ (x : ℕ × ℕ). flat_map (status_descriptor l.kept.config (plain_of l.kept) x.0 x.1) (numbers_below l.kept.config.groups)) l.handles l.handle l.initial.bytes.items l.bytes.items
