use Rattle.std.proofs.Common.{ℕ, List, [], ◌∷◌}
use Rattle.fdp_base.specs.declared.event.Event.{Event}
use Rattle.fdp_base.specs.declared.event.EventKind.TheVariants as kinds
use Rattle.fdp_rules.specs.Events.{handle_event}
use Rattle.fdp_rules.specs.Room.{handles_in_force}
use Rattle.fdp_tables.specs.declared.state.Kept.{Kept}
use Rattle.fdp_plain_answers.specs.Keeping.{kept_of}
use Rattle.fdp_tables.specs.State.{plain_of}
use Rattle.fdp_tables.proofs.Collecting.{IsCollecting}
use Rattle.fdp_plain_answers.proofs.openings.push_opening.Given as goal

-- the event of a handle, if it is kept
abbrev pub of_handle : Kept → ℕ → ℕ → List Event
of_handle k rg ruh = kept_of (plain_of k) (handle_event (plain_of k) kinds.HandlesModified rg ruh ∷ [])

abbrev pub invariant-loop-ruh : goal.invariant-loop-ruh
invariant-loop-ruh l = IsCollecting (of_handle l.kept l.rg) (handles_in_force l.kept.config (plain_of l.kept)) l.ruh l.fn.into.items l.into.items
