use Rattle.std.proofs.Common.{ℕ, List, map}
use Rattle.fdp_base.specs.declared.event.Event.{Event}
use Rattle.fdp_base.specs.declared.event.EventKind.TheVariants as kinds
use Rattle.fdp_base.specs.Numbers.{numbers_below}
use Rattle.fdp_rules.specs.Events.{handle_event}
use Rattle.fdp_rules.specs.Room.{handles_in_force}
use Rattle.fdp_tables.specs.declared.state.Kept.{Kept}
use Rattle.fdp_plain_answers.specs.Keeping.{kept_of}
use Rattle.fdp_tables.specs.State.{plain_of}
use Rattle.fdp_tables.proofs.Collecting.{IsCollecting}
use Rattle.fdp_plain_answers.proofs.openings.push_openings.Given as goal

-- the events of a group, of those that are kept
abbrev pub of_group : Kept → ℕ → List Event
of_group k rg = kept_of (plain_of k) (map (handle_event (plain_of k) kinds.HandlesModified rg) (numbers_below (handles_in_force k.config (plain_of k))))

abbrev pub invariant-loop-rg : goal.invariant-loop-rg
invariant-loop-rg l = IsCollecting (of_group l.kept) l.kept.config.groups l.rg l.fn.into.items l.into.items
