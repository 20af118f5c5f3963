-- The event of a handle, at the position of the entry behind a state.
use Rattle.std.proofs.Common.{◌≡◌, ℕ, ◌+◌, sym, ap}
use Rattle.fdp_base.specs.declared.event.Event.{Event}
use Rattle.fdp_base.specs.declared.event.EventKind.{EventKind}
use Rattle.fdp_rules.specs.Events.{handle_event, only_location_valid}
use Rattle.fdp_rules.specs.PlainState.{PlainState}

abbrev pub handle_event_at : EventKind → ℕ → ℕ → ℕ → Event
handle_event_at kind rg ruh position = record { kind = kind; flags = only_location_valid; pid = 0; position = position; nsid = 0; moved = 0; lba = 0; rg = rg; ruh = ruh }

pub handle_event-is : (s : PlainState) (kind : EventKind) (rg ruh position : ℕ) → s.position + 1 ≡ position → handle_event_at kind rg ruh position ≡ handle_event s kind rg ruh
handle_event-is s kind rg ruh position at = ap (handle_event_at kind rg ruh) (sym at)
