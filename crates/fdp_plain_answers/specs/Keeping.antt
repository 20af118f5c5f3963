-- The events that are kept, and the references of a table of its own.
use Rattle.std.specs.Prelude.{◌+◌, ◌*◌, List, nat_lt, if◌then◌else◌, filter, slice_get}
use Rattle.std.specs.Option.{option_map_or}
use Rattle.fdp_base.specs.declared.config.DriveConfig.{DriveConfig}
use Rattle.fdp_base.specs.declared.event.Event.{Event}
use Rattle.fdp_rules.specs.Effect.{References, no_reference}
use Rattle.fdp_rules.specs.PlainState.{PlainState}
use Rattle.fdp_tables.specs.declared.state.KeptReference.{KeptReference}
use Rattle.fdp_tables.specs.State.{reference_of}

-- the events whose kind is kept for their handle
abbrev pub kept_of : PlainState → List Event → List Event
kept_of s es = filter (λ (x : Event). s.reports x.ruh x.kind) es

-- what each handle references, by these rows
abbrev pub references_in : DriveConfig → List KeptReference → References
references_in c rows rg ruh =
    if nat_lt ruh 16
    then option_map_or reference_of (slice_get rows (16 * rg + ruh)) (no_reference c)
    else no_reference c
