-- The whole output of a run: the completions of each queue, the statistics, the usage of the handles and the events.
use Rattle.std.specs.Prelude.{ℕ, ◌*◌, List, [], ◌∷◌, ◌++◌, codes, decimal, if◌then◌else◌, flat_map}
use Rattle.fdp_base.specs.declared.config.DriveConfig.{DriveConfig}
use Rattle.fdp_base.specs.declared.entry.Entry.{Entry}
use Rattle.fdp_base.specs.declared.entry.Totals.{Totals}
use Rattle.fdp_base.specs.declared.event.Event.{Event}
use Rattle.fdp_rules.specs.History.{Found, point_of}
use Rattle.fdp_rules.specs.LogPages.{usage_of}
use Rattle.fdp_base.specs.Numbers.{numbers_below, numbers_from}
use Rattle.fdp_output.specs.Output.{queue_text, stats_line}
use Rattle.fdp_rules.specs.Point.{Point}
use Rattle.fdp_rules.specs.Room.{handles_in_force}
use Rattle.fdp_base.specs.EventCodes.{flags_code, kind_code}
use Rattle.fdp_base.specs.Text.{hex, line}

-- the sums in bytes
abbrev pub totals_line : DriveConfig → Totals → List ℕ
totals_line c t = stats_line (c.block * t.host_blocks) (c.block * t.media_blocks) (c.block * c.unit_pages * t.erases)

-- the line of a handle and its usage: 0 unused, 1 specified by a host, 2 by the controller
abbrev pub usage_line : ℕ → ℕ → List ℕ
usage_line ruh usage = line (codes "ruh" ∷ decimal ruh ∷ decimal usage ∷ [])

-- the line of an event: class, kind, flags, placement identifier, position, namespace, moved blocks, address, group, handle
abbrev pub event_line : List ℕ → Event → List ℕ
event_line class e = line (codes "event" ∷ class ∷ hex 2 (kind_code e.kind) ∷ hex 2 (flags_code e.flags) ∷ hex 4 e.pid ∷ decimal e.position
    ∷ decimal e.nsid ∷ decimal e.moved ∷ decimal e.lba ∷ decimal e.rg ∷ decimal e.ruh ∷ [])

-- the usage of each handle, then the events, first those that hosts ask for
abbrev pub placement_text : DriveConfig → Point → List ℕ
placement_text c p =
    flat_map (λ ruh. usage_line ruh (usage_of p.state ruh)) (numbers_below (handles_in_force c p.state))
    ++ flat_map (event_line (codes "host")) p.host_events
    ++ flat_map (event_line (codes "ctrl")) p.controller_events

-- what is printed after the completions; handles and events only while placement is enabled
abbrev pub closing_text : DriveConfig → Point → List ℕ
closing_text c p = totals_line c p.totals ++ (if p.state.enabled then placement_text c p else [])

-- the output of a run of so many traces
unfoldable pub output_of : DriveConfig → Found → ℕ → List Entry → List ℕ
output_of c f traces es = flat_map (queue_text es) (numbers_from 1 traces) ++ closing_text c (point_of c f es)
