-- Which entries tell of failed calls of the flash, and which of the use and the erase of units.
use Rattle.std.specs.Prelude.{ℕ, Bool, false, ◌||◌}
use Rattle.std.specs.Option.{option_map_or}
use Rattle.fdp_base.specs.declared.entry.Entry.{Entry}
use Rattle.fdp_base.specs.declared.entry.Host.{Host}
use Rattle.fdp_base.specs.EntryKinds.{empties, host_of, is_shut, is_unit, loses_unit, unit_retired}
use Rattle.fdp_rules.specs.Change.{is_media_error}

-- whether an entry tells of a media error
abbrev pub is_media_reply : Entry → Bool
is_media_reply e = option_map_or (λ (h : Host). is_media_error h.reply.status) (host_of e) false

-- whether an entry tells of a failed call of the flash: a media error, a handle that was shut, or a unit that was lost
abbrev pub tells_failure : Entry → Bool
tells_failure e = is_media_reply e || is_shut e || loses_unit e

-- an entry tells that this unit was erased, or that its erase failed
abbrev pub is_erase : ℕ → Entry → Bool
is_erase unit e = empties unit e || is_unit unit (unit_retired e)
