-- What kind of entry it is.
use Rattle.std.specs.Prelude.{ℕ, Bool, true, false, ◌==◌, Option, Some, None, ◌≡◌}
use Rattle.std.specs.Option.{option_map_or}
use Rattle.fdp_base.specs.declared.entry.Entry.{Entry}
use Rattle.fdp_base.specs.declared.entry.Entry.TheVariants as entries
use Rattle.fdp_base.specs.declared.entry.Host.{Host}
use Rattle.fdp_base.specs.declared.entry.Placed.{Placed}
use Rattle.fdp_base.specs.declared.entry.Started.{Started}

-- an entry as the completion of a command, if it is one
abbrev pub host_of : Entry → Option Host
host_of (entries.Host h) = Some h
host_of (entries.Started s) = None
host_of (entries.Placed p) = None
host_of (entries.Copied c) = None
host_of (entries.Moved m) = None
host_of (entries.Erased e) = None
host_of (entries.Retired r) = None
host_of (entries.Aside a) = None
host_of (entries.Shut s) = None
host_of (entries.Worn w) = None
host_of entries.Reopened = None

-- an entry as the start of a write, if it is one
abbrev pub started_of : Entry → Option Started
started_of (entries.Host h) = None
started_of (entries.Started s) = Some s
started_of (entries.Placed p) = None
started_of (entries.Copied c) = None
started_of (entries.Moved m) = None
started_of (entries.Erased e) = None
started_of (entries.Retired r) = None
started_of (entries.Aside a) = None
started_of (entries.Shut s) = None
started_of (entries.Worn w) = None
started_of entries.Reopened = None

-- an entry as a page of a write that was placed, if it is one
abbrev pub placed_of : Entry → Option Placed
placed_of (entries.Host h) = None
placed_of (entries.Started s) = None
placed_of (entries.Placed p) = Some p
placed_of (entries.Copied c) = None
placed_of (entries.Moved m) = None
placed_of (entries.Erased e) = None
placed_of (entries.Retired r) = None
placed_of (entries.Aside a) = None
placed_of (entries.Shut s) = None
placed_of (entries.Worn w) = None
placed_of entries.Reopened = None

-- an entry that serves no host: neither a completion, nor a start, nor a page of a write
pub record ServesNone (e : Entry) : Type 0 where
  pub host : host_of e ≡ None
  pub started : started_of e ≡ None
  pub placed : placed_of e ≡ None

-- what an entry tells of units, handles and groups
pub record EntryTold : Type 0 where
  -- the unit that got a page: a page of it was placed or copied
  pub filled : Option ℕ
  -- the unit that was erased
  pub erased : Option ℕ
  -- the unit whose erase failed
  pub retired : Option ℕ
  -- a unit was lost: its erase failed, or it could not be read
  pub loses_unit : Bool
  -- a handle was shut
  pub shuts : Bool
  -- a group was worn
  pub wears : Bool

abbrev pub nothing_told : EntryTold
nothing_told = record { filled = None; erased = None; retired = None; loses_unit = false; shuts = false; wears = false }

abbrev pub told_by : Entry → EntryTold
told_by (entries.Host h) = nothing_told
told_by (entries.Started s) = nothing_told
told_by (entries.Placed p) = record nothing_told { filled = Some p.unit }
told_by (entries.Copied c) = record nothing_told { filled = Some c.to.unit }
told_by (entries.Moved m) = nothing_told
told_by (entries.Erased e) = record nothing_told { erased = Some e.unit }
told_by (entries.Retired r) = record nothing_told { retired = Some r.unit; loses_unit = true }
told_by (entries.Aside a) = record nothing_told { loses_unit = true }
told_by (entries.Shut s) = record nothing_told { shuts = true }
told_by (entries.Worn w) = record nothing_told { wears = true }
told_by entries.Reopened = nothing_told

abbrev pub is_shut : Entry → Bool
is_shut e = (told_by e).shuts

abbrev pub loses_unit : Entry → Bool
loses_unit e = (told_by e).loses_unit

abbrev pub wears_group : Entry → Bool
wears_group e = (told_by e).wears

abbrev pub unit_filled : Entry → Option ℕ
unit_filled e = (told_by e).filled

abbrev pub unit_erased : Entry → Option ℕ
unit_erased e = (told_by e).erased

abbrev pub unit_retired : Entry → Option ℕ
unit_retired e = (told_by e).retired

-- it is this unit
abbrev pub is_unit : ℕ → Option ℕ → Bool
is_unit unit x = option_map_or (λ n. n == unit) x false

-- a page was put into this unit: that of a write, or a copy
abbrev pub puts_into : ℕ → Entry → Bool
puts_into unit e = is_unit unit (unit_filled e)

-- this unit was erased
abbrev pub empties : ℕ → Entry → Bool
empties unit e = is_unit unit (unit_erased e)
