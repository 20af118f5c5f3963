-- Entries whose commands a line or a frame gives.
use Rattle.std.specs.Prelude.{ℕ}
use Rattle.fdp_base.specs.declared.entry.Entry.{Entry}
use Rattle.fdp_base.specs.declared.entry.Entry.TheVariants as entries
use Rattle.fdp_prints.specs.Told.{IsGiven}

-- the command of an entry, where it has one, is one that a line of a trace says, or a frame with blocks of this size
abbrev pub HasGiven : ℕ → Entry → Type 0
HasGiven block (entries.Host h) = IsGiven block h.command
HasGiven block (entries.Started s) = IsGiven block s.command
HasGiven block (entries.Placed p) = Unit {0}
HasGiven block (entries.Copied x) = Unit {0}
HasGiven block (entries.Moved m) = Unit {0}
HasGiven block (entries.Erased e) = Unit {0}
HasGiven block (entries.Retired r) = Unit {0}
HasGiven block (entries.Aside a) = Unit {0}
HasGiven block (entries.Shut s) = Unit {0}
HasGiven block (entries.Worn w) = Unit {0}
HasGiven block entries.Reopened = Unit {0}
