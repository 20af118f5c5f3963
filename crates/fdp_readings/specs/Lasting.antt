-- Entries that leave nothing that an image keeps.
use Rattle.std.specs.Prelude.{Bool, true, false, not, length, ◌==◌}
use Rattle.fdp_base.specs.declared.entry.Entry.{Entry}
use Rattle.fdp_base.specs.declared.entry.Entry.TheVariants as entries

-- an entry that changes nothing of what an image keeps but its sums, and makes no event: a command whose change is not made, a page that was
-- placed or copied, a move without a block, a unit that was erased or lost, a group that is worn
abbrev pub leaves_nothing : Entry → Bool
leaves_nothing (entries.Host h) = not h.reply.applied
leaves_nothing (entries.Started s) = true
leaves_nothing (entries.Placed p) = true
leaves_nothing (entries.Copied copied) = true
leaves_nothing (entries.Moved m) = length m.blocks == 0
leaves_nothing (entries.Erased e) = true
leaves_nothing (entries.Retired r) = true
leaves_nothing (entries.Aside a) = true
leaves_nothing (entries.Shut s) = false
leaves_nothing (entries.Worn w) = true
leaves_nothing entries.Reopened = false
