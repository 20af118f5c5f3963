-- Entries and texts of worked rows.
use Rattle.std.specs.Prelude.{ℕ, true, false, [], ◌∷◌, ◌++◌, List, flat_map}
use Rattle.fdp_base.specs.declared.command.Command.{Command}
use Rattle.fdp_base.specs.declared.command.Command.TheVariants as commands
use Rattle.fdp_base.specs.declared.entry.Entry.{Entry}
use Rattle.fdp_base.specs.declared.entry.Entry.TheVariants as entries
use Rattle.fdp_base.specs.declared.payload.Payload.TheVariants.{Pattern}
use Rattle.fdp_base.specs.declared.status.TheConstants.Status as statuses

-- lines of text
abbrev pub lines : List (List ℕ) → List ℕ
lines xs = flat_map (λ x. x ++ 10 ∷ []) xs

-- a command of queue 1 succeeded, its change made
abbrev pub done : ℕ → Command → Entry
done number command = entries.Host (record { queue = 1; number = number; command = command; reply = record { status = statuses.SUCCESS; dw0 = 0; bytes = []; applied = true }; moment = 0 })

-- a command of queue 1 succeeded with these bytes, and changes nothing
abbrev pub told : ℕ → Command → List ℕ → Entry
told number command bytes = entries.Host (record { queue = 1; number = number; command = command; reply = record { status = statuses.SUCCESS; dw0 = 0; bytes = bytes; applied = false }; moment = 0 })

-- a write to namespace 1 without a placement identifier, and one with it
abbrev pub write : ℕ → ℕ → ℕ → Command
write slba count seed = commands.Write (record { nsid = 1; slba = slba; count = count; dtype = 0; dspec = 0; payload = Pattern seed })

abbrev pub write_to : ℕ → ℕ → ℕ → ℕ → Command
write_to pid slba count seed = commands.Write (record { nsid = 1; slba = slba; count = count; dtype = 2; dspec = pid; payload = Pattern seed })
