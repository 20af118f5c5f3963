-- Which commands have a frame, and the frame that is made of them.
use Rattle.std.specs.Prelude.{◌≡◌, ℕ, ◌*◌, ◌^◌, ◌<◌, ◌≤◌, Bool, List, ◌++◌, length}
use Rattle.std.specs.List.{All}
use Rattle.fdp_base.specs.declared.command.Command.{Command}
use Rattle.fdp_base.specs.declared.command.Command.TheVariants as commands
use Rattle.fdp_base.specs.declared.command.Other.{Other}
use Rattle.fdp_base.specs.declared.command.Range.{Range}
use Rattle.fdp_base.specs.declared.limits.TheConstants.{MOST_ENTRY_BLOCKS, MOST_ENTRY_EVENT_TYPES, MOST_ENTRY_PIDS, MOST_ENTRY_RANGES}
use Rattle.fdp_base.specs.declared.payload.Payload.{Payload}
use Rattle.fdp_base.specs.declared.payload.Payload.TheVariants as payloads
use Rattle.fdp_base.specs.Geometry.{IsWithin}
use Rattle.fdp_layouts.specs.Frame.{Fits}
use Rattle.fdp_layouts.specs.Range.{dsm_range, dsm_range_numbers}
use Rattle.fdp_layouts.specs.declared.submission.Sqe.{Sqe}
use Rattle.fdp_queues.specs.Data.{pattern, with_attributes}
use Rattle.fdp_queues.specs.Entry.{work_of}
use Rattle.fdp_binary.specs.declared.asked.Asked.{Asked}
use Rattle.fdp_binary.specs.Asked.{Asks}
use Rattle.fdp_binary.specs.Fields.{other_in}

-- the entry that a queue holds of a command
abbrev pub entry_made : Command → Sqe
entry_made command = (work_of command 0).sqe

abbrev pub admin_made : Command → Bool
admin_made command = (work_of command 0).admin

-- a payload that is said as it stands: bytes as many as the blocks have, which are no pattern
abbrev pub IsCarriedPayload : ℕ → ℕ → Payload → Type 0
IsCarriedPayload block count (payloads.Pattern seed) = Unit {0}
IsCarriedPayload block count (payloads.Bytes bytes) = (length bytes ≡ count * block) × ((seed : ℕ) → seed < 2 ^ 32 → bytes ≡ pattern block count seed → ⊥)

-- an entry asks for no command that is served, and says this one
abbrev pub SaysOther : Other → Sqe → Type 0
SaysOther o e = ((kind : Asked) → Asks o.admin e kind → ⊥) × (o ≡ other_in o.admin e)

-- each value and each count fits its field, and of a command that is not served the entry says it back
abbrev pub IsCarried : ℕ → Command → Type 0
IsCarried block (commands.Write w) = IsWithin 1 MOST_ENTRY_BLOCKS w.count × (w.dtype < 2 ^ 4) × IsCarriedPayload block w.count w.payload
IsCarried block (commands.Read r) = IsWithin 1 MOST_ENTRY_BLOCKS r.count
IsCarried block (commands.Zero z) = IsWithin 1 MOST_ENTRY_BLOCKS z.count
IsCarried block (commands.Dealloc d) = IsWithin 1 MOST_ENTRY_RANGES (length d.ranges)
IsCarried block (commands.Flush f) = Unit {0}
IsCarried block (commands.Delete d) = Unit {0}
IsCarried block (commands.Status s) = 1 ≤ s.dwords
IsCarried block (commands.Update u) = IsWithin 1 MOST_ENTRY_PIDS (length u.pids)
IsCarried block (commands.Log l) = (1 ≤ l.dwords) × (l.lsp < 2 ^ 7)
IsCarried block (commands.SetFdp s) = Unit {0}
IsCarried block (commands.GetFdp g) = Unit {0}
IsCarried block (commands.SetEvents s) = length s.types ≤ MOST_ENTRY_EVENT_TYPES
IsCarried block (commands.Create c) = ⊥
IsCarried block (commands.Other o) = SaysOther o (entry_made (commands.Other o))

abbrev pub IsTypedPayload : Payload → Type 0
IsTypedPayload (payloads.Pattern seed) = seed < 2 ^ 32
IsTypedPayload (payloads.Bytes bytes) = Unit {0}

-- ranges, and placement identifiers, whose numbers are within their types
pub record AreTypedRanges (ranges : List Range) : Type 0 where
  pub each : All (λ range. Fits dsm_range (dsm_range_numbers (with_attributes 0 range))) ranges

pub record AreTypedPids (pids : List ℕ) : Type 0 where
  pub each : All (λ pid. pid < 2 ^ 16) pids

-- the numbers of a command are within their types, where its frame depends on it
abbrev pub IsTyped : Command → Type 0
IsTyped (commands.Write w) = IsTypedPayload w.payload × (w.dspec < 2 ^ 16)
IsTyped (commands.Read r) = Unit {0}
IsTyped (commands.Zero z) = Unit {0}
IsTyped (commands.Dealloc d) = AreTypedRanges d.ranges
IsTyped (commands.Flush f) = Unit {0}
IsTyped (commands.Delete d) = Unit {0}
IsTyped (commands.Status s) = (s.mo < 2 ^ 8) × (s.dwords < 2 ^ 32)
IsTyped (commands.Update u) = (u.mo < 2 ^ 8) × AreTypedPids u.pids
IsTyped (commands.Log l) = (l.lid < 2 ^ 8) × (l.group < 2 ^ 16) × (l.dwords < 2 ^ 32)
IsTyped (commands.SetFdp s) = (s.group < 2 ^ 16) × (s.index < 2 ^ 8)
IsTyped (commands.GetFdp g) = g.group < 2 ^ 16
IsTyped (commands.SetEvents s) = s.handle < 2 ^ 16
IsTyped (commands.Create c) = Unit {0}
IsTyped (commands.Other o) = Unit {0}

-- the new bytes begin with the old ones
pub record Extends (old new : List ℕ) : Type 0 where
  pub more : List ℕ
  pub whole : new ≡ old ++ more
