-- Replies, and the memory that was taken for them.
use Rattle.std.specs.Prelude.{◌≡◌, ℕ, ◌*◌, ◌≤◌, Bool, false, List, [], Option, None, nat_le, replicate, if◌then◌else◌}
use Rattle.fdp_base.specs.declared.command.Command.{Command}
use Rattle.fdp_base.specs.declared.command.Command.TheVariants as commands
use Rattle.fdp_base.specs.declared.config.DriveConfig.{DriveConfig}
use Rattle.fdp_base.specs.declared.entry.Reply.{Reply}
use Rattle.fdp_base.specs.declared.limits.TheConstants.{MOST_DWORDS}
use Rattle.fdp_base.specs.declared.status.Status.{Status}
use Rattle.fdp_base.specs.declared.status.TheConstants.Status as statuses
use Rattle.fdp_book.specs.declared.room.Replies.{Replies}

-- the memory for a command on a drive with blocks of so many bytes, at most so many of them in a command, and so many pages of data
pub record RoomSeen : Type 0 where
  pub command : Command
  pub block : ℕ
  pub most : ℕ
  pub pages : ℕ

-- the room that a command needs on a drive of this configuration
abbrev pub room_for : Command → DriveConfig → RoomSeen
room_for command c = record { command = command; block = c.block; most = c.blocks_per_command; pages = c.groups * c.units * c.unit_pages }

-- the bytes of so many blocks, where a command may have so many
abbrev pub bytes_of_blocks : ℕ → ℕ → ℕ → ℕ
bytes_of_blocks count block most = if nat_le count most then count * block else 0

-- the bytes of so many dwords, where so many are transferred
abbrev pub bytes_of_dwords : ℕ → ℕ
bytes_of_dwords dwords = if nat_le dwords MOST_DWORDS then 4 * dwords else 0

-- how many bytes a command answers at most
abbrev pub most_bytes : Command → ℕ → ℕ → ℕ
most_bytes (commands.Write w) block most = 0
most_bytes (commands.Read r) block most = bytes_of_blocks r.count block most
most_bytes (commands.Zero z) block most = 0
most_bytes (commands.Dealloc d) block most = 0
most_bytes (commands.Flush f) block most = 0
most_bytes (commands.Delete d) block most = 0
most_bytes (commands.Status s) block most = bytes_of_dwords s.dwords
most_bytes (commands.Update u) block most = 0
most_bytes (commands.Log l) block most = bytes_of_dwords l.dwords
most_bytes (commands.SetFdp s) block most = 0
most_bytes (commands.GetFdp g) block most = 0
most_bytes (commands.SetEvents s) block most = 0
most_bytes (commands.Create c) block most = 0
most_bytes (commands.Other o) block most = 0

-- the places of so many blocks, where the drive has so many pages of data
abbrev pub places_of : ℕ → ℕ → ℕ
places_of size pages = if nat_le size pages then size else 0

-- how many places a command needs for the namespace that it creates
abbrev pub places_made : Command → ℕ → ℕ
places_made (commands.Write w) pages = 0
places_made (commands.Read r) pages = 0
places_made (commands.Zero z) pages = 0
places_made (commands.Dealloc d) pages = 0
places_made (commands.Flush f) pages = 0
places_made (commands.Delete d) pages = 0
places_made (commands.Status s) pages = 0
places_made (commands.Update u) pages = 0
places_made (commands.Log l) pages = 0
places_made (commands.SetFdp s) pages = 0
places_made (commands.GetFdp g) pages = 0
places_made (commands.SetEvents s) pages = 0
places_made (commands.Create c) pages = places_of c.size pages
places_made (commands.Other o) pages = 0

-- the memory is that which the command needs: zeros for the history, room for as many bytes of the answer, places without blocks
pub record HasMemory (command : Command) (block most pages : ℕ) (history answer : List ℕ) (capacity : ℕ) (places : List (Option ℕ)) : Type 0 where
  pub zeros : history ≡ replicate (most_bytes command block most) 0
  pub empty : answer ≡ []
  pub room : most_bytes command block most ≤ capacity
  pub vacant : places ≡ replicate (places_made command pages) None

-- this reply, twice: once for the record and once for the answer
pub record IsTwice (reply : Reply) (r : Replies) : Type 0 where
  pub history_is : r.history ≡ reply
  pub answer_is : r.answer ≡ reply

-- the reply of a read or a status
abbrev pub read_reply : List ℕ → Reply
read_reply bytes = record { status = statuses.SUCCESS; dw0 = 0; bytes = bytes; applied = false }

-- a reply without data, with this dword 0
abbrev pub told_reply : Status → ℕ → Bool → Reply
told_reply status dword0 applied = record { status = status; dw0 = dword0; bytes = []; applied = applied }
