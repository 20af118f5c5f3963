-- Which entries their printed lines tell whole.
use Rattle.std.specs.Prelude.{ℕ, ◌≡◌, ◌⊎◌, ◌*◌, ◌^◌, ◌<◌, Bool, true, false, ◌&&◌, ◌==◌, if◌then◌else◌, List, length, flat_map}
use Rattle.std.specs.List.{AllByRecursion}
use Rattle.fdp_base.specs.declared.command.Command.{Command}
use Rattle.fdp_base.specs.declared.command.Command.TheVariants as commands
use Rattle.fdp_base.specs.declared.config.DriveConfig.{DriveConfig}
use Rattle.fdp_base.specs.declared.entry.BlockName.{BlockName}
use Rattle.fdp_base.specs.declared.entry.Copied.{Copied}
use Rattle.fdp_base.specs.declared.entry.Entry.{Entry}
use Rattle.fdp_base.specs.declared.entry.Entry.TheVariants as entries
use Rattle.fdp_base.specs.declared.entry.Host.{Host}
use Rattle.fdp_base.specs.declared.entry.Moved.{Moved}
use Rattle.fdp_base.specs.declared.entry.Placed.{Placed}
use Rattle.fdp_base.specs.declared.entry.Reply.{Reply}
use Rattle.fdp_base.specs.declared.entry.Spot.{Spot}
use Rattle.fdp_base.specs.declared.entry.Started.{Started}
use Rattle.fdp_base.specs.declared.status.Status.{Status}
use Rattle.fdp_binary.specs.Frames.{IsFrame}
use Rattle.fdp_output.specs.CommandText.{is_spelled, line_words}
use Rattle.fdp_output.specs.HistoryText.{entry_lines}
use Rattle.fdp_trace.specs.Demands.{Spells}

-- a number of so many bits
abbrev pub IsOfBits : ℕ → ℕ → Type 0
IsOfBits bits n = n < 2 ^ bits

abbrev pub AreBytes : List ℕ → Type 0
AreBytes bytes = AllByRecursion (IsOfBits 8) bytes

-- a command that a line of a trace says, which is the line that is printed of it
pub record IsSpelled (command : Command) : Type 0 where
  pub line : is_spelled command ≡ true
  pub says : Spells (line_words command) command

-- a command that some frame of bytes says, with blocks of this size, and no line of a trace. A create has no frame: of one that no line says, neither
-- its size nor its handles are printed, so it is not told
pub record IsFramed (block : ℕ) (command : Command) : Type 0 where
  pub line : is_spelled command ≡ false
  pub frame : List ℕ
  pub bytes : AreBytes frame
  pub says : IsFrame block frame command

-- a command that a line or a frame gives
abbrev pub IsGiven : ℕ → Command → Type 0
IsGiven block command = IsSpelled command ⊎ IsFramed block command

abbrev pub is_success : Status → Bool
is_success s = (s.sct == 0) && (s.sc == 0)

-- how many bytes a command answers where it succeeds: of a read the blocks, of a status or a log the dwords
abbrev pub data_size : DriveConfig → Command → ℕ
data_size c (commands.Write w) = 0
data_size c (commands.Read r) = r.count * c.block
data_size c (commands.Zero z) = 0
data_size c (commands.Dealloc d) = 0
data_size c (commands.Flush f) = 0
data_size c (commands.Delete d) = 0
data_size c (commands.Status s) = 4 * s.dwords
data_size c (commands.Update u) = 0
data_size c (commands.Log l) = 4 * l.dwords
data_size c (commands.SetFdp s) = 0
data_size c (commands.GetFdp g) = 0
data_size c (commands.SetEvents s) = 0
data_size c (commands.Create create) = 0
data_size c (commands.Other o) = 0

-- how many bytes a command answers with this status
abbrev pub reply_size : DriveConfig → Command → Status → ℕ
reply_size c command status = if is_success status then data_size c command else 0

-- a reply that is printed whole: a status of three digits, a dword, and bytes only on success, as many as the command asks for
pub record IsToldReply (c : DriveConfig) (command : Command) (reply : Reply) : Type 0 where
  pub sct : IsOfBits 4 reply.status.sct
  pub sc : IsOfBits 8 reply.status.sc
  pub dw0 : IsOfBits 32 reply.dw0
  pub bytes : AreBytes reply.bytes
  pub size : length reply.bytes ≡ reply_size c command reply.status

-- a completion of a spelled command, with a reply that is printed whole
pub record IsToldHost (c : DriveConfig) (h : Host) : Type 0 where
  pub queue : IsOfBits 8 h.queue
  pub number : IsOfBits 16 h.number
  pub moment : IsOfBits 64 h.moment
  pub command : IsGiven c.block h.command
  pub reply : IsToldReply c h.command h.reply

-- the start of such a write
pub record IsToldStart (c : DriveConfig) (s : Started) : Type 0 where
  pub queue : IsOfBits 8 s.queue
  pub number : IsOfBits 16 s.number
  pub rg : IsOfBits 16 s.rg
  pub ruh : IsOfBits 8 s.ruh
  pub command : IsGiven c.block s.command

pub record IsToldPage (p : Placed) : Type 0 where
  pub ticket : IsOfBits 64 p.ticket
  pub index : IsOfBits 32 p.index
  pub unit : IsOfBits 32 p.unit
  pub page : IsOfBits 32 p.page

pub record IsToldSpot (spot : Spot) : Type 0 where
  pub unit : IsOfBits 32 spot.unit
  pub page : IsOfBits 32 spot.page

pub record IsToldCopy (x : Copied) : Type 0 where
  pub from : IsToldSpot x.from
  pub to : IsToldSpot x.to

pub record IsToldName (block : BlockName) : Type 0 where
  pub nsid : IsOfBits 32 block.nsid
  pub lba : IsOfBits 64 block.lba

pub record IsToldMove (m : Moved) : Type 0 where
  pub rg : IsOfBits 16 m.rg
  pub blocks : AllByRecursion IsToldName m.blocks

-- an entry that its printed lines tell whole: each number is one of its type, and a line or a frame gives its command
abbrev pub IsTold : DriveConfig → Entry → Type 0
IsTold c (entries.Host h) = IsToldHost c h
IsTold c (entries.Started s) = IsToldStart c s
IsTold c (entries.Placed p) = IsToldPage p
IsTold c (entries.Copied x) = IsToldCopy x
IsTold c (entries.Moved m) = IsToldMove m
IsTold c (entries.Erased e) = IsOfBits 32 e.unit
IsTold c (entries.Retired r) = IsOfBits 32 r.unit
IsTold c (entries.Aside a) = IsOfBits 32 a.unit
IsTold c (entries.Shut s) = IsOfBits 16 s.rg × IsOfBits 8 s.ruh
IsTold c (entries.Worn w) = IsOfBits 16 w.rg
IsTold c entries.Reopened = Unit {0}

-- an entry with the position that its line shows
abbrev pub IsToldAt : DriveConfig → ℕ × Entry → Type 0
IsToldAt c x = IsOfBits 64 x.0 × IsTold c x.1

abbrev pub AreTold : DriveConfig → List (ℕ × Entry) → Type 0
AreTold c xs = AllByRecursion (IsToldAt c) xs

-- the lines of entries, each with its position, with blocks of so many bytes
abbrev pub printed : ℕ → List (ℕ × Entry) → List ℕ
printed block xs = flat_map (λ (x : ℕ × Entry). entry_lines block x.0 x.1) xs
