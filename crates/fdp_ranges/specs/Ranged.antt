-- The numbers of entries within their types.
use Rattle.fdp_base.specs.declared.entry.Entry.{Entry}
use Rattle.fdp_base.specs.declared.entry.Entry.TheVariants as entries
use Rattle.fdp_base.specs.declared.entry.Host.{Host}
use Rattle.fdp_base.specs.declared.entry.Started.{Started}
use Rattle.fdp_prints.specs.Told.{AreBytes, IsOfBits, IsToldCopy, IsToldMove, IsToldPage}
use Rattle.fdp_trace.specs.Typed.{IsTyped}

-- of a completion; a status type has eight bits in memory
pub record IsRangedHost (h : Host) : Type 0 where
  pub queue : IsOfBits 8 h.queue
  pub number : IsOfBits 16 h.number
  pub moment : IsOfBits 64 h.moment
  pub sct : IsOfBits 8 h.reply.status.sct
  pub sc : IsOfBits 8 h.reply.status.sc
  pub dw0 : IsOfBits 32 h.reply.dw0
  pub bytes : AreBytes h.reply.bytes
  pub command : IsTyped h.command

-- of the start of a write
pub record IsRangedStart (s : Started) : Type 0 where
  pub queue : IsOfBits 8 s.queue
  pub number : IsOfBits 16 s.number
  pub rg : IsOfBits 16 s.rg
  pub ruh : IsOfBits 8 s.ruh
  pub command : IsTyped s.command

-- each number of an entry is one of its type
abbrev pub IsRanged : Entry → Type 0
IsRanged (entries.Host h) = IsRangedHost h
IsRanged (entries.Started s) = IsRangedStart s
IsRanged (entries.Placed p) = IsToldPage p
IsRanged (entries.Copied x) = IsToldCopy x
IsRanged (entries.Moved m) = IsToldMove m
IsRanged (entries.Erased e) = IsOfBits 32 e.unit
IsRanged (entries.Retired r) = IsOfBits 32 r.unit
IsRanged (entries.Aside a) = IsOfBits 32 a.unit
IsRanged (entries.Shut s) = IsOfBits 16 s.rg × IsOfBits 8 s.ruh
IsRanged (entries.Worn w) = IsOfBits 16 w.rg
IsRanged entries.Reopened = Unit {0}
