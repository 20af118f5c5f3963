-- Commands whose numbers are within their types.
use Rattle.std.specs.Prelude.{ℕ, ◌^◌, ◌<◌, List}
use Rattle.std.specs.List.{All}
use Rattle.fdp_base.specs.declared.command.Command.{Command}
use Rattle.fdp_base.specs.declared.command.Command.TheVariants as commands
use Rattle.fdp_base.specs.declared.command.Create.{Create}
use Rattle.fdp_base.specs.declared.command.Dealloc.{Dealloc}
use Rattle.fdp_base.specs.declared.command.GetLog.{GetLog}
use Rattle.fdp_base.specs.declared.command.HandleStatus.{HandleStatus}
use Rattle.fdp_base.specs.declared.command.HandleUpdate.{HandleUpdate}
use Rattle.fdp_base.specs.declared.command.Other.{Other}
use Rattle.fdp_base.specs.declared.command.Range.{Range}
use Rattle.fdp_base.specs.declared.command.Read.{Read}
use Rattle.fdp_base.specs.declared.command.SetEvents.{SetEvents}
use Rattle.fdp_base.specs.declared.command.SetFdp.{SetFdp}
use Rattle.fdp_base.specs.declared.command.Write.{Write}
use Rattle.fdp_base.specs.declared.command.Zero.{Zero}
use Rattle.fdp_base.specs.declared.payload.Payload.{Payload}
use Rattle.fdp_base.specs.declared.payload.Payload.TheVariants as payloads

-- numbers of so many bits
abbrev pub HaveBits : ℕ → List ℕ → Type 0
HaveBits bits numbers = All (λ n. n < 2 ^ bits) numbers

abbrev pub IsTypedPayload : Payload → Type 0
IsTypedPayload (payloads.Pattern seed) = seed < 2 ^ 32
IsTypedPayload (payloads.Bytes bytes) = HaveBits 8 bytes

pub record IsTypedWrite (w : Write) : Type 0 where
  pub nsid : w.nsid < 2 ^ 32
  pub slba : w.slba < 2 ^ 64
  pub count : w.count < 2 ^ 32
  pub dtype : w.dtype < 2 ^ 8
  pub dspec : w.dspec < 2 ^ 16
  pub payload : IsTypedPayload w.payload

pub record IsTypedRead (r : Read) : Type 0 where
  pub nsid : r.nsid < 2 ^ 32
  pub slba : r.slba < 2 ^ 64
  pub count : r.count < 2 ^ 32

pub record IsTypedZero (z : Zero) : Type 0 where
  pub nsid : z.nsid < 2 ^ 32
  pub slba : z.slba < 2 ^ 64
  pub count : z.count < 2 ^ 32

pub record IsTypedRange (range : Range) : Type 0 where
  pub slba : range.slba < 2 ^ 64
  pub length : range.length < 2 ^ 32

pub record IsTypedDealloc (d : Dealloc) : Type 0 where
  pub nsid : d.nsid < 2 ^ 32
  pub ranges : All IsTypedRange d.ranges

pub record IsTypedStatus (s : HandleStatus) : Type 0 where
  pub nsid : s.nsid < 2 ^ 32
  pub mo : s.mo < 2 ^ 8
  pub dwords : s.dwords < 2 ^ 32

pub record IsTypedUpdate (u : HandleUpdate) : Type 0 where
  pub nsid : u.nsid < 2 ^ 32
  pub mo : u.mo < 2 ^ 8
  pub pids : HaveBits 16 u.pids

pub record IsTypedLog (l : GetLog) : Type 0 where
  pub lid : l.lid < 2 ^ 8
  pub lsp : l.lsp < 2 ^ 8
  pub group : l.group < 2 ^ 16
  pub offset : l.offset < 2 ^ 64
  pub dwords : l.dwords < 2 ^ 32

pub record IsTypedSetting (s : SetFdp) : Type 0 where
  pub group : s.group < 2 ^ 16
  pub index : s.index < 2 ^ 8

pub record IsTypedEvents (s : SetEvents) : Type 0 where
  pub nsid : s.nsid < 2 ^ 32
  pub handle : s.handle < 2 ^ 16
  pub types : HaveBits 8 s.types

pub record IsTypedCreate (c : Create) : Type 0 where
  pub size : c.size < 2 ^ 64
  pub handles : HaveBits 16 c.list

pub record IsTypedOther (o : Other) : Type 0 where
  pub opcode : o.opcode < 2 ^ 8
  pub flags : o.flags < 2 ^ 8
  pub feature : o.feature < 2 ^ 8

-- each number of the command is within its type
abbrev pub IsTyped : Command → Type 0
IsTyped (commands.Write w) = IsTypedWrite w
IsTyped (commands.Read r) = IsTypedRead r
IsTyped (commands.Zero z) = IsTypedZero z
IsTyped (commands.Dealloc d) = IsTypedDealloc d
IsTyped (commands.Flush f) = f.nsid < 2 ^ 32
IsTyped (commands.Delete d) = d.nsid < 2 ^ 32
IsTyped (commands.Status s) = IsTypedStatus s
IsTyped (commands.Update u) = IsTypedUpdate u
IsTyped (commands.Log l) = IsTypedLog l
IsTyped (commands.SetFdp s) = IsTypedSetting s
IsTyped (commands.GetFdp g) = g.group < 2 ^ 16
IsTyped (commands.SetEvents s) = IsTypedEvents s
IsTyped (commands.Create c) = IsTypedCreate c
IsTyped (commands.Other o) = IsTypedOther o
