-- The fields of an entry, each with its place, and the commands that they make.
use Rattle.std.specs.Prelude.{ℕ, ◌+◌, ◌-◌, ◌*◌, ◌/◌, ◌%◌, ◌^◌, Bool, ◌==◌, ◌&&◌, ◌||◌, List, min, if◌then◌else◌}
use Rattle.fdp_base.specs.declared.command.Dealloc.{Dealloc}
use Rattle.fdp_base.specs.declared.command.Delete.{Delete}
use Rattle.fdp_base.specs.declared.command.Flush.{Flush}
use Rattle.fdp_base.specs.declared.command.GetFdp.{GetFdp}
use Rattle.fdp_base.specs.declared.command.GetLog.{GetLog}
use Rattle.fdp_base.specs.declared.command.HandleStatus.{HandleStatus}
use Rattle.fdp_base.specs.declared.command.HandleUpdate.{HandleUpdate}
use Rattle.fdp_base.specs.declared.command.Other.{Other}
use Rattle.fdp_base.specs.declared.command.Range.{Range}
use Rattle.fdp_base.specs.declared.command.Read.{Read}
use Rattle.fdp_base.specs.declared.command.SetEvents.{SetEvents}
use Rattle.fdp_base.specs.declared.command.SetFdp.{SetFdp}
use Rattle.fdp_base.specs.declared.command.Write.{Write}
use Rattle.fdp_base.specs.declared.command.Zero.{Zero}
use Rattle.fdp_base.specs.declared.payload.Payload.{Payload}
use Rattle.fdp_base.specs.declared.codes.AdminOpcode.TheVariants as admins
use Rattle.fdp_base.specs.Codes.{admin_code}
use Rattle.fdp_layouts.specs.declared.submission.Sqe.{Sqe}
use Rattle.fdp_binary.specs.Front.{flags_byte}

-- so many bits of a word, from a bit on
abbrev pub bits : ℕ → ℕ → ℕ → ℕ
bits word from count = word / 2 ^ from % 2 ^ count

abbrev pub is_set : ℕ → ℕ → Bool
is_set word place = bits word place 1 == 1

-- a number of 64 bits by its halves
abbrev pub joined : ℕ → ℕ → ℕ
joined low high = low + 2 ^ 32 * high

-- SLBA, CDW10 and CDW11
abbrev pub slba_in : Sqe → ℕ
slba_in e = joined e.cdw10 e.cdw11

-- NLB, CDW12 bits 15:0, zero-based
abbrev pub blocks_in : Sqe → ℕ
blocks_in e = bits e.cdw12 0 16 + 1

-- NR, CDW10 bits 7:0, zero-based
abbrev pub ranges_in : Sqe → ℕ
ranges_in e = bits e.cdw10 0 8 + 1

-- MOS, CDW10 bits 31:16, zero-based
abbrev pub pids_in : Sqe → ℕ
pids_in e = bits e.cdw10 16 16 + 1

-- NOET, CDW11 bits 23:16
abbrev pub types_in : Sqe → ℕ
types_in e = bits e.cdw11 16 8

-- NUMD is zero-based; 2^32 dwords, which no number of 32 bits says, are one fewer: a drive refuses both alike
abbrev pub dwords_of : ℕ → ℕ
dwords_of numd = min (numd + 1) (2 ^ 32 - 1)

-- FID, CDW10 bits 7:0
abbrev pub feature_in : Sqe → ℕ
feature_in e = bits e.cdw10 0 8

-- SEL, CDW10 bits 3:0: what Namespace Management does
abbrev pub select_in : Sqe → ℕ
select_in e = bits e.cdw10 0 4

-- an admin command whose CDW10 begins with a feature or a selection
abbrev pub has_feature : Bool → ℕ → Bool
has_feature admin opcode = admin && (opcode == admin_code admins.SetFeatures || opcode == admin_code admins.GetFeatures || opcode == admin_code admins.NamespaceManagement)

-- ---- the commands

abbrev pub write_in : Sqe → Payload → Write
write_in e payload = record { nsid = e.nsid; slba = slba_in e; count = blocks_in e; dtype = bits e.cdw12 20 4; dspec = bits e.cdw13 16 16; payload = payload }

abbrev pub read_in : Sqe → Read
read_in e = record { nsid = e.nsid; slba = slba_in e; count = blocks_in e }

abbrev pub zero_in : Sqe → Zero
zero_in e = record { nsid = e.nsid; slba = slba_in e; count = blocks_in e }

abbrev pub dealloc_in : Sqe → List Range → Dealloc
dealloc_in e ranges = record { nsid = e.nsid; deallocate = is_set e.cdw11 2; ranges = ranges }

abbrev pub flush_in : Sqe → Flush
flush_in e = record { nsid = e.nsid }

abbrev pub status_in : Sqe → HandleStatus
status_in e = record { nsid = e.nsid; mo = bits e.cdw10 0 8; dwords = dwords_of e.cdw11 }

abbrev pub update_in : Sqe → List ℕ → HandleUpdate
update_in e pids = record { nsid = e.nsid; mo = bits e.cdw10 0 8; pids = pids }

-- a log page has the low half of NUMD in CDW10 and the high half in CDW11
abbrev pub log_in : Sqe → GetLog
log_in e = record {
  lid = bits e.cdw10 0 8;
  lsp = bits e.cdw10 8 7;
  group = bits e.cdw11 16 16;
  offset = joined e.cdw12 e.cdw13;
  dwords = dwords_of (bits e.cdw10 16 16 + 2 ^ 16 * bits e.cdw11 0 16);
}

abbrev pub set_fdp_in : Sqe → SetFdp
set_fdp_in e = record { group = bits e.cdw11 0 16; enable = is_set e.cdw12 0; index = bits e.cdw12 8 8 }

abbrev pub get_fdp_in : Sqe → GetFdp
get_fdp_in e = record { group = bits e.cdw11 0 16 }

abbrev pub set_events_in : Sqe → List ℕ → SetEvents
set_events_in e types = record { nsid = e.nsid; handle = bits e.cdw11 0 16; enable = is_set e.cdw12 0; types = types }

abbrev pub delete_in : Sqe → Delete
delete_in e = record { nsid = e.nsid }

-- of a command that the drive does not serve: opcode, flags, and the feature where it has one
abbrev pub other_in : Bool → Sqe → Other
other_in admin e = record { admin = admin; opcode = e.opcode; flags = flags_byte e.flags; feature = if has_feature admin e.opcode then feature_in e else 0 }
