-- The entries of commands in a submission queue.
use Rattle.std.specs.Prelude.{ℕ, ◌+◌, ◌-◌, ◌*◌, ◌/◌, ◌%◌, ◌^◌, Bool, true, false, List, length, replicate, if◌then◌else◌, ◌==◌}
use Rattle.fdp_base.specs.declared.command.Command.{Command}
use Rattle.fdp_base.specs.declared.command.Command.TheVariants as commands
use Rattle.fdp_base.specs.EventCodes.{bit}
use Rattle.fdp_base.specs.declared.codes.AdminOpcode.{AdminOpcode}
use Rattle.fdp_base.specs.declared.codes.AdminOpcode.TheVariants as admins
use Rattle.fdp_base.specs.declared.codes.Feature.TheVariants as features
use Rattle.fdp_base.specs.declared.codes.IoOpcode.{IoOpcode}
use Rattle.fdp_base.specs.declared.codes.IoOpcode.TheVariants as ios
use Rattle.fdp_base.specs.Codes.{admin_code, feature_code, io_code}
use Rattle.fdp_layouts.specs.declared.submission.Sqe.{Sqe}
use Rattle.fdp_layouts.specs.declared.submission.EntryFlags.{EntryFlags}
use Rattle.fdp_layouts.specs.declared.submission.Fuse.{Fuse}
use Rattle.fdp_layouts.specs.declared.submission.Fuse.TheVariants as fuses
use Rattle.fdp_layouts.specs.declared.submission.Psdt.{Psdt}
use Rattle.fdp_layouts.specs.declared.submission.Psdt.TheVariants as psdts
use Rattle.fdp_layouts.specs.Frame.{frame_of}
use Rattle.fdp_layouts.specs.Submission.{sqe, sqe_numbers}
use Rattle.fdp_queues.specs.declared.work.Work.{Work}
use Rattle.fdp_queues.specs.declared.entry.Words.{Words}

abbrev pub fuse_of : ℕ → Fuse
fuse_of n = if n == 0 then fuses.Normal else (if n == 1 then fuses.First else (if n == 2 then fuses.Second else fuses.Reserved))

abbrev pub psdt_of : ℕ → Psdt
psdt_of n = if n == 0 then psdts.Prp else (if n == 1 then psdts.SglMetadataBuffer else (if n == 2 then psdts.SglMetadataSegment else psdts.Reserved))

-- byte 1 of an entry: FUSE in its lowest bits, PSDT in its highest
abbrev pub flags_of : ℕ → EntryFlags
flags_of byte = record { fuse = fuse_of (byte % 4); psdt = psdt_of (byte / 64) }

abbrev pub io : IoOpcode → ℕ → ℕ → ℕ → ℕ → ℕ → Words
io opcode nsid cdw10 cdw11 cdw12 cdw13 = record { admin = false; opcode = io_code opcode; flags = 0; nsid = nsid; cdw10 = cdw10; cdw11 = cdw11; cdw12 = cdw12; cdw13 = cdw13 }

abbrev pub admin : AdminOpcode → ℕ → ℕ → ℕ → ℕ → ℕ → Words
admin opcode nsid cdw10 cdw11 cdw12 cdw13 = record { admin = true; opcode = admin_code opcode; flags = 0; nsid = nsid; cdw10 = cdw10; cdw11 = cdw11; cdw12 = cdw12; cdw13 = cdw13 }

-- a count in a field of so many values, zero-based
abbrev pub zero_based : ℕ → ℕ → ℕ
zero_based values count = (count + (values - 1)) % values

-- the low and the high half of a number of 64 bits
abbrev pub low : ℕ → ℕ
low n = n % 2 ^ 32

abbrev pub high : ℕ → ℕ
high n = n / 2 ^ 32

-- ---- the fields of the words, each with its place; what no field has is zero

-- NLB, CDW12 bits 15:0: the number of logical blocks, zero-based
abbrev pub nlb : ℕ → ℕ
nlb count = zero_based 65536 count

-- DTYPE, CDW12 bits 23:20: the directive type
abbrev pub dtype_field : ℕ → ℕ
dtype_field dtype = 2 ^ 20 * (dtype % 16)

-- DSPEC, CDW13 bits 31:16: the directive specific value, a placement identifier
abbrev pub dspec_field : ℕ → ℕ
dspec_field dspec = 2 ^ 16 * dspec

-- NR, CDW10 bits 7:0: the number of ranges, zero-based
abbrev pub ranges_field : ℕ → ℕ
ranges_field count = zero_based 256 count

-- AD, CDW11 bit 2: deallocate
abbrev pub deallocate_field : Bool → ℕ
deallocate_field deallocate = 2 ^ 2 * bit deallocate

-- MO, CDW10 bits 7:0: the management operation
abbrev pub operation_field : ℕ → ℕ
operation_field mo = mo

-- MOS, CDW10 bits 31:16: the number of placement identifiers, zero-based
abbrev pub identifiers_field : ℕ → ℕ
identifiers_field count = 2 ^ 16 * zero_based 65536 count

-- NUMD: the number of dwords, zero-based; a log page has its low half in CDW10 and its high half in CDW11
abbrev pub numd : ℕ → ℕ
numd dwords = zero_based 4294967296 dwords

-- NUMDL, CDW10 bits 31:16
abbrev pub numd_low : ℕ → ℕ
numd_low dwords = 2 ^ 16 * (numd dwords % 65536)

-- NUMDU, CDW11 bits 15:0
abbrev pub numd_high : ℕ → ℕ
numd_high dwords = numd dwords / 65536

-- LID, CDW10 bits 7:0: the log page
abbrev pub page_field : ℕ → ℕ
page_field lid = lid

-- LSP, CDW10 bits 14:8: the log specific parameter
abbrev pub parameter_field : ℕ → ℕ
parameter_field lsp = 2 ^ 8 * (lsp % 128)

-- LSI, CDW11 bits 31:16: the endurance group of a log page
abbrev pub log_group_field : ℕ → ℕ
log_group_field group = 2 ^ 16 * group

-- FID, CDW10 bits 7:0: the feature
abbrev pub feature_field : ℕ → ℕ
feature_field feature = feature

-- ENDGID, CDW11 bits 15:0: the endurance group of a feature
abbrev pub group_field : ℕ → ℕ
group_field group = group

-- FDPE, CDW12 bit 0: enable
abbrev pub enable_field : Bool → ℕ
enable_field enable = bit enable

-- FDPCIDX, CDW12 bits 15:8: the configuration
abbrev pub index_field : ℕ → ℕ
index_field index = 2 ^ 8 * index

-- the placement handle of its events, CDW11 bits 15:0
abbrev pub handle_field : ℕ → ℕ
handle_field handle = handle

-- NOET, CDW11 bits 23:16: the number of event types, not zero-based
abbrev pub types_field : ℕ → ℕ
types_field count = 2 ^ 16 * (count % 256)

-- ---- the words of each command: opcode, NSID, CDW10 to CDW13; a create carries its values beside its entry

abbrev pub words_of : Command → Words
words_of (commands.Flush f) = io ios.Flush f.nsid 0 0 0 0
words_of (commands.Write w) = io ios.Write w.nsid (low w.slba) (high w.slba) (nlb w.count + dtype_field w.dtype) (dspec_field w.dspec)
words_of (commands.Read r) = io ios.Read r.nsid (low r.slba) (high r.slba) (nlb r.count) 0
words_of (commands.Zero z) = io ios.WriteZeroes z.nsid (low z.slba) (high z.slba) (nlb z.count) 0
words_of (commands.Dealloc d) = io ios.DatasetManagement d.nsid (ranges_field (length d.ranges)) (deallocate_field d.deallocate) 0 0
words_of (commands.Status s) = io ios.IoManagementReceive s.nsid (operation_field s.mo) (numd s.dwords) 0 0
words_of (commands.Update u) = io ios.IoManagementSend u.nsid (operation_field u.mo + identifiers_field (length u.pids)) 0 0 0
words_of (commands.Log l) =
    admin admins.GetLogPage 0 (page_field l.lid + parameter_field l.lsp + numd_low l.dwords) (numd_high l.dwords + log_group_field l.group) (low l.offset) (high l.offset)
words_of (commands.SetFdp s) = admin admins.SetFeatures 0 (feature_field (feature_code features.DataPlacement)) (group_field s.group) (enable_field s.enable + index_field s.index) 0
words_of (commands.GetFdp g) = admin admins.GetFeatures 0 (feature_field (feature_code features.DataPlacement)) (group_field g.group) 0 0
words_of (commands.SetEvents s) = admin admins.SetFeatures s.nsid (feature_field (feature_code features.PlacementEvents)) (handle_field s.handle + types_field (length s.types)) (enable_field s.enable) 0
words_of (commands.Create c) = admin admins.NamespaceManagement 0 0 0 0 0
words_of (commands.Delete d) = admin admins.NamespaceManagement d.nsid 1 0 0 0
words_of (commands.Other o) = record { admin = o.admin; opcode = o.opcode; flags = o.flags; nsid = 0; cdw10 = feature_field o.feature; cdw11 = 0; cdw12 = 0; cdw13 = 0 }

-- the entry with these words, of a command with this identifier
abbrev pub entry_of : Words → ℕ → Sqe
entry_of w cid = record {
  opcode = w.opcode;
  flags = flags_of w.flags;
  cid = cid;
  nsid = w.nsid;
  cdw2 = 0;
  cdw3 = 0;
  mptr = 0;
  dptr = replicate 16 0;
  cdw10 = w.cdw10;
  cdw11 = w.cdw11;
  cdw12 = w.cdw12;
  cdw13 = w.cdw13;
  cdw14 = 0;
  cdw15 = 0;
}

abbrev pub work_of : Command → ℕ → Work
work_of command cid = record { admin = (words_of command).admin; sqe = entry_of (words_of command) cid }

-- the 64 bytes of an entry
abbrev pub entry_bytes : Sqe → List ℕ
entry_bytes entry = frame_of 64 sqe (sqe_numbers entry)
