-- What kind of command an entry asks for, and how many bytes of data it has.
use Rattle.std.specs.Prelude.{◌≡◌, ℕ, ◌*◌, Bool, true, false, Option, Some, None, MatchOption}
use Rattle.fdp_base.specs.declared.codes.AdminOpcode.{AdminOpcode}
use Rattle.fdp_base.specs.declared.codes.AdminOpcode.TheVariants as admins
use Rattle.fdp_base.specs.declared.codes.Feature.TheVariants as features
use Rattle.fdp_base.specs.declared.codes.IoOpcode.{IoOpcode}
use Rattle.fdp_base.specs.declared.codes.IoOpcode.TheVariants as ios
use Rattle.fdp_base.specs.Codes.{admin_code, feature_code, io_code}
use Rattle.fdp_layouts.specs.declared.submission.Sqe.{Sqe}
use Rattle.fdp_binary.specs.declared.asked.Asked.{Asked}
use Rattle.fdp_binary.specs.declared.asked.Asked.TheVariants as kinds
use Rattle.fdp_binary.specs.Front.{flags_byte}
use Rattle.fdp_binary.specs.Fields.{blocks_in, feature_in, pids_in, ranges_in, select_in, types_in}

-- an entry of an I/O queue with this opcode; neither FUSE nor PSDT is set
abbrev pub IsIo : Bool → Sqe → IoOpcode → Type 0
IsIo admin e opcode = (admin ≡ false) × (flags_byte e.flags ≡ 0) × (e.opcode ≡ io_code opcode)

-- an entry of the admin queue with this opcode; neither FUSE nor PSDT is set
abbrev pub IsAdmin : Bool → Sqe → AdminOpcode → Type 0
IsAdmin admin e opcode = (admin ≡ true) × (flags_byte e.flags ≡ 0) × (e.opcode ≡ admin_code opcode)

-- the entry asks for a command of this kind
abbrev pub Asks : Bool → Sqe → Asked → Type 0
Asks admin e kinds.Write = IsIo admin e ios.Write
Asks admin e kinds.Read = IsIo admin e ios.Read
Asks admin e kinds.Zero = IsIo admin e ios.WriteZeroes
Asks admin e kinds.Dealloc = IsIo admin e ios.DatasetManagement
Asks admin e kinds.Flush = IsIo admin e ios.Flush
Asks admin e kinds.Status = IsIo admin e ios.IoManagementReceive
Asks admin e kinds.Update = IsIo admin e ios.IoManagementSend
Asks admin e kinds.Log = IsAdmin admin e admins.GetLogPage
Asks admin e kinds.SetFdp = IsAdmin admin e admins.SetFeatures × (feature_in e ≡ feature_code features.DataPlacement)
Asks admin e kinds.GetFdp = IsAdmin admin e admins.GetFeatures × (feature_in e ≡ feature_code features.DataPlacement)
Asks admin e kinds.SetEvents = IsAdmin admin e admins.SetFeatures × (feature_in e ≡ feature_code features.PlacementEvents)
Asks admin e kinds.Create = IsAdmin admin e admins.NamespaceManagement × (select_in e ≡ 0)
Asks admin e kinds.Delete = IsAdmin admin e admins.NamespaceManagement × (select_in e ≡ 1)

-- this is the kind that the entry asks for; or it asks for none that the drive serves
abbrev pub IsAsked : Bool → Sqe → Option Asked → Type 0
IsAsked admin e asked = MatchOption asked ((kind : Asked) → Asks admin e kind → ⊥) (λ kind. Asks admin e kind)

-- how many bytes of data such an entry has
abbrev pub data_in : ℕ → Option Asked → Sqe → ℕ
data_in block None e = 0
data_in block (Some kinds.Write) e = blocks_in e * block
data_in block (Some kinds.Read) e = 0
data_in block (Some kinds.Zero) e = 0
data_in block (Some kinds.Dealloc) e = 16 * ranges_in e
data_in block (Some kinds.Flush) e = 0
data_in block (Some kinds.Status) e = 0
data_in block (Some kinds.Update) e = 2 * pids_in e
data_in block (Some kinds.Log) e = 0
data_in block (Some kinds.SetFdp) e = 0
data_in block (Some kinds.GetFdp) e = 0
data_in block (Some kinds.SetEvents) e = types_in e
data_in block (Some kinds.Create) e = 0
data_in block (Some kinds.Delete) e = 0

-- how many blocks such an entry reads
abbrev pub reads_in : Option Asked → Sqe → ℕ
reads_in None e = 0
reads_in (Some kinds.Write) e = 0
reads_in (Some kinds.Read) e = blocks_in e
reads_in (Some kinds.Zero) e = 0
reads_in (Some kinds.Dealloc) e = 0
reads_in (Some kinds.Flush) e = 0
reads_in (Some kinds.Status) e = 0
reads_in (Some kinds.Update) e = 0
reads_in (Some kinds.Log) e = 0
reads_in (Some kinds.SetFdp) e = 0
reads_in (Some kinds.GetFdp) e = 0
reads_in (Some kinds.SetEvents) e = 0
reads_in (Some kinds.Create) e = 0
reads_in (Some kinds.Delete) e = 0
