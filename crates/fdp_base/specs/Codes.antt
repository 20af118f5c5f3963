-- The codes of the public standard, by their names.
use Rattle.std.specs.Prelude.{ℕ, ◌==◌, ◌||◌, Bool, List, [], ◌∷◌, Option, find}
use Rattle.fdp_base.specs.declared.codes.AdminOpcode.{AdminOpcode}
use Rattle.fdp_base.specs.declared.codes.AdminOpcode.TheVariants as admins
use Rattle.fdp_base.specs.declared.codes.Directive.{Directive}
use Rattle.fdp_base.specs.declared.codes.Directive.TheVariants as directives
use Rattle.fdp_base.specs.declared.codes.Feature.{Feature}
use Rattle.fdp_base.specs.declared.codes.Feature.TheVariants as features
use Rattle.fdp_base.specs.declared.codes.IoOpcode.{IoOpcode}
use Rattle.fdp_base.specs.declared.codes.IoOpcode.TheVariants as ios
use Rattle.fdp_base.specs.declared.codes.LogPage.{LogPage}
use Rattle.fdp_base.specs.declared.codes.LogPage.TheVariants as logs
use Rattle.fdp_base.specs.declared.codes.ReceiveOperation.{ReceiveOperation}
use Rattle.fdp_base.specs.declared.codes.ReceiveOperation.TheVariants as receives
use Rattle.fdp_base.specs.declared.codes.SendOperation.{SendOperation}
use Rattle.fdp_base.specs.declared.codes.SendOperation.TheVariants as sends
use Rattle.fdp_base.specs.declared.config.Class.{Class}
use Rattle.fdp_base.specs.declared.config.Class.TheVariants as classes

-- opcodes of I/O commands
abbrev pub io_code : IoOpcode → ℕ
io_code ios.Flush = 0x00
io_code ios.Write = 0x01
io_code ios.Read = 0x02
io_code ios.WriteZeroes = 0x08
io_code ios.DatasetManagement = 0x09
io_code ios.IoManagementReceive = 0x12
io_code ios.IoManagementSend = 0x1d

-- the I/O commands that the drive serves
abbrev pub io_opcodes : List IoOpcode
io_opcodes = ios.Flush ∷ ios.Write ∷ ios.Read ∷ ios.WriteZeroes ∷ ios.DatasetManagement ∷ ios.IoManagementReceive ∷ ios.IoManagementSend ∷ []

-- opcodes of admin commands
abbrev pub admin_code : AdminOpcode → ℕ
admin_code admins.GetLogPage = 0x02
admin_code admins.SetFeatures = 0x09
admin_code admins.GetFeatures = 0x0a
admin_code admins.NamespaceManagement = 0x0d

-- the admin commands that the drive serves
abbrev pub admin_opcodes : List AdminOpcode
admin_opcodes = admins.GetLogPage ∷ admins.SetFeatures ∷ admins.GetFeatures ∷ admins.NamespaceManagement ∷ []

-- feature identifiers
abbrev pub feature_code : Feature → ℕ
feature_code features.DataPlacement = 0x1d
feature_code features.PlacementEvents = 0x1e

-- log page identifiers
abbrev pub log_code : LogPage → ℕ
log_code logs.Configurations = 0x20
log_code logs.HandleUsage = 0x21
log_code logs.Statistics = 0x22
log_code logs.Events = 0x23

abbrev pub log_pages : List LogPage
log_pages = logs.Configurations ∷ logs.HandleUsage ∷ logs.Statistics ∷ logs.Events ∷ []

-- the log page with this identifier, if the drive has it
abbrev pub log_named : ℕ → Option LogPage
log_named lid = find (λ page. log_code page == lid) log_pages

-- reclaim unit handle types (Base Specification 2.1, "Reclaim Unit Handle Types")
abbrev pub class_code : Class → ℕ
class_code classes.Initial = 1
class_code classes.Persistent = 2

-- management operations of I/O Management Receive
abbrev pub receive_code : ReceiveOperation → ℕ
receive_code receives.NoAction = 0x00
receive_code receives.HandleStatus = 0x01

-- management operations of I/O Management Send
abbrev pub send_code : SendOperation → ℕ
send_code sends.NoAction = 0x00
send_code sends.HandleUpdate = 0x01

-- directive types
abbrev pub directive_code : Directive → ℕ
directive_code directives.Absent = 0x00
directive_code directives.DataPlacement = 0x02

-- a directive type that a write may name
abbrev pub is_directive : ℕ → Bool
is_directive dtype = dtype == directive_code directives.Absent || dtype == directive_code directives.DataPlacement

-- the directive type of Data Placement
abbrev pub is_placement : ℕ → Bool
is_placement dtype = dtype == directive_code directives.DataPlacement
