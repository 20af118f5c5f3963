-- The kind that an entry asks for, looked up by its codes one after another.
use Rattle.std.specs.Prelude.{ℕ, Bool, ◌==◌, Option, Some, None, if◌then◌else◌}
use Rattle.fdp_base.specs.declared.codes.AdminOpcode.TheVariants as admins
use Rattle.fdp_base.specs.declared.codes.Feature.TheVariants as features
use Rattle.fdp_base.specs.declared.codes.IoOpcode.TheVariants as ios
use Rattle.fdp_base.specs.Codes.{admin_code, feature_code, io_code}
use Rattle.fdp_layouts.specs.declared.submission.Sqe.{Sqe}
use Rattle.fdp_binary.specs.declared.asked.Asked.{Asked}
use Rattle.fdp_binary.specs.declared.asked.Asked.TheVariants as kinds
use Rattle.fdp_binary.specs.Front.{flags_byte}
use Rattle.fdp_binary.specs.Fields.{feature_in, select_in}

abbrev pub io_kind : ℕ → Option Asked
io_kind opcode =
    if opcode == io_code ios.Write then Some kinds.Write
    else (if opcode == io_code ios.Read then Some kinds.Read
    else (if opcode == io_code ios.WriteZeroes then Some kinds.Zero
    else (if opcode == io_code ios.DatasetManagement then Some kinds.Dealloc
    else (if opcode == io_code ios.Flush then Some kinds.Flush
    else (if opcode == io_code ios.IoManagementReceive then Some kinds.Status
    else (if opcode == io_code ios.IoManagementSend then Some kinds.Update
    else None))))))

-- by the feature identifier
abbrev pub set_kind : ℕ → Option Asked
set_kind feature =
    if feature == feature_code features.DataPlacement then Some kinds.SetFdp
    else (if feature == feature_code features.PlacementEvents then Some kinds.SetEvents
    else None)

abbrev pub get_kind : ℕ → Option Asked
get_kind feature = if feature == feature_code features.DataPlacement then Some kinds.GetFdp else None

-- by what Namespace Management selects
abbrev pub management_kind : ℕ → Option Asked
management_kind select =
    if select == 0 then Some kinds.Create
    else (if select == 1 then Some kinds.Delete
    else None)

-- by opcode, feature identifier and selection
abbrev pub admin_kind : ℕ → ℕ → ℕ → Option Asked
admin_kind opcode feature select =
    if opcode == admin_code admins.GetLogPage then Some kinds.Log
    else (if opcode == admin_code admins.SetFeatures then set_kind feature
    else (if opcode == admin_code admins.GetFeatures then get_kind feature
    else (if opcode == admin_code admins.NamespaceManagement then management_kind select
    else None)))

-- by the queue, byte 1, opcode, feature identifier and selection
abbrev pub kind_of : Bool → ℕ → ℕ → ℕ → ℕ → Option Asked
kind_of admin flags opcode feature select =
    if flags == 0 then (if admin then admin_kind opcode feature select else io_kind opcode) else None

abbrev pub kind_in : Bool → Sqe → Option Asked
kind_in admin e = kind_of admin (flags_byte e.flags) e.opcode (feature_in e) (select_in e)
