-- The namespaces of an outline, their handles, and what a placement identifier names by them.
use Rattle.std.specs.Prelude.{ℕ, true, List, [], nat_lt, Option, None, if◌then◌else◌, slice_get, option_map}
use Rattle.std.specs.Option.{option_map_or}
use Rattle.fdp_base.specs.declared.config.DriveConfig.{DriveConfig}
use Rattle.fdp_rules.specs.PlainState.{Namespace}
use Rattle.fdp_rules.specs.Target.{Target, group_of_pid, handle_of_pid}
use Rattle.fdp_snapshot.specs.declared.space.Space.{Space}
use Rattle.fdp_snapshot.specs.declared.state.Summary.{Summary}
use Rattle.fdp_image.specs.Checkpoint.{in_place, namespace_of}

-- the namespace with an identifier
abbrev pub namespace_at : Summary → ℕ → Option Namespace
namespace_at s nsid = option_map namespace_of (in_place s.spaces nsid)

-- the handles of a namespace, none where it is not there
abbrev pub handles_at : Summary → ℕ → List ℕ
handles_at s nsid = option_map_or (λ (x : Space). x.handles) (in_place s.spaces nsid) []

-- a group and a handle as a target that was named
abbrev pub named_target : ℕ × ℕ → Target
named_target x = record { rg = x.0; ruh = x.1; valid = true }

-- what a placement identifier names for a namespace with these handles
abbrev pub named_in : DriveConfig → List ℕ → ℕ → Option Target
named_in c handles pid =
    if nat_lt (group_of_pid c pid) c.groups
    then option_map (λ ruh. named_target (group_of_pid c pid, ruh)) (slice_get handles (handle_of_pid c pid))
    else None
