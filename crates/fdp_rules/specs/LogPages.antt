-- The bytes of the log pages and of the reclaim unit handle status; numbers stand low byte first.
use Rattle.std.specs.Prelude.{ℕ, ◌+◌, ◌-◌, ◌*◌, ◌/◌, ◌%◌, Bool, false, ◌&&◌, List, [], ◌∷◌, ◌++◌, length, take, drop, replicate, ◌==◌, if◌then◌else◌, flat_map}
use Rattle.std.specs.Int.{to_le_bytes, w16, w32, w64, w128}
use Rattle.std.specs.List.{list_any, enumerate_from}
use Rattle.std.specs.Option.{option_map_or}
use Rattle.fdp_base.specs.declared.config.Class.{Class}
use Rattle.fdp_base.specs.declared.config.DriveConfig.{DriveConfig}
use Rattle.fdp_base.specs.declared.entry.Totals.{Totals}
use Rattle.fdp_base.specs.declared.event.Event.{Event}
use Rattle.fdp_base.specs.EventCodes.{flags_code, kind_code}
use Rattle.fdp_base.specs.Numbers.{numbers_below}
use Rattle.fdp_base.specs.Placement.{group_bits}
use Rattle.fdp_base.specs.Codes.{class_code, log_code}
use Rattle.fdp_base.specs.declared.codes.LogPage.TheVariants as logs
use Rattle.fdp_base.specs.declared.event.EventKind.TheVariants as kinds
use Rattle.fdp_base.specs.declared.limits.TheConstants.{MOST_NAMESPACES, MOST_PIDS}
use Rattle.fdp_rules.specs.PlainState.{PlainState}
use Rattle.fdp_rules.specs.Point.{Point}
use Rattle.fdp_rules.specs.Room.{namespace_ids, handles_of, handles_in_force}
use Rattle.fdp_rules.specs.Target.{pid_of}

abbrev pub zeros : ℕ → List ℕ
zeros count = replicate count 0

-- the size of a configuration descriptor: 64 bytes and 4 for each handle, rounded up to a multiple of 8
abbrev pub descriptor_size : ℕ → ℕ
descriptor_size handles = (64 + 4 * handles + 7) / 8 * 8

-- a configuration: its size; the bits of a group and the valid bit; no vendor bytes; groups; handles; placement
-- identifiers of an update, from 0 on; namespaces; bytes of a unit; no time limit; the class of each handle
abbrev pub descriptor : DriveConfig → List Class → List ℕ
descriptor c handles =
    to_le_bytes w16 (descriptor_size (length handles)) ++ (128 + group_bits c.groups) ∷ 0 ∷ []
    ++ to_le_bytes w32 c.groups ++ to_le_bytes w16 (length handles) ++ to_le_bytes w16 (MOST_PIDS - 1) ++ to_le_bytes w32 MOST_NAMESPACES
    ++ to_le_bytes w64 (c.unit_pages * c.block) ++ to_le_bytes w32 0 ++ zeros 36
    ++ flat_map (λ class. class_code class ∷ zeros 3) handles
    ++ zeros (descriptor_size (length handles) - (64 + 4 * length handles))

-- log 20h: how many configurations, from 0 on; version 0; the size of the log; each configuration
abbrev pub configurations_log : DriveConfig → List ℕ
configurations_log c =
    to_le_bytes w16 (length c.fdp - 1) ++ zeros 2 ++ to_le_bytes w32 (16 + length (flat_map (descriptor c) c.fdp)) ++ zeros 8
    ++ flat_map (descriptor c) c.fdp

-- a namespace lists this handle
abbrev pub lists_handle : PlainState → ℕ → ℕ → Bool
lists_handle s ruh nsid = list_any (λ x. x == ruh) (handles_of s nsid)

-- a namespace lists this handle, and the host gave that list
abbrev pub gives_handle : PlainState → ℕ → ℕ → Bool
gives_handle s ruh nsid = option_map_or (λ x. x.given) (s.namespaces nsid) false && lists_handle s ruh nsid

-- 1: a host specified the handle; 2: the controller did; 0: no namespace uses it
abbrev pub usage_of : PlainState → ℕ → ℕ
usage_of s ruh =
    if list_any (gives_handle s ruh) namespace_ids then 1
    else if list_any (lists_handle s ruh) namespace_ids then 2
    else 0

-- log 21h: how many handles; the usage of each
abbrev pub usage_log : DriveConfig → PlainState → List ℕ
usage_log c s =
    to_le_bytes w16 (handles_in_force c s) ++ zeros 6
    ++ flat_map (λ ruh. usage_of s ruh ∷ zeros 7) (numbers_below (handles_in_force c s))

-- log 22h: bytes that hosts wrote, bytes that were programmed, bytes that were erased
abbrev pub statistics_log : DriveConfig → Totals → List ℕ
statistics_log c t =
    to_le_bytes w128 (c.block * t.host_blocks) ++ to_le_bytes w128 (c.block * t.media_blocks)
    ++ to_le_bytes w128 (c.block * c.unit_pages * t.erases) ++ zeros 16

-- the bytes of an event's own: of reallocated media that its address is valid, how many blocks, and the address
abbrev pub specific_bytes : Event → List ℕ
specific_bytes e =
    if kind_code e.kind == kind_code kinds.MediaReallocated
    then 1 ∷ 0 ∷ to_le_bytes w16 e.moved ++ to_le_bytes w64 e.lba ++ zeros 4
    else zeros 16

-- an event: kind; flags; placement identifier; its position in place of a time; namespace; its own bytes; group; handle
abbrev pub event_bytes : Event → List ℕ
event_bytes e =
    kind_code e.kind ∷ flags_code e.flags ∷ to_le_bytes w16 e.pid ++ to_le_bytes w64 e.position ++ to_le_bytes w32 e.nsid
    ++ specific_bytes e ++ to_le_bytes w16 e.rg ++ e.ruh ∷ zeros 29

-- log 23h: how many events; each, oldest first
abbrev pub events_log : List Event → List ℕ
events_log es = to_le_bytes w32 (length es) ++ zeros 60 ++ flat_map event_bytes es

-- the log page of an identifier; bit 0 of the log specific parameter asks for the events of hosts
abbrev pub log_page : DriveConfig → Point → ℕ → ℕ → List ℕ
log_page c p lid lsp =
    if lid == log_code logs.Configurations then configurations_log c
    else if lid == log_code logs.HandleUsage then usage_log c p.state
    else if lid == log_code logs.Statistics then statistics_log c p.totals
    else events_log (if lsp % 2 == 1 then p.host_events else p.controller_events)

-- a placement handle in a group: its identifier; its reclaim unit handle; no time; how many blocks may still be written
abbrev pub status_descriptor : DriveConfig → PlainState → ℕ → ℕ → ℕ → List ℕ
status_descriptor c s handle ruh rg =
    to_le_bytes w16 (pid_of c rg handle) ++ to_le_bytes w16 ruh ++ zeros 4 ++ to_le_bytes w64 (s.references rg ruh).left ++ zeros 16

-- the reclaim unit handle status of a namespace: how many descriptors; for each placement handle, for each group, one
abbrev pub handle_status : DriveConfig → PlainState → ℕ → List ℕ
handle_status c s nsid =
    zeros 14 ++ to_le_bytes w16 (length (handles_of s nsid) * c.groups)
    ++ flat_map (λ (x : ℕ × ℕ). flat_map (status_descriptor c s x.0 x.1) (numbers_below c.groups)) (enumerate_from 0 (handles_of s nsid))

-- a transfer of so many dwords from an offset on; bytes past the end are zero
abbrev pub transfer_of : ℕ → ℕ → List ℕ → List ℕ
transfer_of offset dwords bytes = take (4 * dwords) (drop offset bytes ++ zeros (4 * dwords))
