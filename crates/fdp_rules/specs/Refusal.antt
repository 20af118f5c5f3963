-- Why a command is refused: the checks of each command in their order, of which the first that holds is the answer.
use Rattle.std.specs.Prelude.{ℕ, ◌+◌, ◌%◌, Bool, true, not, ◌&&◌, ◌||◌, List, [], ◌∷◌, length, ◌==◌, nat_lt, nat_le, is_some, is_none, Option, Some, None, if◌then◌else◌, sum_by}
use Rattle.std.specs.List.{list_any, list_all}
use Rattle.fdp_base.specs.declared.command.Command.{Command}
use Rattle.fdp_base.specs.declared.command.Command.TheVariants as commands
use Rattle.fdp_base.specs.declared.command.Range.{Range}
use Rattle.fdp_base.specs.declared.config.DriveConfig.{DriveConfig}
use Rattle.fdp_base.specs.declared.status.Status.{Status}
use Rattle.fdp_base.specs.declared.status.TheConstants.Status as statuses
use Rattle.fdp_base.specs.CommandKinds.{pid_of}
use Rattle.fdp_rules.specs.LogPages.{log_page}
use Rattle.fdp_base.specs.Numbers.{has_repeat, numbers_below}
use Rattle.fdp_base.specs.Codes.{admin_code, admin_opcodes, io_code, io_opcodes, is_directive, is_placement, log_code, log_named, receive_code, send_code}
use Rattle.fdp_base.specs.EventCodes.{event_kinds, kind_code}
use Rattle.fdp_base.specs.declared.codes.LogPage.TheVariants as logs
use Rattle.fdp_base.specs.declared.codes.ReceiveOperation.TheVariants as receives
use Rattle.fdp_base.specs.declared.codes.SendOperation.TheVariants as sends
use Rattle.fdp_base.specs.declared.limits.TheConstants.{MOST_DWORDS, MOST_HANDLES, MOST_PIDS, MOST_RANGES}
use Rattle.fdp_rules.specs.PlainState.{PlainState}
use Rattle.fdp_rules.specs.Point.{Point}
use Rattle.fdp_rules.specs.Room.{budget, handles_in_force, handles_of, is_over_budget, namespace_ids, roomiest, size_of}
use Rattle.fdp_rules.specs.Target.{named_by, target_of}

-- a check, and the status of a command of which it holds
pub record Check : Type 0 where
  pub holds : Bool
  pub status : Status

infix 3 ◌⟶◌
abbrev pub ◌⟶◌ : Bool → Status → Check
holds ⟶ status = record { holds = holds; status = status }

-- the status of the first check that holds
abbrev pub first_that_holds : List Check → Option Status
first_that_holds [] = None
first_that_holds (x ∷ xs) = if x.holds then Some x.status else first_that_holds xs

-- the namespace is not there
abbrev pub is_absent : PlainState → ℕ → Bool
is_absent s nsid = is_none (s.namespaces nsid)

-- the namespace is there
abbrev pub is_present : PlainState → ℕ → Bool
is_present s nsid = is_some (s.namespaces nsid)

-- blocks reach past the end of a namespace
abbrev pub is_past_end : PlainState → ℕ → ℕ → ℕ → Bool
is_past_end s nsid slba count = nat_lt (size_of s nsid) (slba + count)

-- a range reaches past the end of a namespace; one without blocks does not
abbrev pub is_range_past_end : PlainState → ℕ → Range → Bool
is_range_past_end s nsid range = nat_lt 0 range.length && is_past_end s nsid range.slba range.length

-- a write does not fit into the room of the group where it goes
abbrev pub has_no_room : DriveConfig → PlainState → ℕ → ℕ → ℕ → Option ℕ → Bool
has_no_room c s nsid slba count pid = is_over_budget c s (target_of c s (roomiest c s) nsid pid).rg nsid slba count

abbrev pub is_event_type : ℕ → Bool
is_event_type code = list_any (λ x. kind_code x == code) event_kinds

-- a namespace of this size more exceeds the budgets of all groups
abbrev pub exceeds_capacity : DriveConfig → PlainState → ℕ → Bool
exceeds_capacity c s size = nat_lt (sum_by (budget c s) (numbers_below c.groups)) (sum_by (size_of s) namespace_ids + size)

-- the opcode of a command that is served
abbrev pub is_served_opcode : Bool → ℕ → Bool
is_served_opcode admin opcode =
    if admin
    then list_any (λ x. admin_code x == opcode) admin_opcodes
    else list_any (λ x. io_code x == opcode) io_opcodes

-- the checks of a read or a zeroing
abbrev pub block_checks : DriveConfig → PlainState → ℕ → ℕ → ℕ → List Check
block_checks c s nsid slba count =
    (is_absent s nsid ⟶ statuses.INVALID_NAMESPACE)
    ∷ (nat_lt c.blocks_per_command count ⟶ statuses.INVALID_FIELD)
    ∷ (is_past_end s nsid slba count ⟶ statuses.LBA_OUT_OF_RANGE)
    ∷ []

-- the checks of a command, in their order
unfoldable pub checks_of : DriveConfig → Point → Command → List Check
checks_of c p (commands.Write w) =
    (is_absent p.state w.nsid ⟶ statuses.INVALID_NAMESPACE)
    ∷ (nat_lt c.blocks_per_command w.count || not (is_directive w.dtype) || (is_placement w.dtype && not p.state.enabled) ⟶ statuses.INVALID_FIELD)
    ∷ (is_past_end p.state w.nsid w.slba w.count ⟶ statuses.LBA_OUT_OF_RANGE)
    ∷ (has_no_room c p.state w.nsid w.slba w.count (pid_of w) ⟶ statuses.CAPACITY_EXCEEDED)
    ∷ []
checks_of c p (commands.Read r) = block_checks c p.state r.nsid r.slba r.count
checks_of c p (commands.Zero z) = block_checks c p.state z.nsid z.slba z.count
checks_of c p (commands.Dealloc d) =
    (is_absent p.state d.nsid ⟶ statuses.INVALID_NAMESPACE)
    ∷ (nat_lt MOST_RANGES (length d.ranges) ⟶ statuses.INVALID_FIELD)
    ∷ (list_any (is_range_past_end p.state d.nsid) d.ranges ⟶ statuses.LBA_OUT_OF_RANGE)
    ∷ []
checks_of c p (commands.Flush f) = (is_absent p.state f.nsid && not (f.nsid == 0xffff_ffff) ⟶ statuses.INVALID_NAMESPACE) ∷ []
checks_of c p (commands.Delete d) = (is_absent p.state d.nsid ⟶ statuses.INVALID_NAMESPACE) ∷ []
checks_of c p (commands.Status s) =
    (is_absent p.state s.nsid ⟶ statuses.INVALID_NAMESPACE)
    ∷ (not (s.mo == receive_code receives.HandleStatus) || nat_lt MOST_DWORDS s.dwords ⟶ statuses.INVALID_FIELD)
    ∷ (not p.state.enabled ⟶ statuses.FDP_DISABLED)
    ∷ []
checks_of c p (commands.Update u) =
    (is_absent p.state u.nsid ⟶ statuses.INVALID_NAMESPACE)
    ∷ (not (u.mo == send_code sends.HandleUpdate) || nat_lt MOST_PIDS (length u.pids) ⟶ statuses.INVALID_FIELD)
    ∷ (not p.state.enabled ⟶ statuses.FDP_DISABLED)
    ∷ (list_any (λ pid. is_none (named_by c p.state u.nsid pid)) u.pids ⟶ statuses.INVALID_FIELD)
    ∷ []
checks_of c p (commands.Log l) =
    (is_none (log_named l.lid) ⟶ statuses.INVALID_LOG_PAGE)
    ∷ (not (l.group == 1) || nat_lt MOST_DWORDS l.dwords || not (l.offset % 4 == 0) ⟶ statuses.INVALID_FIELD)
    ∷ (not (l.lid == log_code logs.Configurations) && not p.state.enabled ⟶ statuses.FDP_DISABLED)
    ∷ (nat_lt (length (log_page c p l.lid l.lsp)) l.offset ⟶ statuses.INVALID_FIELD)
    ∷ []
checks_of c p (commands.SetFdp s) =
    (not (s.group == 1) || nat_le (length c.fdp) s.index ⟶ statuses.INVALID_FIELD)
    ∷ (list_any (is_present p.state) namespace_ids ⟶ statuses.COMMAND_SEQUENCE_ERROR)
    ∷ []
checks_of c p (commands.GetFdp g) = (not (g.group == 1) ⟶ statuses.INVALID_FIELD) ∷ []
checks_of c p (commands.SetEvents s) =
    (is_absent p.state s.nsid ⟶ statuses.INVALID_NAMESPACE)
    ∷ (not p.state.enabled ⟶ statuses.FDP_DISABLED)
    ∷ (nat_le (length (handles_of p.state s.nsid)) s.handle || not (list_all is_event_type s.types) ⟶ statuses.INVALID_FIELD)
    ∷ []
checks_of c p (commands.Create create) =
    (create.size == 0 || (create.given && nat_lt 0 (length create.list) && not p.state.enabled) ⟶ statuses.INVALID_FIELD)
    ∷ (list_any (nat_le (handles_in_force c p.state)) create.list || has_repeat create.list || nat_lt MOST_HANDLES (length create.list) ⟶ statuses.INVALID_PLACEMENT_HANDLE_LIST)
    ∷ (list_all (is_present p.state) namespace_ids ⟶ statuses.IDENTIFIER_UNAVAILABLE)
    ∷ (exceeds_capacity c p.state create.size ⟶ statuses.INSUFFICIENT_CAPACITY)
    ∷ []
checks_of c p (commands.Other o) =
    (not (is_served_opcode o.admin o.opcode) ⟶ statuses.INVALID_OPCODE)
    ∷ (true ⟶ statuses.INVALID_FIELD)
    ∷ []

-- the status with which a command is refused, if it is
unfoldable pub refusal_of : DriveConfig → Point → Command → Option Status
refusal_of c p command = first_that_holds (checks_of c p command)
