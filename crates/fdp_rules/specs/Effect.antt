-- What a command changes where its change is made.
use Rattle.std.specs.Prelude.{ℕ, ◌+◌, ◌-◌, Bool, true, false, ◌&&◌, List, [], ◌∷◌, length, ◌==◌, nat_lt, Option, Some, None, if◌then◌else◌, slice_index, unwrap_or, find, fold, option_map}
use Rattle.std.specs.List.{list_any}
use Rattle.std.specs.Option.{option_map_or}
use Rattle.fdp_base.specs.declared.command.Command.{Command}
use Rattle.fdp_base.specs.declared.command.Command.TheVariants as commands
use Rattle.fdp_base.specs.declared.command.Range.{Range}
use Rattle.fdp_base.specs.declared.config.DriveConfig.{DriveConfig}
use Rattle.fdp_base.specs.declared.payload.Payload.{Payload}
use Rattle.fdp_base.specs.EventCodes.{kind_code}
use Rattle.fdp_base.specs.Numbers.{is_among, with_at}
use Rattle.fdp_base.specs.Pattern.{payload_block}
use Rattle.fdp_rules.specs.PlainState.{Block, Going, Namespace, PageName.written, PlainState, Reference}
use Rattle.fdp_rules.specs.Refusal.{is_absent}
use Rattle.fdp_rules.specs.Room.{handles_of, namespace_ids}
use Rattle.fdp_rules.specs.Target.{Target, named_by}

-- a handle without a unit; a whole one may be written
abbrev pub no_reference : DriveConfig → Reference
no_reference c = record { unit = None; left = c.unit_pages }

-- what the handles of each group reference
abbrev pub References : Type 0
References = ℕ → ℕ → Reference

-- the references with another one for a handle of a group
abbrev pub with_reference : References → ℕ → ℕ → Reference → References
with_reference references rg ruh x = with_at references rg (with_at (references rg) ruh x)

-- some of a unit is written, and not all
abbrev pub is_partly_written : DriveConfig → Reference → Bool
is_partly_written c x = nat_lt 0 x.left && nat_lt x.left c.unit_pages

-- an update of a handle closes its unit where that is partly written
abbrev pub updated_at : DriveConfig → References → Target → References
updated_at c references t =
    if is_partly_written c (references t.rg t.ruh) then with_reference references t.rg t.ruh (no_reference c) else references

-- an update of the handle that a placement identifier names
abbrev pub updated_by : DriveConfig → PlainState → ℕ → References → ℕ → References
updated_by c s nsid references pid = option_map_or (updated_at c references) (named_by c s nsid pid) references

-- the block that a going write puts at an address
abbrev pub block_of_write : DriveConfig → ℕ → Payload → ℕ → Going → Block
block_of_write c slba payload lba g = record {
  bytes = payload_block c.block payload (lba - slba);
  rg = g.rg;
  ruh = g.ruh;
  page = written g.ticket (lba - slba);
}

-- the blocks of a going write stand in the namespace
abbrev pub with_blocks : DriveConfig → PlainState → Option Going → ℕ → ℕ → ℕ → Payload → PlainState
with_blocks c s going nsid slba count payload = record s {
  blocks = λ n lba. if n == nsid && is_among slba count lba then option_map (block_of_write c slba payload lba) going else s.blocks n lba;
}

-- the blocks of a namespace whose addresses pass a test become absent
abbrev pub without_blocks : PlainState → ℕ → (ℕ → Bool) → PlainState
without_blocks s nsid test = record s { blocks = λ n lba. if n == nsid && test lba then None else s.blocks n lba }

-- an address lies in a range of the list
abbrev pub is_in_ranges : List Range → ℕ → Bool
is_in_ranges ranges lba = list_any (λ (r : Range). is_among r.slba r.length lba) ranges

-- the lowest identifier that no namespace has
abbrev pub lowest_free : PlainState → Option ℕ
lowest_free s = find (is_absent s) namespace_ids

-- the handles of a created namespace: those listed, or handle 0 where none is
abbrev pub chosen_handles : List ℕ → List ℕ
chosen_handles [] = 0 ∷ []
chosen_handles (x ∷ xs) = x ∷ xs

-- a created namespace; an empty list counts as none
abbrev pub created : PlainState → ℕ → Bool → List ℕ → Namespace
created s size given list = record {
  size = size;
  handles = chosen_handles list;
  given = given && nat_lt 0 (length list);
  birth = s.position + 1;
}

-- no handle references a unit
abbrev pub without_references : DriveConfig → PlainState → PlainState
without_references c s = record s { references = λ rg ruh. no_reference c }

-- the event kinds of these types are kept for a handle, or no longer
abbrev pub reporting : PlainState → ℕ → Bool → List ℕ → PlainState
reporting s handle enable types = record s {
  reports = λ ruh kind. if ruh == handle && list_any (λ code. code == kind_code kind) types then enable else s.reports ruh kind;
}

-- the change of a command of a queue
unfoldable pub effect_of : DriveConfig → PlainState → ℕ → Command → PlainState
effect_of c s queue (commands.Write w) = with_blocks c s (s.going queue) w.nsid w.slba w.count w.payload
effect_of c s queue (commands.Read r) = s
effect_of c s queue (commands.Zero z) = without_blocks s z.nsid (is_among z.slba z.count)
effect_of c s queue (commands.Dealloc d) = without_blocks s d.nsid (λ lba. d.deallocate && is_in_ranges d.ranges lba)
effect_of c s queue (commands.Flush f) = s
effect_of c s queue (commands.Delete d) = without_blocks (record s { namespaces = with_at s.namespaces d.nsid None }) d.nsid (λ lba. true)
effect_of c s queue (commands.Status status) = s
effect_of c s queue (commands.Update u) = record s { references = fold (updated_by c s u.nsid) s.references u.pids }
effect_of c s queue (commands.Log l) = s
effect_of c s queue (commands.SetFdp set) = without_references c (record s {
  enabled = set.enable;
  index = set.index;
  generation = s.generation + 1;
  reports = λ ruh kind. false;
})
effect_of c s queue (commands.GetFdp g) = s
effect_of c s queue (commands.SetEvents set) = reporting s (slice_index (handles_of s set.nsid) set.handle) set.enable set.types
effect_of c s queue (commands.Create create) = record s {
  namespaces = with_at s.namespaces (unwrap_or (lowest_free s) 0) (Some (created s create.size create.given create.list));
}
effect_of c s queue (commands.Other o) = s
