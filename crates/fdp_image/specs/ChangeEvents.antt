-- The events of a saved change: those that its entry makes.
use Rattle.std.specs.Prelude.{ℕ, ◌+◌, List, [], ◌∷◌, ◌==◌, if◌then◌else◌, slice_index, filter, flat_map, zip}
use Rattle.std.specs.List.{enumerate_from}
use Rattle.std.specs.Option.{option_map_or}
use Rattle.fdp_base.specs.declared.config.DriveConfig.{DriveConfig}
use Rattle.fdp_base.specs.declared.entry.BlockName.{BlockName}
use Rattle.fdp_base.specs.declared.event.Event.{Event}
use Rattle.fdp_base.specs.declared.event.EventKind.TheVariants as kinds
use Rattle.fdp_base.specs.Numbers.{numbers_below}
use Rattle.fdp_rules.specs.Events.{all_valid, handle_event, not_fully_written, reallocated}
use Rattle.fdp_rules.specs.PlainState.{PlainState}
use Rattle.fdp_rules.specs.Room.{handles_in_force, handles_of}
use Rattle.fdp_rules.specs.Sites.{group_of}
use Rattle.fdp_rules.specs.Target.{named_by}
use Rattle.fdp_records.specs.declared.change.Change.{Change}
use Rattle.fdp_records.specs.declared.change.Change.TheVariants as changes
use Rattle.fdp_records.specs.declared.change.UnitPages.{UnitPages}
use Rattle.fdp_image.specs.Bits.{has_bit}
use Rattle.fdp_image.specs.Changed.{page_numbers}
use Rattle.fdp_image.specs.Outline.{outline_before}
use Rattle.fdp_image.specs.Reading.{Reading, blocks_on, group_of_page}

-- a write took effect whose identifier was invalid; the location is where its first block went
abbrev pub invalid_event : DriveConfig → PlainState → ℕ → ℕ → List ℕ → Event
invalid_event c s nsid pid pages = record {
  kind = kinds.InvalidPlacementIdentifier;
  flags = all_valid;
  pid = pid;
  position = s.position + 1;
  nsid = nsid;
  moved = 0;
  lba = 0;
  rg = group_of_page c (slice_index pages 0);
  ruh = slice_index (handles_of s nsid) 0;
}

-- the event of an identifier of an update, where its bit is set: it closed a unit
abbrev pub closed_event : DriveConfig → PlainState → ℕ → ℕ → ℕ × ℕ → List Event
closed_event c s nsid closed x =
    if has_bit closed x.0
    then option_map_or (λ t. not_fully_written s nsid x.1 t ∷ []) (named_by c s nsid x.1) []
    else []

-- the blocks that a move takes along of one handle, in the order of their pages
abbrev pub moved_of_handle : DriveConfig → Reading → UnitPages → List ℕ → ℕ → List BlockName
moved_of_handle c r victim handles ruh =
    flat_map (λ (x : ℕ × ℕ). blocks_on r x.0) (filter (λ (x : ℕ × ℕ). x.1 == ruh) (zip (page_numbers c victim) handles))

-- the events of a change, from the state just before its entry
unfoldable pub events_of_change : DriveConfig → Reading → PlainState → Change → List Event
events_of_change c r s (changes.Write nsid slba pid pid_invalid pages) = if pid_invalid then invalid_event c s nsid pid pages ∷ [] else []
events_of_change c r s (changes.Clear nsid ranges) = []
events_of_change c r s (changes.Update nsid closed pids) = flat_map (closed_event c s nsid closed) (enumerate_from 0 pids)
events_of_change c r s (changes.Create nsid size given handles) = []
events_of_change c r s (changes.Delete nsid) = []
events_of_change c r s (changes.SetFdp enabled index generation) = []
events_of_change c r s (changes.SetEvents ruh on mask) = []
events_of_change c r s (changes.Moved victim first second handles) =
    flat_map (λ ruh. reallocated s (group_of c victim.unit) ruh (moved_of_handle c r victim handles ruh)) (numbers_below (handles_in_force c s))
events_of_change c r s (changes.Shut rg ruh) = handle_event s kinds.ImplicitlyModified rg ruh ∷ []

-- those whose kind is kept for their handle
unfoldable pub kept_of_change : DriveConfig → Reading → ℕ → Change → List Event
kept_of_change c r position change = filter (λ (x : Event). r.reports x.ruh x.kind) (events_of_change c r (outline_before c r position) change)
