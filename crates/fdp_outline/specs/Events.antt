-- The events of an outline, and those that an entry adds to them.
use Rattle.std.specs.Prelude.{◌≡◌, ℕ, ◌==◌, ◌++◌, List, filter, map, not}
use Rattle.fdp_base.specs.declared.config.DriveConfig.{DriveConfig}
use Rattle.fdp_base.specs.declared.entry.BlockName.{BlockName}
use Rattle.fdp_base.specs.declared.event.Event.{Event}
use Rattle.fdp_records.specs.declared.change.Change.{Change}
use Rattle.fdp_records.specs.declared.change.Change.TheVariants as changes
use Rattle.fdp_rules.specs.Events.{is_host_event, latest}
use Rattle.fdp_snapshot.specs.declared.state.Summary.{Summary}
use Rattle.fdp_image.specs.ChangeEvents.{moved_of_handle}
use Rattle.fdp_image.specs.Checkpoint.{reports_in}
use Rattle.fdp_image.specs.Reading.{Reading}
use Rattle.fdp_outline.specs.declared.moved_block.MovedBlock.{MovedBlock}

-- those whose kind is kept for their handle
abbrev pub kept_by : Summary → List Event → List Event
kept_by s es = filter (λ (x : Event). reports_in s.masks x.ruh x.kind) es

-- the outline with these events more: the latest 32 of each class
unfoldable pub with_kept : Summary → List Event → Summary
with_kept s kept = record s {
  host_events = latest (s.host_events ++ filter is_host_event kept);
  controller_events = latest (s.controller_events ++ filter (λ e. not (is_host_event e)) kept);
}

-- the outline with those of these events more whose kind is kept for their handle
abbrev pub with_events : Summary → List Event → Summary
with_events s es = with_kept s (kept_by s es)

-- a reading is another one with these events more, those that are kept, and with other totals and pages
pub record AddsEvents (old : Reading) (es : List Event) (new : Reading) : Type 0 where
  pub same : new ≡ record old {
    totals = new.totals;
    pages = new.pages;
    host_events = latest (old.host_events ++ filter is_host_event (filter (λ (x : Event). old.reports x.ruh x.kind) es));
    controller_events = latest (old.controller_events ++ filter (λ e. not (is_host_event e)) (filter (λ (x : Event). old.reports x.ruh x.kind) es));
  }

-- the names of the moved blocks of a handle
abbrev pub names_of_handle : List MovedBlock → ℕ → List BlockName
names_of_handle blocks ruh = map (λ (x : MovedBlock). x.name) (filter (λ (x : MovedBlock). x.ruh == ruh) blocks)

-- the blocks that a move takes along are listed, those of each handle in the order of their pages; of other changes nothing is asked
abbrev pub ListsMoved : DriveConfig → Reading → Change → List MovedBlock → Type 0
ListsMoved c r (changes.Write nsid slba pid pid_invalid pages) blocks = Unit {0}
ListsMoved c r (changes.Clear nsid ranges) blocks = Unit {0}
ListsMoved c r (changes.Update nsid closed pids) blocks = Unit {0}
ListsMoved c r (changes.Create nsid size given handles) blocks = Unit {0}
ListsMoved c r (changes.Delete nsid) blocks = Unit {0}
ListsMoved c r (changes.SetFdp enabled index generation) blocks = Unit {0}
ListsMoved c r (changes.SetEvents ruh on mask) blocks = Unit {0}
ListsMoved c r (changes.Moved victim first second handles) blocks = (ruh : ℕ) → names_of_handle blocks ruh ≡ moved_of_handle c r victim handles ruh
ListsMoved c r (changes.Shut rg ruh) blocks = Unit {0}
