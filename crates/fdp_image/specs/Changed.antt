-- What a saved change makes of the pages of the blocks, and of the rest of what an image says.
use Rattle.std.specs.Prelude.{ℕ, ◌+◌, ◌-◌, ◌*◌, Bool, false, ◌&&◌, List, ◌++◌, length, map, ◌==◌, Option, Some, None, if◌then◌else◌, slice_get, find, zip, option_map}
use Rattle.std.specs.Option.{option_map_or}
use Rattle.fdp_base.specs.declared.config.DriveConfig.{DriveConfig}
use Rattle.fdp_base.specs.declared.event.EventKind.{EventKind}
use Rattle.fdp_base.specs.Numbers.{is_among, with_at}
use Rattle.fdp_rules.specs.Effect.{is_in_ranges}
use Rattle.fdp_records.specs.declared.change.Change.{Change}
use Rattle.fdp_records.specs.declared.change.Change.TheVariants as changes
use Rattle.fdp_records.specs.declared.change.UnitPages.{UnitPages}
use Rattle.fdp_records.specs.Records.{target_or_none}
use Rattle.fdp_image.specs.Bits.{pages_of_set}
use Rattle.fdp_image.specs.CheckpointRows.{has_kind}
use Rattle.fdp_image.specs.Reading.{Reading}

-- the numbers of some pages of a unit
abbrev pub page_numbers : DriveConfig → UnitPages → List ℕ
page_numbers c x = map (λ page. x.unit * c.unit_pages + page) (pages_of_set x.pages)

-- each old page of a move with its new one: the pages of the first target are taken before those of the second
abbrev pub moves_of : DriveConfig → UnitPages → UnitPages → Option UnitPages → List (ℕ × ℕ)
moves_of c victim first second = zip (page_numbers c victim) (page_numbers c first ++ page_numbers c (target_or_none second))

-- where a move puts a page
abbrev pub moved_to : List (ℕ × ℕ) → ℕ → ℕ
moved_to moves page = option_map_or (λ (x : ℕ × ℕ). x.1) (find (λ (x : ℕ × ℕ). x.0 == page) moves) page

-- the pages of the blocks after a change
abbrev pub pages_after : DriveConfig → Reading → Change → ℕ → ℕ → Option ℕ
pages_after c r (changes.Write nsid slba pid pid_invalid pages) n lba = if n == nsid && is_among slba (length pages) lba then slice_get pages (lba - slba) else r.pages n lba
pages_after c r (changes.Clear nsid ranges) n lba = if n == nsid && is_in_ranges ranges lba then None else r.pages n lba
pages_after c r (changes.Update nsid closed pids) n lba = r.pages n lba
pages_after c r (changes.Create nsid size given handles) n lba = r.pages n lba
pages_after c r (changes.Delete nsid) n lba = if n == nsid then None else r.pages n lba
pages_after c r (changes.SetFdp enabled index generation) n lba = r.pages n lba
pages_after c r (changes.SetEvents ruh on mask) n lba = r.pages n lba
pages_after c r (changes.Moved victim first second handles) n lba = option_map (moved_to (moves_of c victim first second)) (r.pages n lba)
pages_after c r (changes.Shut rg ruh) n lba = r.pages n lba

-- whether events of a kind are kept for a handle, once the kinds of a mask are set for one
abbrev pub reporting : Reading → ℕ → Bool → ℕ → ℕ → EventKind → Bool
reporting r handle on mask ruh kind = if ruh == handle && has_kind mask kind then on else r.reports ruh kind

-- what a change at a position makes of placement, of the namespaces and of which events are kept
abbrev pub changed : DriveConfig → Reading → ℕ → Change → Reading
changed c r position (changes.Write nsid slba pid pid_invalid pages) = r
changed c r position (changes.Clear nsid ranges) = r
changed c r position (changes.Update nsid closed pids) = r
changed c r position (changes.Create nsid size given handles) = record r {
  namespaces = with_at r.namespaces nsid (Some (record { size = size; handles = handles; given = given; birth = position }));
}
changed c r position (changes.Delete nsid) = record r { namespaces = with_at r.namespaces nsid None }
changed c r position (changes.SetFdp enabled index generation) = record r {
  enabled = enabled;
  index = index;
  generation = generation;
  reports = λ ruh kind. false;
}
changed c r position (changes.SetEvents ruh on mask) = record r { reports = reporting r ruh on mask }
changed c r position (changes.Moved victim first second handles) = r
changed c r position (changes.Shut rg ruh) = r
