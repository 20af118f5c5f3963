-- The tables of the plain machine, read as the state of a drive.
use Rattle.std.specs.Prelude.{ℕ, ◌+◌, ◌*◌, Bool, false, not, ◌&&◌, ◌==◌, drop, List, [], length, Option, nat_lt, if◌then◌else◌, filter, map, option_map, option_and_then, reverse, slice_get, unwrap_or}
use Rattle.std.specs.Option.{option_flatten, option_map_or}
use Rattle.fdp_base.specs.declared.entry.Entry.{Entry}
use Rattle.fdp_base.specs.declared.entry.Spot.{Spot}
use Rattle.fdp_base.specs.declared.event.EventKind.{EventKind}
use Rattle.fdp_base.specs.declared.event.EventKind.TheVariants as kinds
use Rattle.fdp_rules.specs.Effect.{no_reference}
use Rattle.fdp_rules.specs.Events.{is_host_event, latest}
use Rattle.fdp_rules.specs.PlainState.{Block, Going, Namespace, PageName, PageName.found, PageName.written, PlainState, Reference}
use Rattle.fdp_rules.specs.Point.{Copy, Point, Trail}
use Rattle.fdp_rules.specs.Sites.{trail_of}
use Rattle.fdp_tables.specs.declared.state.Kept.{Kept}
use Rattle.fdp_tables.specs.declared.state.KeptBlock.{KeptBlock}
use Rattle.fdp_tables.specs.declared.state.KeptGoing.{KeptGoing}
use Rattle.fdp_tables.specs.declared.state.KeptPage.{KeptPage}
use Rattle.fdp_tables.specs.declared.state.KeptPage.TheVariants as pages
use Rattle.fdp_tables.specs.declared.state.KeptReference.{KeptReference}
use Rattle.fdp_tables.specs.declared.state.KeptReports.{KeptReports}
use Rattle.fdp_tables.specs.declared.state.Space.{Space}
use Rattle.fdp_tables.specs.Copies.{copy_of}
use Rattle.fdp_tables.specs.PageSites.{site_in}
use Rattle.fdp_tables.specs.Starts.{start_of}

-- what stands in a row of a table whose rows may be empty
abbrev pub row : {X : Type 0} → List (Option X) → ℕ → Option X
row rows i = option_flatten (slice_get rows i)

-- the name of a page
abbrev pub page_of : KeptPage → PageName
page_of (pages.Written ticket index) = written ticket index
page_of (pages.Found spot) = found spot

abbrev pub block_of : KeptBlock → Block
block_of b = record { bytes = b.bytes; rg = b.rg; ruh = b.ruh; page = page_of b.page }

-- a namespace is as large as it has places
abbrev pub namespace_of : Space → Namespace
namespace_of x = record { size = length x.blocks; handles = x.handles; given = x.given; birth = x.birth }

abbrev pub reference_of : KeptReference → Reference
reference_of x = record { unit = x.unit; left = x.left }

abbrev pub going_of : KeptGoing → Going
going_of g = record {
  number = g.number;
  command = g.command;
  ticket = g.ticket;
  birth = g.birth;
  rg = g.rg;
  ruh = g.ruh;
  pid_valid = g.pid_valid;
  roomiest = g.roomiest;
  placed = g.placed;
}

-- whether events of a kind are kept
abbrev pub keeps : EventKind → KeptReports → Bool
keeps kinds.NotFullyWritten x = x.not_fully_written
keeps kinds.TimeLimitExceeded x = x.time_limit_exceeded
keeps kinds.HandlesModified x = x.handles_modified
keeps kinds.InvalidPlacementIdentifier x = x.invalid_identifier
keeps kinds.MediaReallocated x = x.media_reallocated
keeps kinds.ImplicitlyModified x = x.implicitly_modified

-- the namespace with an identifier
abbrev pub space_at : Kept → ℕ → Option Space
space_at k nsid = row k.spaces.items nsid

-- the block at an address
abbrev pub block_at : Kept → ℕ → ℕ → Option KeptBlock
block_at k nsid lba = option_and_then (λ x. row x.blocks lba) (space_at k nsid)

-- what a handle references in a group; there are at most sixteen handles
abbrev pub reference_at : Kept → ℕ → ℕ → Reference
reference_at k rg ruh =
    if nat_lt ruh 16
    then option_map_or reference_of (slice_get k.references.items (16 * rg + ruh)) (no_reference k.config)
    else no_reference k.config

-- the state of the drive
abbrev pub plain_of : Kept → PlainState
plain_of k = record {
  position = length k.entries.items;
  enabled = k.enabled;
  index = k.index;
  generation = k.generation;
  reports = λ ruh kind. option_map_or (keeps kind) (slice_get k.reports.items ruh) false;
  namespaces = λ nsid. option_map namespace_of (space_at k nsid);
  blocks = λ nsid lba. option_map block_of (block_at k nsid lba);
  references = reference_at k;
  going = λ queue. option_map going_of (row k.going.items queue);
  is_lost = λ unit. unwrap_or (slice_get k.lost.items unit) false;
  is_worn = λ rg. unwrap_or (slice_get k.worn.items rg) false;
  media = reverse k.media.items;
}

-- the entries of the run itself
abbrev pub own_entries : Kept → List Entry
own_entries k = drop (start_of k.starts.items) k.entries.items

-- the drive was found, and the run has no entry yet
abbrev pub is_opening : Kept → Bool
is_opening k = nat_lt 0 (length k.starts.items) && (length (own_entries k) == 0)

-- where a page stands by the tables
abbrev pub table_site : Kept → PageName → Option Spot
table_site k (written ticket index) = site_in k.sites.rows ticket index
table_site k (found spot) = site_in k.found.rows spot.unit spot.page

-- where a page stands. Of one that was found the entries of the run tell: a table says so only of those where blocks were found.
abbrev pub site_at : Kept → PageName → Option Spot
site_at k (written ticket index) = site_in k.sites.rows ticket index
site_at k (found spot) = (trail_of k.config (own_entries k)).site (found spot)

abbrev pub copies_at : Kept → ℕ → List Copy
copies_at k rg = option_map_or (λ copies. map copy_of copies.items) (slice_get k.copies.items rg) []

-- what stands after the entries
abbrev pub point_kept : Kept → Point
point_kept k = record {
  is_opening = is_opening k;
  state = plain_of k;
  trail = record { site = site_at k; copies = copies_at k };
  totals = record { position = length k.entries.items; host_blocks = k.host_blocks; media_blocks = k.media_blocks; erases = k.erases };
  host_events = latest (filter is_host_event k.events.items);
  controller_events = latest (filter (λ e. not (is_host_event e)) k.events.items);
}

-- where all pages stand by the tables, and what was copied
abbrev pub table_trail : Kept → Trail
table_trail k = record { site = table_site k; copies = copies_at k }
