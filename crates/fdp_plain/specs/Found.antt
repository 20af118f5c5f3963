-- What a run finds that goes on where another stood.
use Rattle.std.specs.Prelude.{◌≡◌, ℕ, ◌<◌, true, IsTrue, List, [], Option, filter, filter_map, flat_map, fold, map, option_and_then, option_map}
use Rattle.fdp_base.specs.declared.config.DriveConfig.{DriveConfig}
use Rattle.fdp_base.specs.declared.entry.Entry.{Entry}
use Rattle.fdp_base.specs.declared.entry.Spot.{Spot}
use Rattle.fdp_base.specs.declared.event.EventKind.{EventKind}
use Rattle.fdp_base.specs.EventCodes.{event_kinds}
use Rattle.fdp_base.specs.Numbers.{numbers_below}
use Rattle.fdp_rules.specs.History.{Found, FoundBlock, FoundNamespace, FoundReport, controller_events_of, first_state, fresh, host_events_of, point_of, state_of, totals_of}
use Rattle.fdp_rules.specs.PlainState.{Block, Namespace, PlainState, lasting}
use Rattle.fdp_rules.specs.Point.{Point}
use Rattle.fdp_rules.specs.Room.{namespace_ids, size_of}
use Rattle.fdp_history.specs.Orderly.{IsOrderly}
use Rattle.fdp_history.specs.Standing.{IsStanding}
use Rattle.fdp_history.specs.Summed.{IsSummed}

abbrev pub report_as : ℕ → EventKind → FoundReport
report_as ruh kind = record { ruh = ruh; kind = kind }

-- the kinds of event that are kept for a handle
abbrev pub reports_of : PlainState → ℕ → List FoundReport
reports_of s ruh = map (report_as ruh) (filter (s.reports ruh) event_kinds)

-- those of the sixteen handles
abbrev pub found_reports : PlainState → List FoundReport
found_reports s = flat_map (reports_of s) (numbers_below 16)

abbrev pub namespace_as : ℕ → Namespace → FoundNamespace
namespace_as nsid x = record { nsid = nsid; namespace = x }

-- the namespaces that are there, by identifier
abbrev pub found_namespaces : PlainState → List FoundNamespace
found_namespaces s = filter_map (λ nsid. option_map (namespace_as nsid) (s.namespaces nsid)) namespace_ids

-- a block by its identifier and address, with the page where it stands
abbrev pub block_as : ℕ → ℕ → Block → Spot → FoundBlock
block_as nsid lba b spot = record { nsid = nsid; lba = lba; bytes = b.bytes; rg = b.rg; ruh = b.ruh; spot = spot }

-- the block at an address, if there is one that stands somewhere
abbrev pub block_found : Point → ℕ → ℕ → Option FoundBlock
block_found p nsid lba = option_and_then (λ (b : Block). option_map (block_as nsid lba b) (p.trail.site b.page)) (p.state.blocks nsid lba)

-- the blocks of a namespace, by address
abbrev pub blocks_of : Point → ℕ → List FoundBlock
blocks_of p nsid = filter_map (block_found p nsid) (numbers_below (size_of p.state nsid))

-- the blocks, by identifier and address
abbrev pub found_blocks : Point → List FoundBlock
found_blocks p = flat_map (blocks_of p) namespace_ids

-- what a run finds that begins where this stands: all that lasts, each block on the page where it stands, the sums and the events
unfoldable pub found_at : Point → Found
found_at p = record {
  is_image = true;
  enabled = p.state.enabled;
  index = p.state.index;
  generation = p.state.generation;
  totals = p.totals;
  reports = found_reports p.state;
  namespaces = found_namespaces p.state;
  blocks = found_blocks p;
  host_events = p.host_events;
  controller_events = p.controller_events;
}

-- what a run finds after these entries of the run before it
abbrev pub found_after : DriveConfig → Found → List Entry → Found
found_after c f es = found_at (point_of c f es)

-- what a run finds after these runs on one image, the first of which began fresh
abbrev pub found_in : DriveConfig → List (List Entry) → Found
found_in c runs = fold (found_after c) (fresh c) runs

-- kinds of event are kept for the sixteen handles alone
abbrev pub HasFewReports : PlainState → Type 0
HasFewReports s = (ruh : ℕ) (kind : EventKind) → IsTrue (s.reports ruh kind) → ruh < 16

-- all that stands is in order: the blocks stand, the sums are bounded by the position, and kinds of event are kept for handles
pub record StandsInOrder (c : DriveConfig) (p : Point) : Type 0 where
  pub orderly : IsOrderly c p
  pub standing : IsStanding c p
  pub summed : IsSummed p
  pub reports : HasFewReports p.state

-- what a run begins with is in order
abbrev pub BeginsInOrder : DriveConfig → Found → Type 0
BeginsInOrder c f = StandsInOrder c (point_of c f [])

-- a run goes on with the lasting part, the sums and the events that a history of the one before it gives
pub record GoesOn (c : DriveConfig) (f : Found) (es : List Entry) (next : Found) : Type 0 where
  pub lasting_part : lasting (first_state c next) ≡ lasting (state_of c f es)
  pub totals : totals_of next [] ≡ totals_of f es
  pub host_events : host_events_of c next [] ≡ host_events_of c f es
  pub controller_events : controller_events_of c next [] ≡ controller_events_of c f es
