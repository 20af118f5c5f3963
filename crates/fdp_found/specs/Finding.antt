-- What a run finds in an image, as plain data.
use Rattle.std.specs.Prelude.{ℕ, true, List, Option, filter, filter_map, flat_map, map, option_map, slice_get}
use Rattle.std.specs.Option.{option_and_then}
use Rattle.fdp_base.specs.declared.config.DriveConfig.{DriveConfig}
use Rattle.fdp_base.specs.declared.event.EventKind.{EventKind}
use Rattle.fdp_base.specs.EventCodes.{event_kinds}
use Rattle.fdp_base.specs.Numbers.{numbers_below}
use Rattle.fdp_flash.specs.declared.cell.Cell.{Cell}
use Rattle.fdp_image.specs.Reading.{Reading, size_in, spot_of}
use Rattle.fdp_image.specs.Valid.{block_from}
use Rattle.fdp_rules.specs.History.{Found, FoundBlock, FoundNamespace, FoundReport}
use Rattle.fdp_rules.specs.PlainState.{Block, Namespace}
use Rattle.fdp_rules.specs.Room.{namespace_ids}

abbrev pub report_of : ℕ → EventKind → FoundReport
report_of ruh kind = record { ruh = ruh; kind = kind }

-- the kinds of event that are kept for a handle
abbrev pub reports_of : Reading → ℕ → List FoundReport
reports_of r ruh = map (report_of ruh) (filter (r.reports ruh) event_kinds)

-- those of the sixteen handles
abbrev pub found_reports : Reading → List FoundReport
found_reports r = flat_map (reports_of r) (numbers_below 16)

abbrev pub namespace_as : ℕ → Namespace → FoundNamespace
namespace_as nsid x = record { nsid = nsid; namespace = x }

-- the namespaces that are there, by identifier
abbrev pub found_namespaces : Reading → List FoundNamespace
found_namespaces r = filter_map (λ nsid. option_map (namespace_as nsid) (r.namespaces nsid)) namespace_ids

-- a block by its identifier and address, with the number of its page
abbrev pub block_as : DriveConfig → ℕ → ℕ → ℕ → Block → FoundBlock
block_as c nsid lba page b = record { nsid = nsid; lba = lba; bytes = b.bytes; rg = b.rg; ruh = b.ruh; spot = spot_of c page }

-- a block as its page holds it
abbrev pub block_on : DriveConfig → List Cell → Reading → ℕ → ℕ → ℕ → Option FoundBlock
block_on c cells r nsid lba page = option_map (block_as c nsid lba page) (option_and_then (block_from c r nsid lba page) (slice_get cells page))

-- the block at an address, if there is one
abbrev pub block_found : DriveConfig → List Cell → Reading → ℕ → ℕ → Option FoundBlock
block_found c cells r nsid lba = option_and_then (block_on c cells r nsid lba) (r.pages nsid lba)

-- the blocks of a namespace, by address
abbrev pub blocks_of : DriveConfig → List Cell → Reading → ℕ → List FoundBlock
blocks_of c cells r nsid = filter_map (block_found c cells r nsid) (numbers_below (size_in r nsid))

-- the blocks, by identifier and address
abbrev pub found_blocks : DriveConfig → List Cell → Reading → List FoundBlock
found_blocks c cells r = flat_map (blocks_of c cells r) namespace_ids

-- what a run finds in an image that says this: all that it says, and each block with what its page holds
abbrev pub found_in : DriveConfig → List Cell → Reading → Found
found_in c cells r = record {
  is_image = true;
  enabled = r.enabled;
  index = r.index;
  generation = r.generation;
  totals = r.totals;
  reports = found_reports r;
  namespaces = found_namespaces r;
  blocks = found_blocks c cells r;
  host_events = r.host_events;
  controller_events = r.controller_events;
}
