-- The reading that a point of a history makes: what an image says that was written there.
use Rattle.std.specs.Prelude.{ℕ, Option, option_map}
use Rattle.fdp_base.specs.declared.config.DriveConfig.{DriveConfig}
use Rattle.fdp_base.specs.Placement.{geometry_of}
use Rattle.fdp_flash.specs.Layout.{page_number}
use Rattle.fdp_image.specs.Reading.{Reading}
use Rattle.fdp_rules.specs.Point.{Point}
use Rattle.fdp_rules.specs.Sites.{site_of}

-- the number of the page where a block stands
abbrev pub page_of_block : DriveConfig → Point → ℕ → ℕ → Option ℕ
page_of_block c p nsid lba = option_map (page_number (geometry_of c)) (site_of p nsid lba)

-- the totals, the configuration in force, the namespaces, which events are kept, the page of each block, and the events that were kept
abbrev pub drawn : DriveConfig → Point → Reading
drawn c p = record {
  totals = p.totals;
  enabled = p.state.enabled;
  index = p.state.index;
  generation = p.state.generation;
  reports = p.state.reports;
  namespaces = p.state.namespaces;
  pages = page_of_block c p;
  host_events = p.host_events;
  controller_events = p.controller_events;
}
