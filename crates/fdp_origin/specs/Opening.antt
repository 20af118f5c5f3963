-- What a run of a drive began with.
use Rattle.std.specs.Prelude.{false, List, []}
use Rattle.fdp_flash.specs.declared.cell.Cell.{Cell}
use Rattle.fdp_rules.specs.History.{Found}

-- the drive that the image stood for when it was opened, and the cells then
pub record Opening : Type 0 where
  pub found : Found
  pub cells : List Cell

-- nothing was found, in no cells
abbrev pub blank : Opening
blank = record {
  found = record {
    is_image = false;
    enabled = false;
    index = 0;
    generation = 0;
    totals = record { position = 0; host_blocks = 0; media_blocks = 0; erases = 0 };
    reports = [];
    namespaces = [];
    blocks = [];
    host_events = [];
    controller_events = [];
  };
  cells = [];
}
