-- What a history gives: the state, the sites, the sums and the events after its entries.
use Rattle.std.specs.Prelude.{ℕ, ◌+◌, Bool, false, not, ◌&&◌, ◌==◌, List, [], ◌++◌, length, Option, None, nat_lt, unwrap_or, find, filter, fold, map, option_map}
use Rattle.std.specs.List.{enumerate_from, list_any}
use Rattle.fdp_base.specs.declared.config.DriveConfig.{DriveConfig}
use Rattle.fdp_base.specs.declared.config.NamespaceConfig.{NamespaceConfig}
use Rattle.fdp_base.specs.declared.entry.Entry.{Entry}
use Rattle.fdp_base.specs.declared.entry.Spot.{Spot}
use Rattle.fdp_base.specs.declared.entry.Totals.{Totals}
use Rattle.fdp_base.specs.declared.event.Event.{Event}
use Rattle.fdp_base.specs.declared.event.EventKind.{EventKind}
use Rattle.fdp_rules.specs.Change.{after}
use Rattle.fdp_rules.specs.Effect.{chosen_handles, no_reference}
use Rattle.fdp_rules.specs.Events.{is_host_event, kept_from, latest}
use Rattle.fdp_base.specs.EventCodes.{kind_code}
use Rattle.fdp_rules.specs.PlainState.{Block, Namespace, PageName.found, PlainState}
use Rattle.fdp_rules.specs.Point.{Point}
use Rattle.fdp_rules.specs.Sites.{trail_of}
use Rattle.fdp_rules.specs.Totals.{erases, host_blocks, media_blocks}

-- a namespace by its identifier
pub record FoundNamespace : Type 0 where
  pub nsid : ℕ
  pub namespace : Namespace

-- a block by its identifier and address, and the page where it stands
pub record FoundBlock : Type 0 where
  pub nsid : ℕ
  pub lba : ℕ
  pub bytes : List ℕ
  pub rg : ℕ
  pub ruh : ℕ
  pub spot : Spot

-- a kind of event that is kept for a handle
pub record FoundReport : Type 0 where
  pub ruh : ℕ
  pub kind : EventKind

-- what a run begins with, as plain data: the drive that an image stands for, or a fresh one
pub record Found : Type 0 where
  pub is_image : Bool
  pub enabled : Bool
  pub index : ℕ
  pub generation : ℕ
  pub totals : Totals
  pub reports : List FoundReport
  pub namespaces : List FoundNamespace
  pub blocks : List FoundBlock
  pub host_events : List Event
  pub controller_events : List Event

abbrev pub namespace_in : List FoundNamespace → ℕ → Option Namespace
namespace_in xs nsid = option_map (λ (x : FoundNamespace). x.namespace) (find (λ x. x.nsid == nsid) xs)

abbrev pub found_block : FoundBlock → Block
found_block x = record { bytes = x.bytes; rg = x.rg; ruh = x.ruh; page = found x.spot }

abbrev pub block_in : List FoundBlock → ℕ → ℕ → Option Block
block_in xs nsid lba = option_map found_block (find (λ x. x.nsid == nsid && x.lba == lba) xs)

abbrev pub reports_in : List FoundReport → ℕ → EventKind → Bool
reports_in xs ruh kind = list_any (λ x. x.ruh == ruh && kind_code x.kind == kind_code kind) xs

-- the state in which a run begins
unfoldable pub first_state : DriveConfig → Found → PlainState
first_state c f = record {
  position = f.totals.position;
  enabled = f.enabled;
  index = f.index;
  generation = f.generation;
  reports = reports_in f.reports;
  namespaces = namespace_in f.namespaces;
  blocks = block_in f.blocks;
  references = λ rg ruh. no_reference c;
  going = λ queue. None;
  is_lost = λ unit. false;
  is_worn = λ rg. false;
  media = [];
}

-- a namespace that the drive is made with
abbrev pub made_namespace : ℕ × NamespaceConfig → FoundNamespace
made_namespace x = record {
  nsid = x.0;
  namespace = record {
    size = x.1.blocks;
    handles = chosen_handles (unwrap_or x.1.handles []);
    given = nat_lt 0 (length (unwrap_or x.1.handles []));
    birth = 0;
  };
}

-- the drive as its configuration makes it: the namespaces have the identifiers from 1 on
unfoldable pub fresh : DriveConfig → Found
fresh c = record {
  is_image = false;
  enabled = c.enabled;
  index = c.index;
  generation = 0;
  totals = record { position = 0; host_blocks = 0; media_blocks = 0; erases = 0 };
  reports = [];
  namespaces = map made_namespace (enumerate_from 1 c.namespaces);
  blocks = [];
  host_events = [];
  controller_events = [];
}

-- the state after the entries of a run
unfoldable pub state_of : DriveConfig → Found → List Entry → PlainState
state_of c f es = fold (after c) (first_state c f) es

-- the position of the last entry, and the sums of the entries, added to those that were found
unfoldable pub totals_of : Found → List Entry → Totals
totals_of f es = record {
  position = f.totals.position + length es;
  host_blocks = f.totals.host_blocks + host_blocks es;
  media_blocks = f.totals.media_blocks + media_blocks es;
  erases = f.totals.erases + erases es;
}

-- the events kept over the entries of a run
unfoldable pub events_of : DriveConfig → Found → List Entry → List Event
events_of c f es = kept_from c (first_state c f) es

-- the latest events that hosts ask for
unfoldable pub host_events_of : DriveConfig → Found → List Entry → List Event
host_events_of c f es = latest (f.host_events ++ filter is_host_event (events_of c f es))

-- the latest events of the controller
unfoldable pub controller_events_of : DriveConfig → Found → List Entry → List Event
controller_events_of c f es = latest (f.controller_events ++ filter (λ e. not (is_host_event e)) (events_of c f es))

-- what stands after the entries of a run
unfoldable pub point_of : DriveConfig → Found → List Entry → Point
point_of c f es = record {
  is_opening = f.is_image && (length es == 0);
  state = state_of c f es;
  trail = trail_of c es;
  totals = totals_of f es;
  host_events = host_events_of c f es;
  controller_events = controller_events_of c f es;
}
