-- What is printed behind the completions.
use Rattle.std.specs.Prelude.{◌≡◌, Bool, IsFalse, IsTrue, List, map, Option, Some, None, if◌then◌else◌}
use Rattle.fdp_base.specs.declared.config.DriveConfig.{DriveConfig}
use Rattle.fdp_base.specs.declared.event.Event.{Event}
use Rattle.fdp_base.specs.Numbers.{numbers_below}
use Rattle.fdp_rules.specs.LogPages.{usage_of}
use Rattle.fdp_rules.specs.Point.{Point}
use Rattle.fdp_rules.specs.Room.{handles_in_force}
use Rattle.fdp_printing.specs.declared.closing.Closing.{Closing}
use Rattle.fdp_printing.specs.declared.closing.Placement.{Placement}

-- the latest events of a class, the oldest first: those that hosts ask for, or the controller's
abbrev pub events_of : Bool → Point → List Event
events_of host p = if host then p.host_events else p.controller_events

-- the usage of each handle in force, and the latest events of each class, at a point of the history
pub record IsPlacementAt (c : DriveConfig) (p : Point) (x : Placement) : Type 0 where
  pub usages : x.usages.items ≡ map (usage_of p.state) (numbers_below (handles_in_force c p.state))
  pub host_events : x.host_events.items ≡ p.host_events
  pub controller_events : x.controller_events.items ≡ p.controller_events

-- there is something to tell of placement just while it is enabled
abbrev pub TellsPlacement : DriveConfig → Point → Option Placement → Type 0
TellsPlacement c p None = IsFalse p.state.enabled
TellsPlacement c p (Some x) = IsTrue p.state.enabled × IsPlacementAt c p x

-- the sums at a point of the history, and what is told of placement there
pub record IsClosing (c : DriveConfig) (p : Point) (x : Closing) : Type 0 where
  pub totals : x.totals ≡ p.totals
  pub placement : TellsPlacement c p x.placement
