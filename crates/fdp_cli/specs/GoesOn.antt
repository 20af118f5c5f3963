-- How a run goes on from the image that another left.
use Rattle.std.specs.Prelude.{◌≡◌, List, []}
use Rattle.fdp_base.specs.declared.config.DriveConfig.{DriveConfig}
use Rattle.fdp_base.specs.declared.entry.Entry.{Entry}
use Rattle.fdp_rules.specs.History.{Found, controller_events_of, host_events_of, state_of, totals_of}
use Rattle.fdp_rules.specs.PlainState.{lasting}

-- a run begins with the state, the sums and the events that a history of an earlier one gives
pub record GoesOnFrom (c : DriveConfig) (f : Found) (kept : List Entry) (found : Found) : Type 0 where
  pub lasting_part : lasting (state_of c found []) ≡ lasting (state_of c f kept)
  pub totals : totals_of found [] ≡ totals_of f kept
  pub host_events : host_events_of c found [] ≡ host_events_of c f kept
  pub controller_events : controller_events_of c found [] ≡ controller_events_of c f kept
