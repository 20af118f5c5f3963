-- A drive as its log pages tell it.
use Rattle.std.specs.Prelude.{◌≡◌, ℕ, ◌<◌, ◌≤◌, Option, Some, None, if◌then◌else◌, length, nat_lt, option_map}
use Rattle.fdp_base.specs.Config.{IsInRange}
use Rattle.fdp_base.specs.declared.config.DriveConfig.{DriveConfig}
use Rattle.fdp_base.specs.declared.entry.Totals.{Totals}
use Rattle.fdp_image.specs.Checkpoint.{in_place, namespace_of}
use Rattle.fdp_rules.specs.LogPages.{usage_of}
use Rattle.fdp_rules.specs.PlainState.{PlainState}
use Rattle.fdp_rules.specs.Point.{Point}
use Rattle.fdp_rules.specs.Room.{handles_in_force}
use Rattle.fdp_snapshot.specs.declared.state.Summary.{Summary}

-- its configuration, its outline, and its sums; those of the outline do not matter
pub record Told : Type 0 where
  pub config : DriveConfig
  pub summary : Summary
  pub totals : Totals

-- the values are in their ranges: the outline names one of the configurations, and has sixteen places for namespaces and at most 32 events of
-- each class
pub record CanTell (t : Told) : Type 0 where
  pub ranges : IsInRange t.config
  pub index : t.summary.index < length t.config.fdp
  pub places : length t.summary.spaces ≡ 16
  pub host_events : length t.summary.host_events ≤ 32
  pub controller_events : length t.summary.controller_events ≤ 32

-- they are those of what stands at a point
pub record Tells (t : Told) (p : Point) : Type 0 where
  pub totals : t.totals ≡ p.totals
  pub enabled : t.summary.enabled ≡ p.state.enabled
  pub index : t.summary.index ≡ p.state.index
  pub namespaces : (nsid : ℕ) → option_map namespace_of (in_place t.summary.spaces nsid) ≡ p.state.namespaces nsid
  pub host_events : t.summary.host_events ≡ p.host_events
  pub controller_events : t.summary.controller_events ≡ p.controller_events

-- the usage of a handle, where there is one of this number
abbrev pub usage_told : DriveConfig → PlainState → ℕ → Option ℕ
usage_told c s ruh = if nat_lt ruh (handles_in_force c s) then Some (usage_of s ruh) else None
