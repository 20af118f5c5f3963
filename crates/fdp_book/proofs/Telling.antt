-- A drive as its log pages tell it: its outline says what stands after the history.
use Rattle.std.proofs.Common.{◌≡◌, ℕ, ◌<◌, length, ap, sym, subst}
use Rattle.fdp_base.specs.declared.config.DriveConfig.{DriveConfig}
use Rattle.fdp_base.specs.declared.entry.Totals.{Totals}
use Rattle.fdp_base.specs.Config.{IsValidConfig}
use Rattle.fdp_book.specs.Outlined.{IsOutlineAt}
use Rattle.fdp_history.specs.Orderly.{IsOrderly}
use Rattle.fdp_image.specs.Checkpoint.{reading_of_state}
use Rattle.fdp_image.specs.Reading.{Reading}
use Rattle.fdp_log_pages.specs.Told.{CanTell, Tells}
use Rattle.fdp_outline.specs.Outline.{IsWritable}
use Rattle.fdp_rules.specs.Point.{Point}
use Rattle.fdp_snapshot.specs.declared.state.Summary.{Summary}

pub outline-tells : (c : DriveConfig) (p : Point) (s : Summary) (totals : Totals) → IsOutlineAt c p s → totals ≡ p.totals → Tells (record { config = c; summary = s; totals = totals }) p
unfolding reading_of_state
outline-tells c p s totals is same = record {
  totals = same;
  enabled = ap (λ (r : Reading). r.enabled) is.outline.says;
  index = ap (λ (r : Reading). r.index) is.outline.says;
  namespaces = λ nsid. ap (λ (r : Reading). r.namespaces nsid) is.outline.says;
  host_events = ap (λ (r : Reading). r.host_events) is.outline.says;
  controller_events = ap (λ (r : Reading). r.controller_events) is.outline.says;
}

-- its values are in their ranges
pub outline-can-tell : (c : DriveConfig) (p : Point) (s : Summary) (totals : Totals) → IsValidConfig c → IsOrderly c p → IsOutlineAt c p s → IsWritable s → CanTell (record { config = c; summary = s; totals = totals })
unfolding reading_of_state
outline-can-tell c p s totals valid orderly is writable = record {
  ranges = valid.ranges;
  index = subst (λ (n : ℕ). n < length c.fdp) (sym (ap (λ (r : Reading). r.index) is.outline.says)) orderly.state.index;
  places = writable.summary.places;
  host_events = writable.summary.host_count;
  controller_events = writable.summary.controller_count;
}
