-- A group of a book in which neither a host nor relocation finds room.
use Rattle.std.proofs.Common.{◌≡◌, ℕ, ◌≤◌, ◌<◌, List, Option, ap, arith, length}
use Rattle.fdp_base.specs.declared.config.Class.{Class}
use Rattle.fdp_base.specs.declared.config.DriveConfig.{DriveConfig}
use Rattle.fdp_base.specs.declared.entry.Spot.{Spot}
use Rattle.fdp_book.specs.declared.flight.Flight.{Flight}
use Rattle.fdp_book.specs.Held.{ArePagesOf}
use Rattle.fdp_history.specs.OrderlyState.{IsOrderlyState}
use Rattle.fdp_history.specs.Standing.{IsStanding}
use Rattle.fdp_readings.specs.fdp_locations.Located.{AreUnitsOf, next_in}
use Rattle.fdp_readings.specs.fdp_locations.Written.{Written}
use Rattle.fdp_readings.proofs.fdp_locations.Others.{is-group}
use Rattle.fdp_map.specs.MapTable.{MapTable}
use Rattle.fdp_readings.specs.fdp_pages.Joined.{AreJoined}
use Rattle.fdp_readings.specs.fdp_pages.PageTables.{PageTables, target_of, unit_of}
use Rattle.fdp_readings.proofs.fdp_pages.Held.{referenced-held, target-held}
use Rattle.fdp_rules.specs.Point.{Point}
use Rattle.fdp_rules.specs.Room.{handles_in_force}
use Rattle.fdp_readings.specs.fdp_trails.Crowded.{IsCrowded}
use Rattle.fdp_readings.proofs.fdp_trails.Counting.{live-most}
use Rattle.fdp_readings.proofs.fdp_trails.Holding.{held-few}
use Rattle.fdp_units.specs.DataUnits.{is_free, is_referenced, is_target}
use Rattle.fdp_units.specs.UnitTable.{Cut, HasNoVictim, count_in}

pub crowded : (c : DriveConfig) (p : Point) (written : Spot → Option Written) (map : MapTable) (flights : List (Option Flight)) (t : PageTables) (rg : ℕ) →
    IsOrderlyState c p.state → IsStanding c p → AreUnitsOf c p.state t → AreJoined t → ArePagesOf c p written map flights t →
    rg < c.groups → HasNoVictim t.units rg → count_in t.units rg is_free ≤ 2 → IsCrowded t.units c p.state rg
crowded c p written map flights t rg orderly standing units joined pages low none free =
    let group = is-group c p.state t rg units low in
    let classes : handles_in_force c p.state ≡ length t.handles.classes = ap (λ (xs : List Class). length xs) units.classes in
    let referenced : count_in t.units rg is_referenced ≤ length t.handles.classes = held-few t.units rg (length t.handles.classes) is_referenced (unit_of t rg) group (λ unit is own test. referenced-held t rg unit joined is own test) in
    let targets : count_in t.units rg is_target ≤ length t.handles.classes = held-few t.units rg (length t.handles.classes) is_target (target_of t rg) group (λ unit is own test. target-held t rg unit joined group is own test) in
    record {
      agrees = units.agrees;
      unit_pages = ap (λ (k : Cut). k.unit_pages) units.cut;
      group = group;
      none = none;
      free = free;
      referenced = omega (arith, referenced, classes);
      targets = omega (arith, targets, classes);
      live = live-most c p (next_in t.units) pages.at t.units t.owners rg orderly standing pages.led.table pages.led.owned units.agrees.units group joined.live.counted;
    }
