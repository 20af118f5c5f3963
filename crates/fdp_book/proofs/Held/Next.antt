-- The tables after an entry more, by what it leaves of each.
use Rattle.std.proofs.Common.{◌≡◌, ◌≤◌, Bool, List, [], ◌∷◌, ◌++◌, Option, sym, subst}
use Rattle.fdp_base.specs.declared.config.DriveConfig.{DriveConfig}
use Rattle.fdp_base.specs.declared.entry.Entry.{Entry}
use Rattle.fdp_base.specs.declared.entry.Spot.{Spot}
use Rattle.fdp_book.specs.declared.tables.Tables.{Tables}
use Rattle.fdp_book.specs.Held.{AreFlightsOf, ArePagesOf, IsHeld, IsHeldAt, IsMapOf}
use Rattle.fdp_book.specs.Changes.{IsChangeOfEntry}
use Rattle.fdp_book.specs.Outlined.{CanMake, IsOutlineBehind, Makes}
use Rattle.fdp_book.proofs.Outlining.{behind-made}
use Rattle.fdp_outline.specs.declared.moved_block.MovedBlock.{MovedBlock}
use Rattle.fdp_records.specs.declared.change.Change.{Change}
use Rattle.fdp_rules.specs.Totals.{host_blocks_of}
use Rattle.fdp_snapshot.specs.declared.state.Summary.{Summary}
use Rattle.fdp_history.specs.Listed.{IsListed}
use Rattle.fdp_history.specs.Orderly.{IsOrderly}
use Rattle.fdp_history.proofs.Listing.{listed-next}
use Rattle.fdp_history.specs.Standing.{IsStanding}
use Rattle.fdp_history.proofs.Points.{orderly-next}
use Rattle.fdp_history.proofs.Standing.{standing-next}
use Rattle.fdp_readings.specs.fdp_locations.Located.{AreUnitsOf}
use Rattle.fdp_readings.specs.fdp_locations.Written.{Written, written_after, written_by}
use Rattle.fdp_readings.proofs.fdp_locations.Histories.{written_by-push}
use Rattle.fdp_rules.proofs.Pushes.{point_of-push}
use Rattle.fdp_rules.specs.History.{Found, point_of}
use Rattle.fdp_rules.specs.Next.{next}
use Rattle.fdp_rules.specs.PlainState.{PlainState}
use Rattle.fdp_rules.specs.Point.{Point}
use Rattle.fdp_rules.specs.Step.{Follows}

-- tables that follow a state, but for the outline and the pages
pub record AreTablesOf (c : DriveConfig) (s : PlainState) (t : Tables) : Type 0 where
  pub map_is : IsMapOf c s t.map
  pub flights_are : AreFlightsOf c s t.flights.items
  pub units_are : AreUnitsOf c s t.pages

-- the tables stand for the history where the point and what pages hold are those of it
pub held-at : (c : DriveConfig) (found : Found) (first : Spot → Option Written) (es : List Entry) (p : Point) (written : Spot → Option Written) (t : Tables) → p ≡ point_of c found es → written ≡ written_by c found first es → IsHeldAt c es p written t → IsHeld c found first es t
held-at c found first es p written t point_is written_is h =
    subst (λ (x : Point). IsHeldAt c es x (written_by c found first es) t) point_is
    (subst (λ (x : Spot → Option Written). IsHeldAt c es p x t) written_is h)

-- an entry more, behind which all is orderly
pub held-after : (c : DriveConfig) (found : Found) (first : Spot → Option Written) (es : List Entry) (e : Entry) (t now : Tables) → IsHeld c found first es t → IsOrderly c (next c (point_of c found es) e) → IsStanding c (next c (point_of c found es) e) → IsListed c (next c (point_of c found es) e).state →
    AreTablesOf c (next c (point_of c found es) e).state now → IsOutlineBehind c found es e now.outline →
    ArePagesOf c (next c (point_of c found es) e) (written_after c (point_of c found es).state (written_by c found first es) e) now.map now.flights.items now.pages →
    IsHeld c found first (es ++ e ∷ []) now
held-after c found first es e t now h orderly standing listed tables outline pages =
    let p : Point = point_of c found es in
    held-at c found first (es ++ e ∷ []) (next c p e) (written_after c p.state (written_by c found first es) e) now (sym (point_of-push c found es e)) (sym (written_by-push c found first es e))
    (record {
      config = h.config;
      orderly = orderly;
      standing = standing;
      listed = listed;
      outline_is = outline.at;
      few = outline.few;
      map_is = tables.map_is;
      flights_are = tables.flights_are;
      units_are = tables.units_are;
      pages_are = pages;
    })

-- an entry more that may follow
pub held-next : (told : Bool) (c : DriveConfig) (found : Found) (first : Spot → Option Written) (es : List Entry) (e : Entry) (t now : Tables) → IsHeld c found first es t → Follows told c (point_of c found es) e →
    AreTablesOf c (next c (point_of c found es) e).state now → IsOutlineBehind c found es e now.outline →
    ArePagesOf c (next c (point_of c found es) e) (written_after c (point_of c found es).state (written_by c found first es) e) now.map now.flights.items now.pages →
    IsHeld c found first (es ++ e ∷ []) now
unfolding next
held-next told c found first es e t now h follows tables outline pages =
    let p : Point = point_of c found es in
    held-after c found first es e t now h (orderly-next told c p e h.config h.orderly follows) (standing-next told c p e h.orderly h.standing follows) (listed-next told c p e h.orderly.state h.listed follows) tables outline pages

-- ---- a saved change

-- the change of an entry may be made in the outline
pub can-make : (c : DriveConfig) (es : List Entry) (p : Point) (written : Spot → Option Written) (t : Tables) (e : Entry) (change : Change) (moved : List MovedBlock) → IsHeldAt c es p written t → IsChangeOfEntry c p e change moved → CanMake c change moved t.outline
can-make c es p written t e change moved h of_entry = record { config = h.config; point = p; outline = h.outline_is; index = h.orderly.state.index; entry = e; of_entry = of_entry }

-- behind it the outline is that behind the entry
pub made-behind : (c : DriveConfig) (found : Found) (first : Spot → Option Written) (es : List Entry) (t : Tables) (e : Entry) (change : Change) (moved : List MovedBlock) (new : Summary) → IsHeld c found first es t → host_blocks_of e ≤ 64 → IsChangeOfEntry c (point_of c found es) e change moved → Makes c change moved t.outline new → IsOutlineBehind c found es e new
made-behind c found first es t e change moved new h host of_entry makes = behind-made c found es e change moved t.outline new host h.outline_is h.few of_entry makes
