-- A book in order can be saved.
use Rattle.std.proofs.Common.{◌≡◌, ℕ, ◌/◌, ◌∙◌, true, List, ◌++◌, Some, arith, subst}
use Rattle.std.specs.Prelude.{slice_get}
use Rattle.fdp_base.specs.declared.config.DriveConfig.{DriveConfig}
use Rattle.fdp_base.specs.declared.entry.Entry.{Entry}
use Rattle.fdp_base.specs.declared.entry.Entry.TheVariants as entries
use Rattle.fdp_base.specs.declared.entry.Spot.{Spot}
use Rattle.fdp_base.specs.Config.{IsValidConfig}
use Rattle.fdp_base.specs.Placement.{geometry_of}
use Rattle.fdp_isolation.specs.fdp_book.Book.{BookSeen, IsLonger, point_in, written_in}
use Rattle.fdp_durability.specs.Beginnings.{CanBeSaved}
use Rattle.fdp_flash.specs.declared.cell.Cell.{Cell}
use Rattle.fdp_flash.specs.declared.cell.Cell.TheVariants.{Blank}
use Rattle.fdp_flash.specs.Cells.{ProgramMayLeave}
use Rattle.fdp_flash.specs.Layout.{page_number}
use Rattle.fdp_history.proofs.Listing.{listed-next}
use Rattle.fdp_history.proofs.Points.{orderly-next}
use Rattle.fdp_history.proofs.Standing.{standing-next}
use Rattle.fdp_durability.specs.fdp_locations.Stored.{HoldsWritten}
use Rattle.fdp_durability.specs.fdp_readings.Drawn.{drawn}
use Rattle.fdp_durability.specs.fdp_readings.Named.{KeepsNamed}
use Rattle.fdp_durability.proofs.fdp_readings.Drawing.{block-drawn, drawn-valid}
use Rattle.fdp_durability.proofs.fdp_readings.Keeping.{program-named}
use Rattle.fdp_durability.proofs.fdp_readings.Leading.{drawn-used, led-holds}
use Rattle.fdp_durability.proofs.fdp_readings.Ways.{lanes-stand}
use Rattle.fdp_rules.specs.Change.{after, changed_by}
use Rattle.fdp_rules.specs.History.{Found, point_of}
use Rattle.fdp_rules.specs.Next.{next}
use Rattle.fdp_rules.specs.Point.{Point}
use Rattle.fdp_rules.specs.Sites.{traced_by}
use Rattle.fdp_rules.specs.Step.{Follows}
use Rattle.fdp_survival.specs.Books.{IsInOrder}
use Rattle.fdp_survival.proofs.Units.{GoOn}
use Rattle.fdp_units.specs.UnitTable.{UnitTable}

pub book-saved : (b : BookSeen) (cells : List Cell) → IsInOrder b → HoldsWritten (geometry_of b.config) cells (written_in b) b.pages.units → CanBeSaved b.config (point_in b) b.pages.units cells
book-saved b cells h held = record {
  orderly = h.known.orderly;
  standing = h.standing;
  listed = h.listed;
  holds = led-holds b.config (point_in b) (written_in b) h.known.led.at b.pages cells h.known.config h.known.orderly h.standing h.listed h.known.generation h.known.led.led held;
  ways = lanes-stand b.config (point_in b) (written_in b) h.known.led.at b.pages h.known.units.classes h.known.joined.lanes h.known.led.led;
  used = drawn-used b.config (point_in b) (written_in b) h.known.led.at b.pages h.standing h.known.led.led;
}

-- where the units go on
pub can-on : (c : DriveConfig) (p : Point) (old new : UnitTable) (cells : List Cell) → GoOn old new → CanBeSaved c p old cells → CanBeSaved c p new cells
can-on c p old new cells on can = record {
  orderly = can.orderly;
  standing = can.standing;
  listed = can.listed;
  holds = can.holds;
  ways = can.ways;
  used = λ nsid lba page e. let low = can.used nsid lba page e in let more = on (page / c.unit_pages) in omega (arith, low, more);
}

-- where the pages of the blocks are as they were
can-named : (c : DriveConfig) (p : Point) (t : UnitTable) (old new : List Cell) → KeepsNamed (drawn c p) old new → CanBeSaved c p t old → CanBeSaved c p t new
can-named c p t old new keeps can = record {
  orderly = can.orderly;
  standing = can.standing;
  listed = can.listed;
  holds = λ nsid lba b spot there site.
      let held = can.holds nsid lba b spot there site in
      record {
        spare = held.spare;
        whole = keeps nsid lba (page_number (geometry_of c) spot) (block-drawn c p nsid lba b spot there site) ∙ held.whole;
        said = held.said;
        says = held.says;
        nsid_is = held.nsid_is;
        lba_is = held.lba_is;
        rg_is = held.rg_is;
        ruh_is = held.ruh_is;
        generation_is = held.generation_is;
      };
  ways = can.ways;
  used = can.used;
}

-- whatever a program of a blank page left
pub can-programmed : (c : DriveConfig) (p : Point) (t : UnitTable) (old new : List Cell) (at : Spot) (spare bytes : List ℕ) → slice_get old (page_number (geometry_of c) at) ≡ Some Blank → ProgramMayLeave (geometry_of c) old at spare bytes new → CanBeSaved c p t old → CanBeSaved c p t new
can-programmed c p t old new at spare bytes blank left can =
    can-named c p t old new (program-named c (drawn c p) old new at spare bytes (drawn-valid c p old can.orderly can.standing can.holds can.listed) blank left) can

-- ---- a handle that is shut

-- where a drive can be saved, it can be behind the entry of a handle that is shut
pub can-shut : (c : DriveConfig) (p : Point) (t : UnitTable) (cells : List Cell) (rg ruh : ℕ) → IsValidConfig c → Follows true c p (entries.Shut (record { rg = rg; ruh = ruh })) → CanBeSaved c p t cells → CanBeSaved c (next c p (entries.Shut (record { rg = rg; ruh = ruh }))) t cells
unfolding next after changed_by traced_by
can-shut c p t cells rg ruh valid follows can =
    let e : Entry = entries.Shut (record { rg = rg; ruh = ruh }) in
    record {
      orderly = orderly-next true c p e valid can.orderly follows;
      standing = standing-next true c p e can.orderly can.standing follows;
      listed = listed-next true c p e can.orderly.state can.listed follows;
      holds = can.holds;
      ways = can.ways;
      used = can.used;
    }

-- ---- the same by the fields of a book that goes on

pub can-of : (b new : BookSeen) (es : List Entry) (t : UnitTable) (cells : List Cell) → IsLonger b new es → CanBeSaved new.config (point_in new) t cells → CanBeSaved b.config (point_of b.config b.found (b.entries ++ es)) t cells
can-of b new es t cells longer h =
    subst (λ (c : DriveConfig). CanBeSaved c (point_of c b.found (b.entries ++ es)) t cells) longer.config_is
    (subst (λ (f : Found). CanBeSaved new.config (point_of new.config f (b.entries ++ es)) t cells) longer.found_is
    (subst (λ (xs : List Entry). CanBeSaved new.config (point_of new.config new.found xs) t cells) longer.entries_are h))
