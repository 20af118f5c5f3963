-- What a stop cannot lose, between a history, the tables of its units, its saver and its flash; and what it leaves of isolation.
use Rattle.std.specs.Prelude.{◌≡◌, ℕ, ◌<◌, ◌≤◌, IsTrue, List, length}
use Rattle.fdp_base.specs.declared.config.DriveConfig.{DriveConfig}
use Rattle.fdp_base.specs.declared.entry.Entry.{Entry}
use Rattle.fdp_base.specs.Placement.{geometry_of}
use Rattle.fdp_durability.specs.Durable.{IsDurable}
use Rattle.fdp_flash.specs.declared.cell.Cell.{Cell}
use Rattle.fdp_flash.specs.FlashState.{FlashState}
use Rattle.fdp_image.specs.Kept.{AreFirm, StandsForBeginning}
use Rattle.fdp_isolation.specs.Begun.{OpenedApart}
use Rattle.fdp_durability.specs.fdp_journal.JournalState.{JournalState}
use Rattle.fdp_rules.specs.History.{Found}
use Rattle.fdp_survival.specs.Apart.{AreSaidApart, StandsApart}
use Rattle.fdp_units.specs.UnitTable.{UnitTable}

-- so many entries of a history are firm, and no stop loses one: what stands between the history, the units, a saver and its flash
pub record IsSafeAt (c : DriveConfig) (f : Found) (es : List Entry) (t : UnitTable) (s : JournalState) (firm : ℕ) (flash : FlashState) : Type 0 where
  pub sealed : 0 < s.stamp.epoch
  pub cut : s.geometry ≡ geometry_of c
  pub durable : IsTrue flash.told → IsDurable c f es firm s t flash.cells
  pub firm_is : AreFirm es firm
  pub within : firm ≤ length es

-- so it is, and what the areas say is isolated where the cells that were opened kept data apart
pub record IsSafeApart (c : DriveConfig) (f : Found) (opened : List Cell) (es : List Entry) (t : UnitTable) (s : JournalState) (firm : ℕ) (flash : FlashState) : Type 0 where
  pub at : IsSafeAt c f es t s firm flash
  pub apart : IsTrue flash.told → OpenedApart c f opened → AreSaidApart c s flash.cells

-- An image that a stop left stands for a beginning of a history with the entries that were firm; and data stands apart in it, by a beginning
-- with at least so many entries, where the cells that were opened kept it apart.
pub record IsSafeImage (c : DriveConfig) (f : Found) (opened : List Cell) (es : List Entry) (firm from : ℕ) (image : List Cell) : Type 0 where
  pub stands : StandsForBeginning c f es firm image
  pub apart : OpenedApart c f opened → StandsApart c f es from image
