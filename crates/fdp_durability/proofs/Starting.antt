-- What is durable when a run begins.
use Rattle.std.proofs.Common.{◌≡◌, ℕ, List, [], Some, None, refl, arith}
use Rattle.fdp_base.specs.declared.config.DriveConfig.{DriveConfig}
use Rattle.fdp_base.specs.declared.entry.Entry.{Entry}
use Rattle.fdp_base.specs.Placement.{geometry_of}
use Rattle.fdp_durability.specs.Beginnings.{NamesUsed, SaysBeginning}
use Rattle.fdp_durability.specs.Durable.{IsDurable}
use Rattle.fdp_flash.specs.declared.cell.Cell.{Cell}
use Rattle.fdp_image.specs.Areas.{Sealed, current_area}
use Rattle.fdp_image.specs.StandsFor.{StandsFor}
use Rattle.fdp_rules.specs.History.{Found}
use Rattle.fdp_saving.specs.Said.{AreasSay}
use Rattle.fdp_saving.specs.Saver.{IsSaverIn, first_saver}
use Rattle.fdp_saving.proofs.Beginning.{found_says, found_stands, fresh_says, fresh_stands}
use Rattle.fdp_units.specs.UnitTable.{UnitTable}

-- what an image stands for says the beginning without an entry
says-none : (c : DriveConfig) (f : Found) (more : List Entry) (cells : List Cell) → (h : StandsFor c f cells []) → SaysBeginning c f more 0 cells h.reading
says-none c f more cells h = record {
  kept = [];
  lost = more;
  beginning = record { split = refl };
  enough = omega arith;
  valid = h.valid;
  ways = h.ways;
  says = h.says;
}

begun : (c : DriveConfig) (f : Found) (more : List Entry) (area epoch : ℕ) (t : UnitTable) (cells : List Cell) → (h : StandsFor c f cells []) → NamesUsed c t h.reading → IsSaverIn cells (first_saver (geometry_of c) area epoch)
    → AreasSay c (first_saver (geometry_of c) area epoch) cells h.reading h.reading → IsDurable c f more 0 (first_saver (geometry_of c) area epoch) t cells
begun c f more area epoch t cells h used saver say = record {
  own = h.reading;
  tried = h.reading;
  saver = saver;
  say = say;
  own_says = says-none c f more cells h;
  tried_says = says-none c f more cells h;
  own_used = used;
  tried_used = used;
  sure = λ wrong. absurd cc;
}

-- with the current area of an image
pub begun-found : (c : DriveConfig) (f : Found) (more : List Entry) (area : ℕ) (z : Sealed) (t : UnitTable) (cells : List Cell) → current_area (geometry_of c) cells ≡ Some (area, z) → (h : StandsFor c f cells []) → NamesUsed c t h.reading
    → IsDurable c f more 0 (first_saver (geometry_of c) area z.stamp.epoch) t cells
begun-found c f more area z t cells current h used =
    begun c f more area z.stamp.epoch t cells h used (found_stands (geometry_of c) cells area z current) (found_says c cells area z h.reading current h.read)

-- with none
pub begun-fresh : (c : DriveConfig) (f : Found) (more : List Entry) (t : UnitTable) (cells : List Cell) → current_area (geometry_of c) cells ≡ None → (h : StandsFor c f cells []) → NamesUsed c t h.reading → IsDurable c f more 0 (first_saver (geometry_of c) 1 0) t cells
begun-fresh c f more t cells none h used = begun c f more 1 0 t cells h used (fresh_stands (geometry_of c) cells none) (fresh_says c cells h.reading none h.read)
