-- Readings that say a beginning of a history, as the history and the cells go on.
use Rattle.std.proofs.Common.{◌≡◌, ℕ, ◌+◌, ◌≤◌, List, [], ◌++◌, length, Some, sym, ◌∙◌, ap, subst, arith, append_assoc, length-append}
use Rattle.std.specs.Prelude.{All, Contains}
use Rattle.std.proofs.lemmas.List.{append-nil}
use Rattle.fdp_base.specs.declared.config.DriveConfig.{DriveConfig}
use Rattle.fdp_base.specs.declared.entry.Entry.{Entry}
use Rattle.fdp_base.specs.Placement.{geometry_of}
use Rattle.fdp_durability.specs.Beginnings.{CanBeSaved, NamesUsed, SaysBeginning}
use Rattle.fdp_flash.specs.declared.cell.Cell.{Cell}
use Rattle.fdp_flash.specs.Layout.{page_number}
use Rattle.fdp_image.specs.Kept.{StandsForBeginning}
use Rattle.fdp_image.specs.Reading.{Reading}
use Rattle.fdp_image.specs.Reads.{reads_as}
use Rattle.fdp_image.specs.Saving.{SameDataPages}
use Rattle.fdp_readings.specs.Drawn.{drawn}
use Rattle.fdp_readings.specs.Named.{KeepsNamed}
use Rattle.fdp_readings.proofs.Drawing.{block-drawn, drawn-says, drawn-valid}
use Rattle.fdp_readings.proofs.Keeping.{says-kept, system-named, valid-kept}
use Rattle.fdp_readings.proofs.Ways.{drawn-ways, ways-kept}
use Rattle.fdp_rules.specs.History.{Found, point_of}
use Rattle.fdp_rules.specs.Point.{Point}
use Rattle.fdp_saving.specs.Said.{ReadsAsOneOf}
use Rattle.fdp_units.specs.UnitTable.{UnitTable}

-- ---- beginnings

-- a beginning of a history is one of each that goes on from it
pub says-grown : (c : DriveConfig) (f : Found) (es more : List Entry) (least : ℕ) (cells : List Cell) (r : Reading) → SaysBeginning c f es least cells r → SaysBeginning c f (es ++ more) least cells r
says-grown c f es more least cells r h = record {
  kept = h.kept;
  lost = h.lost ++ more;
  beginning = record { split = ap (λ (xs : List Entry). xs ++ more) h.beginning.split ∙ append_assoc h.kept h.lost more };
  enough = h.enough;
  valid = h.valid;
  ways = h.ways;
  says = h.says;
}

pub stands-grown : (c : DriveConfig) (f : Found) (es more : List Entry) (least : ℕ) (image : List Cell) → StandsForBeginning c f es least image → StandsForBeginning c f (es ++ more) least image
stands-grown c f es more least image h = record {
  kept = h.kept;
  lost = h.lost ++ more;
  beginning = record { split = ap (λ (xs : List Entry). xs ++ more) h.beginning.split ∙ append_assoc h.kept h.lost more };
  enough = h.enough;
  stands = h.stands;
}

pub says-less : (c : DriveConfig) (f : Found) (es : List Entry) (most least : ℕ) (cells : List Cell) (r : Reading) → least ≤ most → SaysBeginning c f es most cells r → SaysBeginning c f es least cells r
says-less c f es most least cells r fewer h = record {
  kept = h.kept;
  lost = h.lost;
  beginning = h.beginning;
  enough = omega (arith, fewer, h.enough);
  valid = h.valid;
  ways = h.ways;
  says = h.says;
}

pub stands-less : (c : DriveConfig) (f : Found) (es : List Entry) (most least : ℕ) (image : List Cell) → least ≤ most → StandsForBeginning c f es most image → StandsForBeginning c f es least image
stands-less c f es most least image fewer h = record {
  kept = h.kept;
  lost = h.lost;
  beginning = h.beginning;
  enough = omega (arith, fewer, h.enough);
  stands = h.stands;
}

-- no more entries are firm than there are
pub firm-most : (c : DriveConfig) (f : Found) (es : List Entry) (least : ℕ) (cells : List Cell) (r : Reading) → SaysBeginning c f es least cells r → least ≤ length es
firm-most c f es least cells r h =
    let size : length es ≡ length h.kept + length h.lost = ap length h.beginning.split ∙ length-append h.kept h.lost in
    omega (arith, size, h.enough)

-- an image that reads so stands for the beginning
pub says-stands : (c : DriveConfig) (f : Found) (es : List Entry) (least : ℕ) (cells : List Cell) (r : Reading) → reads_as c cells ≡ Some r → SaysBeginning c f es least cells r → StandsForBeginning c f es least cells
says-stands c f es least cells r read h = record {
  kept = h.kept;
  lost = h.lost;
  beginning = h.beginning;
  enough = h.enough;
  stands = record { reading = r; read = read; valid = h.valid; ways = h.ways; says = h.says };
}

-- what the history draws says all of it
pub says-all : (c : DriveConfig) (f : Found) (es : List Entry) (t : UnitTable) (cells : List Cell) → CanBeSaved c (point_of c f es) t cells → SaysBeginning c f es (length es) cells (drawn c (point_of c f es))
says-all c f es t cells can = record {
  kept = es;
  lost = [];
  beginning = record { split = sym (append-nil es) };
  enough = omega arith;
  valid = drawn-valid c (point_of c f es) cells can.orderly can.standing can.holds can.listed;
  ways = drawn-ways c (point_of c f es) cells can.standing can.holds can.ways;
  says = drawn-says c f es cells can.orderly can.standing can.holds;
}

-- ---- cells that change

pub says-in : (c : DriveConfig) (f : Found) (es : List Entry) (least : ℕ) (old new : List Cell) (r : Reading) → KeepsNamed r old new → SaysBeginning c f es least old r → SaysBeginning c f es least new r
says-in c f es least old new r keeps h = record {
  kept = h.kept;
  lost = h.lost;
  beginning = h.beginning;
  enough = h.enough;
  valid = valid-kept c r old new keeps h.valid;
  ways = ways-kept c r old new keeps h.ways;
  says = says-kept c r old new keeps f h.kept h.says;
}

-- what can be saved, where the data pages stay
pub can-in : (c : DriveConfig) (p : Point) (t : UnitTable) (old new : List Cell) → SameDataPages c old new → CanBeSaved c p t old → CanBeSaved c p t new
can-in c p t old new same can =
    let valid = drawn-valid c p old can.orderly can.standing can.holds can.listed in
    record {
      orderly = can.orderly;
      standing = can.standing;
      listed = can.listed;
      holds = λ nsid lba b spot there site.
          let held = can.holds nsid lba b spot there site in
          let page = page_number (geometry_of c) spot in
          let low = (valid.blocks nsid lba page (block-drawn c p nsid lba b spot there site)).data_page in
          record {
            spare = held.spare;
            whole = same page low ∙ held.whole;
            said = held.said;
            says = held.says;
            nsid_is = held.nsid_is;
            lba_is = held.lba_is;
            rg_is = held.rg_is;
            ruh_is = held.ruh_is;
            generation_is = held.generation_is;
          };
      ways = can.ways;
      used = can.used;
    }

-- ---- readings of which each says a beginning

-- a reading says a beginning, and names pages that were used
pub record Tells (c : DriveConfig) (f : Found) (es : List Entry) (least : ℕ) (t : UnitTable) (cells : List Cell) (r : Reading) : Type 0 where
  pub says : SaysBeginning c f es least cells r
  pub used : NamesUsed c t r

pub tells-grown : (c : DriveConfig) (f : Found) (es more : List Entry) (least : ℕ) (t : UnitTable) (cells : List Cell) (r : Reading) → Tells c f es least t cells r → Tells c f (es ++ more) least t cells r
tells-grown c f es more least t cells r h = record { says = says-grown c f es more least cells r h.says; used = h.used }

pub tells-less : (c : DriveConfig) (f : Found) (es : List Entry) (most least : ℕ) (t : UnitTable) (cells : List Cell) (r : Reading) → least ≤ most → Tells c f es most t cells r → Tells c f es least t cells r
tells-less c f es most least t cells r fewer h = record { says = says-less c f es most least cells r fewer h.says; used = h.used }

pub tells-all : (c : DriveConfig) (f : Found) (es : List Entry) (t : UnitTable) (cells : List Cell) → CanBeSaved c (point_of c f es) t cells → Tells c f es (length es) t cells (drawn c (point_of c f es))
tells-all c f es t cells can = record { says = says-all c f es t cells can; used = can.used }

-- where the data pages stay
pub tells-in : (c : DriveConfig) (f : Found) (es : List Entry) (least : ℕ) (t : UnitTable) (old new : List Cell) (r : Reading) → SameDataPages c old new → Tells c f es least t old r → Tells c f es least t new r
tells-in c f es least t old new r same h = record {
  says = says-in c f es least old new r (system-named c r old new h.says.valid same) h.says;
  used = h.used;
}

pub among : (P : Reading → Type 0) (rs : List Reading) (r : Reading) → All P rs → Contains rs r → P r
among P rs r all has = subst P has.2 (all has.0 r has.1)

-- an image that reads as one of these, with its data pages as they were, stands for a beginning
pub image-stands : (c : DriveConfig) (f : Found) (es : List Entry) (least : ℕ) (t : UnitTable) (old image : List Cell) (rs : List Reading) → All (Tells c f es least t old) rs → ReadsAsOneOf c old rs image → StandsForBeginning c f es least image
image-stands c f es least t old image rs all h =
    says-stands c f es least image h.reading h.reads
    (tells-in c f es least t old image h.reading h.data_pages_same (among (Tells c f es least t old) rs h.reading all h.among)).says
