-- What one area says alone, and what the image reads as then.
use Rattle.std.proofs.Common.{◌≡◌, ℕ, ◌⊎◌, false, List, Option, Some, None, refl, sym, ap, ◌∙◌, subst, inl, inr, take}
use Rattle.std.specs.Prelude.{if◌then◌else◌, option_map}
use Rattle.std.specs.List.{list_all}
use Rattle.fdp_base.specs.declared.config.DriveConfig.{DriveConfig}
use Rattle.fdp_base.specs.declared.config.Geometry.{Geometry}
use Rattle.fdp_base.specs.Placement.{geometry_of}
use Rattle.fdp_flash.specs.declared.cell.Cell.{Cell}
use Rattle.fdp_image.specs.Areas.{Sealed, area_of, current_area, data_pages, sealed_at, sealed_in}
use Rattle.fdp_image.specs.Reading.{Reading}
use Rattle.fdp_image.specs.Reads.{fresh_reading, is_blank, reads_as, said_by_current}
use Rattle.fdp_image.proofs.NextRecord.{current_sealed, read_by}
use Rattle.fdp_journal.specs.JournalState.{JournalState}
use Rattle.fdp_saving.specs.Said.{AreasSay, said_alone}
use Rattle.fdp_saving.specs.Saver.{IsSaverIn, other_area}

-- what is said by the same current area, where the data pages are the same
current_same : (c : DriveConfig) (old new : List Cell) (o : Option (ℕ × Sealed)) → take (data_pages (geometry_of c)) new ≡ take (data_pages (geometry_of c)) old → said_by_current c new o ≡ said_by_current c old o
unfolding said_by_current
current_same c old new None pages = ap (λ (cells : List Cell). if list_all is_blank cells then Some (fresh_reading c) else None) pages
current_same c old new (Some x) pages = refl

-- an area that is as it was says what it said
pub alone_same : (c : DriveConfig) (area : ℕ) (old new : List Cell) → take (data_pages (geometry_of c)) new ≡ take (data_pages (geometry_of c)) old
    → sealed_in (area_of (geometry_of c) area new) ≡ sealed_in (area_of (geometry_of c) area old) → said_alone c area new ≡ said_alone c area old
alone_same c area old new pages same =
    ap (λ (o : Option Sealed). said_by_current c new (option_map (λ (x : Sealed). (area, x)) o)) same ∙ current_same c old new (sealed_at (geometry_of c) old area) pages

-- where an area is the current one, or neither is sealed, the image reads as what it says alone
pub read_alone : (c : DriveConfig) (area : ℕ) (cells : List Cell) → current_area (geometry_of c) cells ≡ sealed_at (geometry_of c) cells area → reads_as c cells ≡ said_alone c area cells
unfolding reads_as
read_alone c area cells is = ap (said_by_current c cells) is

-- an image reads as one of the areas
pub one_is_read : (c : DriveConfig) (s : JournalState) (cells : List Cell) (own tried : Reading) → AreasSay c s cells own tried → (reads_as c cells ≡ Some own) ⊎ (reads_as c cells ≡ Some tried)
one_is_read c s cells own tried h = elim h.current [
  | inl is ↦ inl (read_alone c s.area cells is ∙ h.own_says)
  | inr other ↦ inr (read_by c cells (other_area s.area) other.sealed other.current ∙ other.says)
]

-- an area that is current, and sealed
pub at_current : (g : Geometry) (cells : List Cell) (area : ℕ) (z : Sealed) → current_area g cells ≡ Some (area, z) → current_area g cells ≡ sealed_at g cells area
at_current g cells area z current = current ∙ sym (ap (option_map (λ (x : Sealed). (area, x))) (current_sealed g cells area z current))

-- what the current area says is what is read, and nothing is tried
pub current_says : (c : DriveConfig) (s : JournalState) (cells : List Cell) (z : Sealed) (r tried : Reading) → current_area (geometry_of c) cells ≡ Some (s.area, z) → reads_as c cells ≡ Some r → AreasSay c s cells r tried
current_says c s cells z r tried current read =
    let is = at_current (geometry_of c) cells s.area z current in
    record { own_says = sym (read_alone c s.area cells is) ∙ read; current = inl is }

-- the journal of a saver that is not in doubt is that of the current area
pub sure_current : (c : DriveConfig) (s : JournalState) (cells : List Cell) → geometry_of c ≡ s.geometry → IsSaverIn cells s → s.in_doubt ≡ false → (z : Sealed) × (current_area (geometry_of c) cells ≡ Some (s.area, z))
sure_current c s cells same h sure =
    let j = h.sure sure in
    (j.area, subst (λ (g : Geometry). current_area g cells ≡ Some (s.area, j.area)) (sym same) j.goes_on.current)

pub sure_is_read : (c : DriveConfig) (s : JournalState) (cells : List Cell) (own tried : Reading) → geometry_of c ≡ s.geometry → IsSaverIn cells s → s.in_doubt ≡ false → AreasSay c s cells own tried → reads_as c cells ≡ Some own
sure_is_read c s cells own tried same h sure says =
    let current = sure_current c s cells same h sure in
    read_alone c s.area cells (at_current (geometry_of c) cells s.area current.0 current.1) ∙ says.own_says

-- so nothing is tried
pub sure_says : (c : DriveConfig) (s : JournalState) (cells : List Cell) (own tried other : Reading) → geometry_of c ≡ s.geometry → IsSaverIn cells s → s.in_doubt ≡ false → AreasSay c s cells own tried → AreasSay c s cells own other
sure_says c s cells own tried other same h sure says =
    let current = sure_current c s cells same h sure in
    record { own_says = says.own_says; current = inl (at_current (geometry_of c) cells s.area current.0 current.1) }
