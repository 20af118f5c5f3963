-- What a saver begins with.
use Rattle.std.proofs.Common.{◌≡◌, ℕ, ◌+◌, length, Bool, true, false, List, Option, Some, None, refl, sym, ap, ◌∙◌, arith, inl, ◌≤◌, ◌<◌, ◌*◌, IsTrue, subst}
use Rattle.std.proofs.Math.Nat.{mul-le-mul_right}
use Rattle.std.specs.Prelude.{if◌then◌else◌, nat_lt, option_map}
use Rattle.fdp_base.specs.declared.config.DriveConfig.{DriveConfig}
use Rattle.fdp_base.specs.declared.config.Geometry.{Geometry}
use Rattle.fdp_base.specs.Geometry.{IsValidGeometry, all_pages, all_units}
use Rattle.fdp_base.specs.Placement.{geometry_of}
use Rattle.fdp_flash.specs.declared.cell.Cell.{Cell}
use Rattle.fdp_flash.specs.Area.{IsBlankArea}
use Rattle.fdp_flash.specs.Cells.{IsBlankFlash}
use Rattle.fdp_flash.specs.FlashState.{FlashState, IsWellFormed}
use Rattle.fdp_flash.specs.Layout.{first_page}
use Rattle.fdp_checkpoint.proofs.Areas.{blank_area}
use Rattle.fdp_checkpoint.proofs.SealedAnew.{blank_unsealed}
use Rattle.fdp_image.specs.Areas.{Sealed, area_of, area_unit, current_area, later_of, sealed_at, sealed_in}
use Rattle.fdp_image.specs.Reading.{Reading}
use Rattle.fdp_image.specs.Reads.{reads_as}
use Rattle.fdp_image.proofs.NextRecord.{current_sealed}
use Rattle.fdp_saving.specs.Said.{AreasSay}
use Rattle.fdp_saving.specs.Saver.{IsSaverIn, first_saver}
use Rattle.fdp_saving.proofs.Alone.{current_says, read_alone}

-- ---- a current area

pub found_stands : (g : Geometry) (cells : List Cell) (area : ℕ) (z : Sealed) → current_area g cells ≡ Some (area, z) → IsSaverIn cells (first_saver g area z.stamp.epoch)
found_stands g cells area z current =
    let sealed = current_sealed g cells area z current in
    record {
      sealed = λ some. (z, sealed);
      epoch = λ y e.
          let both : Some z ≡ Some y = sym sealed ∙ e in
          let same : z ≡ y = cc in
          let at : z.stamp.epoch ≡ y.stamp.epoch = ap (λ (w : Sealed). w.stamp.epoch) same in
          omega (arith, at);
      sure = λ wrong. absurd cc;
    }

pub found_says : (c : DriveConfig) (cells : List Cell) (area : ℕ) (z : Sealed) (r : Reading) → current_area (geometry_of c) cells ≡ Some (area, z) → reads_as c cells ≡ Some r
    → AreasSay c (first_saver (geometry_of c) area z.stamp.epoch) cells r r
found_says c cells area z r current read = current_says c (first_saver (geometry_of c) area z.stamp.epoch) cells z r r current read

-- ---- no current area

abbrev numbered : ℕ → Option Sealed → Option (ℕ × Sealed)
numbered area o = option_map (λ (x : Sealed). (area, x)) o

abbrev one_of : Bool → Sealed → Sealed → Option (ℕ × Sealed)
one_of later x y = if later then Some (1, y) else Some (0, x)

none_of_two : (a b : Option Sealed) → later_of (numbered 0 a) (numbered 1 b) ≡ None → b ≡ None
none_of_two a None none = refl
none_of_two None (Some y) none = absurd cc
none_of_two (Some x) (Some y) none = some_of_two (nat_lt x.stamp.epoch y.stamp.epoch) x y none where
  some_of_two : (b : Bool) (x y : Sealed) → one_of b x y ≡ None → Some y ≡ None
  some_of_two true x y none = absurd cc
  some_of_two false x y none = absurd cc

second_unsealed : (g : Geometry) (cells : List Cell) → current_area g cells ≡ None → sealed_in (area_of g 1 cells) ≡ None
unfolding current_area
second_unsealed g cells none = none_of_two (sealed_in (area_of g 0 cells)) (sealed_in (area_of g 1 cells)) none

pub fresh_stands : (g : Geometry) (cells : List Cell) → current_area g cells ≡ None → IsSaverIn cells (first_saver g 1 0)
fresh_stands g cells none = record {
  sealed = λ some. absurd (omega (arith, some));
  epoch = λ z e. (let bad : None ≡ Some z = sym (second_unsealed g cells none) ∙ e in absurd cc);
  sure = λ wrong. absurd cc;
}

pub fresh_says : (c : DriveConfig) (cells : List Cell) (r : Reading) → current_area (geometry_of c) cells ≡ None → reads_as c cells ≡ Some r → AreasSay c (first_saver (geometry_of c) 1 0) cells r r
fresh_says c cells r none read =
    let g = geometry_of c in
    let at : current_area g cells ≡ sealed_at g cells 1 = none ∙ sym (ap (numbered 1) (second_unsealed g cells none)) in
    record { own_says = sym (read_alone c 1 cells at) ∙ read; current = inl at }

-- ---- a blank flash

-- each unit of a blank flash is blank
blank_units : (g : Geometry) (cells : List Cell) (area : ℕ) → area ≤ 1 → IsBlankFlash g cells → IsBlankArea g (area_unit g area) g.area_units cells
blank_units g cells area two blank unit least most = record {
  blank = λ page lt. blank.blank (first_page g unit + page) (inside g area unit page two most lt);
}
  where
    inside : (g : Geometry) (area unit page : ℕ) → area ≤ 1 → unit < area_unit g area + g.area_units → page < g.unit_pages → first_page g unit + page < all_pages g
    inside g area unit page two most lt =
        let n = g.unit_pages in
        let a : area * g.area_units ≤ 1 * g.area_units = mul-le-mul_right g.area_units two in
        let few : unit + 1 ≤ all_units g = omega (arith, most, a) in
        let far : (unit + 1) * n ≤ all_units g * n = mul-le-mul_right n few in
        omega (arith, lt, far)

blank_area_unsealed : (g : Geometry) (cells : List Cell) (area : ℕ) → area ≤ 1 → IsValidGeometry g → length cells ≡ all_pages g → IsBlankFlash g cells → sealed_in (area_of g area cells) ≡ None
blank_area_unsealed g cells area two valid size blank = blank_unsealed (area_of g area cells) (blank_area g area cells valid two size (blank_units g cells area two blank))

pub blank_current : (g : Geometry) (cells : List Cell) → IsValidGeometry g → length cells ≡ all_pages g → IsBlankFlash g cells → current_area g cells ≡ None
unfolding current_area
blank_current g cells valid size blank =
    let first = blank_area_unsealed g cells 0 (omega arith) valid size blank in
    let second = blank_area_unsealed g cells 1 (omega arith) valid size blank in
    λ i. later_of (numbered 0 (first i)) (numbered 1 (second i))

-- so it is that of a new saver
pub blank_stands : (s : FlashState) (g : Geometry) → IsWellFormed s → s.geometry ≡ g → IsTrue s.told → IsBlankFlash g s.cells → IsSaverIn s.cells (first_saver g 1 0)
blank_stands s g w same told blank = fresh_stands g s.cells (blank_current g s.cells (subst IsValidGeometry same w.geometry) (w.size told ∙ ap all_pages same) blank)
