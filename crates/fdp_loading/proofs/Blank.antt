-- Units of data that are all blank.
use Rattle.std.proofs.Common.{◌≡◌, ℕ, zero, suc, ◌+◌, ◌*◌, ◌<◌, ◌≤◌, true, List, [], ◌∷◌, Some, refl, ap, arith, length}
use Rattle.std.specs.Prelude.{IsTrue, slice_get, take}
use Rattle.std.specs.List.{list_all}
use Rattle.std.proofs.lemmas.Bool.{and_parts}
use Rattle.std.proofs.lemmas.Nat.{mul-le, row_fits}
use Rattle.fdp_base.specs.declared.config.Geometry.{Geometry}
use Rattle.fdp_base.specs.Geometry.{all_pages, all_units, data_units}
use Rattle.fdp_flash.specs.declared.cell.Cell.{Cell}
use Rattle.fdp_flash.specs.declared.cell.Cell.TheVariants.{Blank, Torn, Whole}
use Rattle.fdp_flash.specs.Cells.{IsBlankFrom}
use Rattle.fdp_flash.specs.Layout.{first_page}
use Rattle.fdp_image.specs.Areas.{data_pages}
use Rattle.fdp_image.specs.Reads.{is_blank}

blank-cell : (x : Cell) → is_blank x ≡ true → x ≡ Blank
blank-cell Blank h = refl
blank-cell Torn h = absurd cc
blank-cell (Whole spare bytes) h = absurd cc

blank-at : (n : ℕ) (cells : List Cell) → IsTrue (list_all is_blank (take n cells)) → (k : ℕ) → k < n → k < length cells → slice_get cells k ≡ Some Blank
blank-at zero cells h k low there = absurd (omega (arith, low))
blank-at (suc n) [] h k low there = absurd (omega (arith, there))
blank-at (suc n) (x ∷ xs) h zero low there = ap Some (blank-cell x (and_parts (is_blank x) (list_all is_blank (take n xs)) h).0)
blank-at (suc n) (x ∷ xs) h (suc k) low there = blank-at n xs (and_parts (is_blank x) (list_all is_blank (take n xs)) h).1 k (omega (arith, low)) (omega (arith, there))

-- where each page of data is blank, so is each unit of data from any page on
pub blank-unit_from : (g : Geometry) (cells : List Cell) → length cells ≡ all_pages g → IsTrue (list_all is_blank (take (data_pages g) cells)) → (unit page : ℕ) → unit < data_units g → IsBlankFrom g cells (record { unit = unit; page = page })
blank-unit_from g cells size blank unit page low = record {
  blank = λ p from below.
      let fits : first_page g unit + g.unit_pages ≤ data_units g * g.unit_pages = row_fits unit g.unit_pages (data_units g) g.unit_pages low (omega arith) in
      let all : data_units g * g.unit_pages ≤ all_units g * g.unit_pages = mul-le (data_units g) g.unit_pages (all_units g) g.unit_pages (omega arith) (omega arith) in
      blank-at (data_pages g) cells blank (first_page g unit + p) (omega (arith, fits, below)) (omega (arith, fits, below, all, size));
}
