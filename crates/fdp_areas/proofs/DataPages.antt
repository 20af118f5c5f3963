-- Data pages that were looked at.
use Rattle.std.proofs.Common.{◌≡◌, ℕ, zero, suc, ◌+◌, ◌<◌, Bool, true, false, IsTrue, List, [], ◌∷◌, take, Some, refl, ap, ◌∙◌, arith}
use Rattle.std.specs.Prelude.{◌&&◌, slice_get}
use Rattle.std.specs.List.{list_all}
use Rattle.std.proofs.Common.{below_more}
use Rattle.fdp_flash.specs.declared.cell.Cell.{Cell}
use Rattle.fdp_flash.specs.declared.cell.Cell.TheVariants.{Blank}
use Rattle.fdp_image.specs.Reads.{is_blank}
use Rattle.fdp_areas.specs.Data.{AreBlankBelow, IsFirstUsed}

-- all of the pages that come first are blank
pub all_blank : (count : ℕ) (cells : List Cell) → AreBlankBelow count cells → IsTrue (list_all is_blank (take count cells))
all_blank zero cells h = refl
all_blank (suc n) [] h = refl
all_blank (suc n) (c ∷ cs) h =
    let first : Some c ≡ Some Blank = h 0 (omega arith) in
    let same : c ≡ Blank = cc in
    ap (λ (x : Cell). is_blank x && list_all is_blank (take n cs)) same ∙ all_blank n cs (λ k lt. h (suc k) (omega arith))

-- one that is not blank is among them
pub not_all_blank : (count : ℕ) (cells : List Cell) (page : ℕ) (cell : Cell) → page < count → slice_get cells page ≡ Some cell → is_blank cell ≡ false → list_all is_blank (take count cells) ≡ false
not_all_blank zero cells page cell lt at used = absurd (omega arith)
not_all_blank (suc n) [] page cell lt at used = absurd cc
not_all_blank (suc n) (c ∷ cs) zero cell lt at used =
    let same : c ≡ cell = cc in
    ap (λ (x : Cell). is_blank x && list_all is_blank (take n cs)) same ∙ ap (λ (b : Bool). b && list_all is_blank (take n cs)) used
not_all_blank (suc n) (c ∷ cs) (suc page) cell lt at used =
    of_first (is_blank c) (not_all_blank n cs page cell (omega arith) at used)
  where
    of_first : (b : Bool) → list_all is_blank (take n cs) ≡ false → (b && list_all is_blank (take n cs)) ≡ false
    of_first true rest = rest
    of_first false rest = refl

pub first_used : (count : ℕ) (cells : List Cell) (page : ℕ) (cell : Cell) → page < count → slice_get cells page ≡ Some cell → is_blank cell ≡ false → AreBlankBelow page cells → IsFirstUsed count cells page
first_used count cells page cell lt at used before = record { within = lt; cell = cell; holds = at; used = used; before = before; not_all = not_all_blank count cells page cell lt at used }

-- one blank page more
pub blank_more : (i : ℕ) (cells : List Cell) → AreBlankBelow i cells → slice_get cells i ≡ Some Blank → AreBlankBelow (i + 1) cells
blank_more i cells below here = below_more (λ (k : ℕ). slice_get cells k ≡ Some Blank) i below here
