-- Pages by number and by unit, and what stands on them.
use Rattle.std.proofs.Common.{◌≡◌, ℕ, zero, suc, ◌+◌, ◌*◌, ◌/◌, ◌%◌, ◌≤◌, ◌<◌, Bool, true, false, List, Option, Some, None, refl, sym, ◌∙◌, ap, arith, ⊎_elim, slice_get}
use Rattle.std.specs.Prelude.{◌&&◌, ◌||◌, if◌then◌else◌, nat_lt, option_map}
use Rattle.std.specs.List.{list_all, list_any}
use Rattle.std.specs.Option.{option_and_then, option_map_or}
use Rattle.std.proofs.lemmas.Bool.{and_parts, cases_eq, ltb-true}
use Rattle.std.proofs.lemmas.Bool.Decides.{nat_tests}
use Rattle.std.proofs.lemmas.Nat.{div-add-mod', mod_below, same_from_place}
use Rattle.fdp_base.specs.declared.config.DriveConfig.{DriveConfig}
use Rattle.fdp_base.specs.declared.config.Geometry.{Geometry}
use Rattle.fdp_base.specs.declared.entry.Spot.{Spot}
use Rattle.fdp_base.specs.declared.spare.DataSpare.{DataSpare}
use Rattle.fdp_base.specs.Numbers.{numbers_from}
use Rattle.fdp_base.specs.Placement.{geometry_of}
use Rattle.fdp_flash.specs.declared.cell.Cell.{Cell}
use Rattle.fdp_flash.specs.declared.cell.Cell.TheVariants.{Blank, Torn, Whole}
use Rattle.fdp_flash.specs.Cells.{IsBlankUnit}
use Rattle.fdp_flash.specs.Layout.{page_number}
use Rattle.fdp_image.specs.Reading.{spot_of}
use Rattle.fdp_image.specs.Reads.{is_blank}
use Rattle.fdp_image.specs.Roomy.{is_blank_at, is_blank_unit, page_in}
use Rattle.fdp_locations.specs.Held.{held_in, pages_held, written_as}
use Rattle.fdp_locations.specs.Written.{Written}
use Rattle.fdp_records.specs.Spares.{said_by_data}
use Rattle.fdp_rules.specs.Step.{IsDataUnit, IsPage}

-- ---- numbers

-- a page has its number
pub number-back : (c : DriveConfig) (page : ℕ) → page_number (geometry_of c) (spot_of c page) ≡ page
number-back c page = div-add-mod' page c.unit_pages

pub spot-back : (c : DriveConfig) (spot : Spot) → spot.page < c.unit_pages → spot_of c (page_number (geometry_of c) spot) ≡ spot
spot-back c spot low =
    let n : ℕ = page_number (geometry_of c) spot in
    let same = same_from_place (n / c.unit_pages) (n % c.unit_pages) spot.unit spot.page c.unit_pages (mod_below n c.unit_pages (omega (arith, low))) low (number-back c n) in
    λ d. record { unit = same.0 d; page = same.1 d }

-- ---- what a page holds

-- a page of data that is whole, with a spare of data
pub record IsHeld (c : DriveConfig) (cells : List Cell) (spot : Spot) (x : Written) : Type 0 where
  pub page : IsPage c spot
  pub spare : List ℕ
  pub cell : slice_get cells (page_number (geometry_of c) spot) ≡ Some (Whole spare x.bytes)
  pub says : said_by_data spare ≡ Some x.spare

pub held-of : (c : DriveConfig) (cells : List Cell) (spot : Spot) (x : Written) → pages_held c cells spot ≡ Some x → IsHeld c cells spot x
held-of c cells spot x e = of_test (nat_lt spot.unit (c.groups * c.units) && nat_lt spot.page c.unit_pages) refl e where
  of_said : IsPage c spot → (spare bytes : List ℕ) → slice_get cells (page_number (geometry_of c) spot) ≡ Some (Whole spare bytes) → (o : Option DataSpare) → said_by_data spare ≡ o → option_map (written_as bytes) o ≡ Some x → IsHeld c cells spot x
  of_said page spare bytes cell None says some = absurd cc
  of_said page spare bytes cell (Some s) says some =
      let same : written_as bytes s ≡ x = cc in
      record { page = page; spare = spare; cell = cell ∙ ap (λ (y : Written). Some (Whole spare y.bytes)) same; says = says ∙ ap (λ (y : Written). Some y.spare) same }

  of_cell : IsPage c spot → (o : Option Cell) → slice_get cells (page_number (geometry_of c) spot) ≡ o → option_and_then held_in o ≡ Some x → IsHeld c cells spot x
  of_cell page None cell some = absurd cc
  of_cell page (Some Blank) cell some = absurd cc
  of_cell page (Some Torn) cell some = absurd cc
  of_cell page (Some (Whole spare bytes)) cell some = of_said page spare bytes cell (said_by_data spare) refl some

  of_test : (b : Bool) → (nat_lt spot.unit (c.groups * c.units) && nat_lt spot.page c.unit_pages) ≡ b → (if b then option_and_then held_in (slice_get cells (page_number (geometry_of c) spot)) else None) ≡ Some x → IsHeld c cells spot x
  of_test false is some = absurd cc
  of_test true is some =
      let a = and_parts (nat_lt spot.unit (c.groups * c.units)) (nat_lt spot.page c.unit_pages) is in
      of_cell (ltb-true spot.unit (c.groups * c.units) a.0, ltb-true spot.page c.unit_pages a.1) (slice_get cells (page_number (geometry_of c) spot)) refl some

lower : (m n : ℕ) → m < n → nat_lt m n ≡ true
lower m n low = grind (arith, nat_tests)

pub is-held : (c : DriveConfig) (cells : List Cell) (spot : Spot) (spare bytes : List ℕ) (s : DataSpare) → IsPage c spot → slice_get cells (page_number (geometry_of c) spot) ≡ Some (Whole spare bytes) → said_by_data spare ≡ Some s
    → pages_held c cells spot ≡ Some (written_as bytes s)
is-held c cells spot spare bytes s page cell says =
    ap (λ (b : Bool). if b && nat_lt spot.page c.unit_pages then option_and_then held_in (slice_get cells (page_number (geometry_of c) spot)) else None) (lower spot.unit (c.groups * c.units) page.0)
    ∙ ap (λ (b : Bool). if b then option_and_then held_in (slice_get cells (page_number (geometry_of c) spot)) else None) (lower spot.page c.unit_pages page.1)
    ∙ ap (option_and_then held_in) cell ∙ ap (option_map (written_as bytes)) says

-- ---- units

pub all-numbers : (test : ℕ → Bool) (first count : ℕ) → list_all test (numbers_from first count) ≡ true → (i : ℕ) → first ≤ i → i < first + count → test i ≡ true
unfolding numbers_from
all-numbers test first zero h i low high = absurd (omega (arith, low, high))
all-numbers test first (suc count) h i low high =
    let both = and_parts (test first) (list_all test (numbers_from (first + 1) count)) h in
    ⊎_elim
    (λ (is : i ≡ first). ap test is ∙ both.0)
    (λ ne. all-numbers test (first + 1) count both.1 i (omega (arith, low, ne)) (omega (arith, high)))
    (cases_eq i first)

pub any-number : (test : ℕ → Bool) (first count k : ℕ) → first ≤ k → k < first + count → test k ≡ true → list_any test (numbers_from first count) ≡ true
unfolding numbers_from
any-number test first zero k low high is = absurd (omega (arith, low, high))
any-number test first (suc count) k low high is =
    ⊎_elim
    (λ (same : k ≡ first). ap (λ (b : Bool). b || list_any test (numbers_from (first + 1) count)) (sym (ap test same) ∙ is))
    (λ ne. ap (λ (b : Bool). test first || b) (any-number test (first + 1) count k (omega (arith, low, ne)) (omega (arith, high)) is) ∙ either (test first))
    (cases_eq k first)
  where
    either : (b : Bool) → (b || true) ≡ true
    either true = refl
    either false = refl

blank-cell : (o : Option Cell) → option_map_or is_blank o false ≡ true → o ≡ Some Blank
blank-cell None e = absurd cc
blank-cell (Some Blank) e = refl
blank-cell (Some Torn) e = absurd cc
blank-cell (Some (Whole spare bytes)) e = absurd cc

pub blank-unit : (g : Geometry) (cells : List Cell) (unit : ℕ) → is_blank_unit g cells unit ≡ true → IsBlankUnit g cells unit
unfolding is_blank_unit
blank-unit g cells unit h = record {
  blank = λ page low. blank-cell (slice_get cells (page_number g (page_in unit page))) (all-numbers (λ k. is_blank_at g cells (page_in unit k)) 0 g.unit_pages h page (omega arith) (omega (arith, low)));
}

-- pages that are blank are so by the test
blank-each : (test : ℕ → Bool) (from count : ℕ) → ((page : ℕ) → from ≤ page → page < from + count → test page ≡ true) → list_all test (numbers_from from count) ≡ true
unfolding numbers_from
blank-each test from zero h = refl
blank-each test from (suc count) h =
    ap (λ (b : Bool). b && list_all test (numbers_from (from + 1) count)) (h from (omega arith) (omega arith))
    ∙ blank-each test (from + 1) count (λ page low high. h page (omega (arith, low)) (omega (arith, high)))

pub blank-tested : (g : Geometry) (cells : List Cell) (unit : ℕ) → IsBlankUnit g cells unit → is_blank_unit g cells unit ≡ true
unfolding is_blank_unit
blank-tested g cells unit blank = blank-each (λ page. is_blank_at g cells (page_in unit page)) 0 g.unit_pages (λ page low high. ap (λ (o : Option Cell). option_map_or is_blank o false) (blank.blank page (omega (arith, high))))

-- in blank units no page holds anything
pub blank-none : (c : DriveConfig) (cells : List Cell) → ((unit : ℕ) → IsDataUnit c unit → IsBlankUnit (geometry_of c) cells unit) → (spot : Spot) → pages_held c cells spot ≡ None
blank-none c cells blank spot = of (pages_held c cells spot) refl where
  of : (o : Option Written) → pages_held c cells spot ≡ o → pages_held c cells spot ≡ None
  of None e = e
  of (Some x) e =
      let h = held-of c cells spot x e in
      let both : Some Blank ≡ Some (Whole h.spare x.bytes) = sym ((blank spot.unit h.page.0).blank spot.page h.page.1) ∙ h.cell in
      absurd cc
