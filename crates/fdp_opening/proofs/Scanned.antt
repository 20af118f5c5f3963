-- The units that an opening finds used, one after another.
use Rattle.std.proofs.Common.{◌≡◌, ◌≢◌, ℕ, zero, suc, ◌+◌, ◌*◌, ◌<◌, ◌≤◌, Bool, true, false, not, IsTrue, List, Option, None, Some, refl, sym, ap, subst, ◌∙◌, arith, ⊎_elim}
use Rattle.std.specs.Prelude.{◌&&◌, slice_get}
use Rattle.std.specs.List.{list_all}
use Rattle.std.specs.Option.{option_map_or}
use Rattle.std.proofs.lemmas.Bool.{cases_eq}
use Rattle.std.proofs.Math.Nat.{mul-le-mul_right}
use Rattle.fdp_base.specs.declared.config.DriveConfig.{DriveConfig}
use Rattle.fdp_base.specs.declared.config.Geometry.{Geometry}
use Rattle.fdp_base.specs.Geometry.{data_units}
use Rattle.fdp_base.specs.Numbers.{numbers_from}
use Rattle.fdp_base.specs.Placement.{geometry_of}
use Rattle.fdp_pages.proofs.fdp_collector.Kept.{changed-here, changed-other}
use Rattle.fdp_flash.specs.declared.cell.Cell.{Cell}
use Rattle.fdp_flash.specs.declared.cell.Cell.TheVariants.{Blank, Torn, Whole}
use Rattle.fdp_flash.specs.FlashState.{FlashState}
use Rattle.fdp_flash.specs.OnlyReads.{ReadsOnly}
use Rattle.fdp_image.specs.Areas.{data_pages}
use Rattle.fdp_image.specs.Reads.{is_blank}
use Rattle.fdp_image.specs.Roomy.{is_blank_at, is_blank_unit, page_in}
use Rattle.fdp_opening.specs.Found.{IsFoundIn}
use Rattle.fdp_opening.specs.Walking.{AreUnitsFoundTo, AreUnseen}
use Rattle.fdp_pages.specs.Finding.{FindsUsed, found_used}
use Rattle.fdp_pages.specs.PageTables.{PageTables}
use Rattle.fdp_rules.specs.Step.{IsDataUnit}
use Rattle.fdp_units.specs.declared.data_unit.DataUnit.{DataUnit}
use Rattle.fdp_units.specs.UnitTable.{Cut, IsUnit, cut_of, unit_at}

-- ---- the pages of a unit

-- the first pages of a unit are blank
abbrev pub AreBlankTo : Geometry → List Cell → ℕ → ℕ → Type 0
AreBlankTo g cells unit at = (page : ℕ) → page < at → slice_get cells (unit * g.unit_pages + page) ≡ Some Blank

pub blank-more : (g : Geometry) (cells : List Cell) (unit at : ℕ) → AreBlankTo g cells unit at → slice_get cells (unit * g.unit_pages + at) ≡ Some Blank → AreBlankTo g cells unit (at + 1)
blank-more g cells unit at h e page below =
    ⊎_elim
    (λ (same : page ≡ at). ap (λ (p : ℕ). slice_get cells (unit * g.unit_pages + p)) same ∙ e)
    (λ (ne : page ≢ at). h page (omega (arith, below, ne)))
    (cases_eq page at)

-- ---- after some looks

pub found-after : (c : DriveConfig) (n unit : ℕ) (a b : FlashState) (x : DataUnit) → ReadsOnly n a b → IsFoundIn c a unit x → IsFoundIn c b unit x
found-after c n unit a b x reads h = record {
  used = h.used;
  found = h.found;
  told = λ t.
      let told : IsTrue a.told = subst IsTrue reads.held.run.told t in
      h.told told ∙ ap (λ (cells : List Cell). not (is_blank_unit (geometry_of c) cells unit)) (sym (reads.held.cells told));
}

-- ---- one unit

pub units-first : (c : DriveConfig) (s : FlashState) (t : PageTables) → AreUnseen c t → AreUnitsFoundTo c s 0 t t
units-first c s t h = record {
  units = λ u there below. absurd (omega (arith, below));
  unseen = λ u there above. h.free u there;
  rest = record { cut = refl; worn = refl; owners = refl; handles = refl; passes = refl };
}

-- the unit is as it was, and free
pub unit-free : (c : DriveConfig) (n unit : ℕ) (a b : FlashState) (old t : PageTables) → IsDataUnit c unit → ReadsOnly n a b → (IsTrue a.told → false ≡ not (is_blank_unit (geometry_of c) a.cells unit)) → AreUnitsFoundTo c a unit old t → AreUnitsFoundTo c b (unit + 1) old t
unit-free c n unit a b old t there reads told h = record {
  units = λ u is below. ⊎_elim
      (λ (same : u ≡ unit).
      let here : IsFoundIn c a unit (unit_at t.units unit) = record {
        used = false;
        found = record { state = ap (λ (x : DataUnit). x.state) (h.unseen unit there (omega arith)); next = ap (λ (x : DataUnit). x.next) (h.unseen unit there (omega arith)) };
        told = told;
      } in
      subst (λ (k : ℕ). IsFoundIn c b k (unit_at t.units k)) (sym same) (found-after c n unit a b (unit_at t.units unit) reads here))
      (λ (ne : u ≢ unit). found-after c n u a b (unit_at t.units u) reads (h.units u is (omega (arith, below, ne))))
      (cases_eq u unit);
  unseen = λ u is above. h.unseen u is (omega (arith, above));
  rest = h.rest;
}

-- the unit was found used
pub unit-used : (c : DriveConfig) (n unit : ℕ) (a b : FlashState) (old t now : PageTables) → IsDataUnit c unit → ReadsOnly n a b → (IsTrue a.told → true ≡ not (is_blank_unit (geometry_of c) a.cells unit)) → t.units.unit_pages ≡ c.unit_pages → FindsUsed t now unit → AreUnitsFoundTo c a unit old t → AreUnitsFoundTo c b (unit + 1) old now
unit-used c n unit a b old t now there reads told pages finds h = record {
  units = λ u is below. ⊎_elim
      (λ (same : u ≡ unit).
      let is_now : unit_at now.units unit ≡ found_used t.units.unit_pages (unit_at t.units unit) = changed-here t.units now.units unit _ finds.unit_is in
      let here : IsFoundIn c a unit (unit_at now.units unit) = record {
        used = true;
        found = record { state = ap (λ (x : DataUnit). x.state) is_now; next = ap (λ (x : DataUnit). x.next) is_now ∙ pages };
        told = told;
      } in
      subst (λ (k : ℕ). IsFoundIn c b k (unit_at now.units k)) (sym same) (found-after c n unit a b (unit_at now.units unit) reads here))
      (λ (ne : u ≢ unit).
      let still : unit_at now.units u ≡ unit_at t.units u = changed-other t.units now.units unit u _ finds.unit_is ne in
      subst (IsFoundIn c b u) (sym still) (found-after c n u a b (unit_at t.units u) reads (h.units u is (omega (arith, below, ne)))))
      (cases_eq u unit);
  unseen = λ u is above.
      let ne : u ≢ unit = λ same. absurd (omega (arith, above, same)) in
      changed-other t.units now.units unit u _ finds.unit_is ne ∙ h.unseen u is (omega (arith, above));
  rest = record {
    cut = finds.unit_is.cut ∙ h.rest.cut;
    worn = finds.worn ∙ h.rest.worn;
    owners = finds.owners ∙ h.rest.owners;
    handles = finds.handles ∙ h.rest.handles;
    passes = finds.passes ∙ h.rest.passes;
  };
}

-- ---- whether a unit is blank

and-first : (a b : Bool) → (a && b) ≡ true → a ≡ true
and-first true b e = refl
and-first false b e = e

and-second : (a b : Bool) → (a && b) ≡ true → b ≡ true
and-second true b e = e
and-second false b e = absurd cc

each-number : (test : ℕ → Bool) (first count : ℕ) → list_all test (numbers_from first count) ≡ true → (i : ℕ) → first ≤ i → i < first + count → test i ≡ true
unfolding numbers_from
each-number test first zero h i low high = absurd (omega (arith, low, high))
each-number test first (suc count) h i low high =
    ⊎_elim
    (λ (is : i ≡ first). ap test is ∙ and-first (test first) (list_all test (numbers_from (first + 1) count)) h)
    (λ (ne : i ≢ first). each-number test (first + 1) count (and-second (test first) (list_all test (numbers_from (first + 1) count)) h) i (omega (arith, low, ne)) (omega (arith, high)))
    (cases_eq i first)

all-numbers : (test : ℕ → Bool) (first count : ℕ) → ((i : ℕ) → first ≤ i → i < first + count → test i ≡ true) → list_all test (numbers_from first count) ≡ true
unfolding numbers_from
all-numbers test first zero h = refl
all-numbers test first (suc count) h =
    ap (λ (b : Bool). b && list_all test (numbers_from (first + 1) count)) (h first (omega arith) (omega arith))
    ∙ all-numbers test (first + 1) count (λ i low high. h i (omega (arith, low)) (omega (arith, high)))

blank-cell : (o : Option Cell) → option_map_or is_blank o false ≡ true → o ≡ Some Blank
blank-cell None e = absurd cc
blank-cell (Some Blank) e = refl
blank-cell (Some Torn) e = absurd cc
blank-cell (Some (Whole spare bytes)) e = absurd cc

pub blank-pages : (g : Geometry) (cells : List Cell) (unit : ℕ) → is_blank_unit g cells unit ≡ true → AreBlankTo g cells unit g.unit_pages
unfolding is_blank_unit
blank-pages g cells unit h page within = blank-cell (slice_get cells (unit * g.unit_pages + page)) (each-number (λ k. is_blank_at g cells (page_in unit k)) 0 g.unit_pages h page (omega arith) (omega (arith, within)))

pub blank-unit : (g : Geometry) (cells : List Cell) (unit at : ℕ) → g.unit_pages ≤ at → AreBlankTo g cells unit at → false ≡ not (is_blank_unit g cells unit)
unfolding is_blank_unit
blank-unit g cells unit at all h = sym (ap not (all-numbers (λ k. is_blank_at g cells (page_in unit k)) 0 g.unit_pages (λ page low high. ap (λ (o : Option Cell). option_map_or is_blank o false) (h page (omega (arith, high, all))))))

-- a unit with a page that is not blank
pub used-unit : (g : Geometry) (cells : List Cell) (unit page : ℕ) (cell : Cell) → page < g.unit_pages → slice_get cells (unit * g.unit_pages + page) ≡ Some cell → is_blank cell ≡ false → true ≡ not (is_blank_unit g cells unit)
used-unit g cells unit page cell within at used = cases (is_blank_unit g cells unit) refl where
  cases : (b : Bool) → is_blank_unit g cells unit ≡ b → true ≡ not (is_blank_unit g cells unit)
  cases false e = sym (ap not e)
  cases true e =
      let both : Some cell ≡ Some Blank = sym at ∙ blank-pages g cells unit e page within in
      let same : cell ≡ Blank = cc in
      let no : false ≡ true = sym used ∙ ap is_blank same in
      absurd cc

-- ---- where pages and units are

pub page-below : (g : Geometry) (unit page : ℕ) → unit < data_units g → page < g.unit_pages → unit * g.unit_pages + page < data_pages g
page-below g unit page low within =
    let next : (unit + 1) * g.unit_pages ≤ data_units g * g.unit_pages = mul-le-mul_right g.unit_pages (omega (arith, low)) in
    let product : (unit + 1) * g.unit_pages ≡ unit * g.unit_pages + g.unit_pages = omega arith in
    omega (arith, next, product, within)

pub unit-there : (c : DriveConfig) (t : PageTables) (unit : ℕ) → cut_of t.units ≡ record { unit_pages = c.unit_pages; group_units = c.units; groups = c.groups } → IsDataUnit c unit → IsUnit t.units unit
unit-there c t unit cut there = subst (λ (x : Cut). unit < x.groups * x.group_units) (sym cut) there

-- ---- one unit, used or not

pub unit-noted : (c : DriveConfig) (n unit : ℕ) (used : Bool) (a b : FlashState) (old t now : PageTables) → IsDataUnit c unit → ReadsOnly n a b → (IsTrue a.told → used ≡ not (is_blank_unit (geometry_of c) a.cells unit)) → t.units.unit_pages ≡ c.unit_pages
    → (used ≡ true → FindsUsed t now unit) → (used ≡ false → now ≡ t) → AreUnitsFoundTo c a unit old t → AreUnitsFoundTo c b (unit + 1) old now
unit-noted c n unit true a b old t now there reads told pages finds same h = unit-used c n unit a b old t now there reads told pages (finds refl) h
unit-noted c n unit false a b old t now there reads told pages finds same h = subst (AreUnitsFoundTo c b (unit + 1) old) (sym (same refl)) (unit-free c n unit a b old t there reads told h)
