-- What a ledger promises of a group that was worn.
use Rattle.std.proofs.Common.{◌≡◌, ◌≢◌, ⊎_elim, length, ℕ, zero, suc, ◌+◌, ◌-◌, ◌*◌, ◌<◌, ◌≤◌, Bool, true, false, not, ◌&&◌, ◌||◌, List, Option, Some, None, refl, sym, ◌∙◌, ap, subst, arith}
use Rattle.std.specs.Prelude.{IsFalse, IsTrue, slice_get}
use Rattle.std.specs.List.{list_all}
use Rattle.std.specs.Option.{option_map_or}
use Rattle.std.proofs.lemmas.Bool.{cases_eq}
use Rattle.fdp_base.specs.declared.config.Geometry.{Geometry}
use Rattle.fdp_base.specs.Numbers.{count_below, numbers_from}
use Rattle.fdp_base.specs.Placement.{geometry_of}
use Rattle.fdp_base.proofs.Sums.{count_from}
use Rattle.fdp_book.specs.Book.{BookSeen, state_in}
use Rattle.fdp_flash.specs.declared.cell.Cell.{Cell}
use Rattle.fdp_flash.specs.declared.cell.Cell.TheVariants.{Blank, Torn, Whole}
use Rattle.fdp_flash.specs.Cells.{IsBlankUnit}
use Rattle.fdp_flash.specs.FlashState.{FlashState}
use Rattle.fdp_flash.specs.Layout.{first_page}
use Rattle.fdp_book.specs.fdp_locations.Located.{AreUnitsOf}
use Rattle.fdp_book.proofs.fdp_locations.Others.{is-group}
use Rattle.fdp_units.specs.DataUnits.{is_free, is_lost}
use Rattle.fdp_units.specs.UnitTable.{Cut, HasNoFree, IsGroup, IsUnit, UnitTable, state_at}
use Rattle.fdp_units.proofs.Tables.{group-of-place, unit-there}
use Rattle.fdp_ledger.specs.declared.counts.Counts.{Counts}
use Rattle.fdp_ledger.specs.Start.{KnowsUnits, start_of}
use Rattle.fdp_ledger.specs.Ledger.{IsLedger, is_vain}
use Rattle.fdp_ledger.specs.Uses.{idle_erases, used_by}
use Rattle.fdp_ledger.specs.WornOut.{FailsIn, IsWornOut, blank_units, calls_since}
use Rattle.fdp_image.specs.Reads.{is_blank}
use Rattle.fdp_image.specs.Roomy.{is_blank_unit}
use Rattle.fdp_ledger.proofs.Counting.{still-bound}
use Rattle.fdp_ledger.proofs.Vain.{row-vain}

no : true ≡ false → ⊥
no e = cc

-- ---- a unit that is all blank

and-first : (a b : Bool) → (a && b) ≡ true → a ≡ true
and-first true b e = refl
and-first false b e = e

and-second : (a b : Bool) → (a && b) ≡ true → b ≡ true
and-second true b e = e
and-second false b e = absurd cc

all-numbers : (test : ℕ → Bool) (first count : ℕ) → list_all test (numbers_from first count) ≡ true → (i : ℕ) → first ≤ i → i < first + count → test i ≡ true
unfolding numbers_from
all-numbers test first zero h i low high = absurd (omega (arith, low, high))
all-numbers test first (suc count) h i low high = ⊎_elim
    (λ (is : i ≡ first). ap test is ∙ and-first (test first) (list_all test (numbers_from (first + 1) count)) h)
    (λ (ne : i ≢ first). all-numbers test (first + 1) count (and-second (test first) (list_all test (numbers_from (first + 1) count)) h) i (omega (arith, low, ne)) (omega (arith, high)))
    (cases_eq i first)

blank-cell : (o : Option Cell) → option_map_or is_blank o false ≡ true → o ≡ Some Blank
blank-cell None e = absurd cc
blank-cell (Some Blank) e = refl
blank-cell (Some Torn) e = absurd cc
blank-cell (Some (Whole spare bytes)) e = absurd cc

pub blank-unit : (g : Geometry) (cells : List Cell) (unit : ℕ) → is_blank_unit g cells unit ≡ true → IsBlankUnit g cells unit
unfolding is_blank_unit
blank-unit g cells unit h = record {
  blank = λ page within. blank-cell (slice_get cells (first_page g unit + page)) (all-numbers (λ k. option_map_or is_blank (slice_get cells (first_page g unit + k)) false) 0 g.unit_pages h page (omega arith) (omega (arith, within)));
}

-- ---- a group without a free unit

module _ (handed : Counts) (b : BookSeen) (now : FlashState) (rg : ℕ) (low : rg < b.config.groups) (units : AreUnitsOf b.config (state_in b) b.pages) (geometry : now.geometry ≡ geometry_of b.config) (none : HasNoFree b.pages.units rg) (was : IsLedger handed b now) where
  abbrev t : UnitTable
  t = b.pages.units

  size : now.geometry.units ≡ t.group_units
  size = ap (λ (g : Geometry). g.units) geometry ∙ sym (ap (λ (k : Cut). k.group_units) units.cut)

  there : IsGroup t rg
  there = is-group b.config (state_in b) b.pages rg units low

  -- which units had a page is known
  known : IsTrue now.told → KnowsUnits now.told (start_of b)
  known told = ap (λ (x : Bool). (start_of b).fresh || x) told ∙ or-true (start_of b).fresh where
    or-true : (x : Bool) → (x || true) ≡ true
    or-true true = refl
    or-true false = refl

  -- a unit of it that is all blank and not lost was taken in vain
  vain : IsTrue now.told → (i : ℕ) → i < t.group_units → (is_blank_unit now.geometry now.cells (rg * t.group_units + i) && not ((state_in b).is_lost (rg * t.group_units + i))) ≡ true → is_vain (start_of b) t b.entries (rg * t.group_units + i) ≡ true
  vain told i within h =
      taken (is_free (state_at t (rg * t.group_units + i))) (used_by (start_of b) b.entries (rg * t.group_units + i)) refl refl where
        unit : IsUnit t (rg * t.group_units + i)
        unit = unit-there t rg i there within

        kept : is_lost (state_at t (rg * t.group_units + i)) ≡ false
        kept = sym (units.agrees.lost (rg * t.group_units + i) unit) ∙ unlost ((state_in b).is_lost (rg * t.group_units + i)) (and-second (is_blank_unit now.geometry now.cells (rg * t.group_units + i)) (not ((state_in b).is_lost (rg * t.group_units + i))) h) where
          unlost : (x : Bool) → not x ≡ true → x ≡ false
          unlost true e = absurd cc
          unlost false e = refl

        taken : (free used : Bool) → is_free (state_at t (rg * t.group_units + i)) ≡ free → used_by (start_of b) b.entries (rg * t.group_units + i) ≡ used → is_vain (start_of b) t b.entries (rg * t.group_units + i) ≡ true
        taken true used is e = absurd (none (rg * t.group_units + i) (record { is_unit = unit; group = group-of-place t rg i within; free = is }))
        taken false true is e = absurd (was.units.used told (rg * t.group_units + i) unit e kept (blank-unit now.geometry now.cells (rg * t.group_units + i) (and-first (is_blank_unit now.geometry now.cells (rg * t.group_units + i)) (not ((state_in b).is_lost (rg * t.group_units + i))) h)))
        taken false false is e = ap (λ (x : Bool). not x && not (used_by (start_of b) b.entries (rg * t.group_units + i))) is ∙ ap (λ (x : Bool). not x) e

  abbrev blank-test : ℕ → Bool
  blank-test u = is_blank_unit now.geometry now.cells u && not ((state_in b).is_lost u)

  few : IsTrue now.told → blank_units now.geometry now.cells (state_in b).is_lost rg ≤ count_below (length t.groups * t.group_units) (is_vain (start_of b) t b.entries)
  few told =
      let cut : blank_units now.geometry now.cells (state_in b).is_lost rg ≡ count_from (λ i. blank-test (rg * t.group_units + i)) 0 t.group_units = ap (λ (k : ℕ). count_from (λ i. blank-test (rg * k + i)) 0 k) size in
      let most = row-vain (start_of b) t b.entries rg blank-test there (vain told) in
      omega (arith, cut, most)

  both : (x y : Bool) → x ≡ true → y ≡ false → (x && not y) ≡ true
  both true false e f = refl
  both true true e f = absurd cc
  both false y e f = absurd cc

  pub worn-out : IsWornOut handed now (state_in b).is_lost rg
  worn-out = record {
    few = λ told. still-bound handed.faults (idle_erases (start_of b) b.entries + count_below (length t.groups * t.group_units) (is_vain (start_of b) t b.entries)) _ now.faults now.faults was.handed_is (let most = few told in omega (arith, most)) (omega arith) (was.units.vain (known told));
    failed = λ told tells i.
        subst (λ (k : ℕ). i < k → IsTrue (is_blank_unit now.geometry now.cells (rg * k + i)) → IsFalse ((state_in b).is_lost (rg * k + i)) → FailsIn (rg * k + i) (calls_since handed now)) (sym size)
        (λ within blank kept. was.units.failed (known told) tells (rg * t.group_units + i) (unit-there t rg i there within)
        (vain told i within (both (is_blank_unit now.geometry now.cells (rg * t.group_units + i)) ((state_in b).is_lost (rg * t.group_units + i)) blank kept)));
  }
