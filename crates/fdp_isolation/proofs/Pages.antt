-- What stays true of each whole page of a unit.
use Rattle.std.proofs.Common.{◌≡◌, ◌≢◌, ◌⊎◌, ℕ, ◌<◌, List, Some, None, slice_get, sym, ◌∙◌, ap, subst, inl, inr, ⊎_elim, arith}
use Rattle.std.proofs.lemmas.Bool.{cases_eq}
use Rattle.fdp_base.specs.declared.config.DriveConfig.{DriveConfig}
use Rattle.fdp_base.specs.declared.entry.Spot.{Spot}
use Rattle.fdp_base.specs.declared.spare.DataSpare.{DataSpare}
use Rattle.fdp_base.specs.Placement.{geometry_of}
use Rattle.fdp_flash.specs.declared.cell.Cell.{Cell}
use Rattle.fdp_flash.specs.declared.cell.Cell.TheVariants.{Blank, Torn, Whole}
use Rattle.fdp_flash.specs.Cells.{EraseMayLeave, IsBlankFrom, IsBlankUnit, ProgramMayLeave}
use Rattle.fdp_flash.specs.Layout.{page_number}
use Rattle.fdp_flash.proofs.Lists.{set_cases}
use Rattle.fdp_flash.proofs.Pages.{page_number-injective, same_outside_page}
use Rattle.fdp_image.specs.Isolation.{EachPage}
use Rattle.fdp_image.specs.Roomy.{page_in}
use Rattle.fdp_records.specs.Spares.{said_by_data}

-- a page of a unit is whole
abbrev pub IsWhole : DriveConfig → List Cell → ℕ → ℕ → List ℕ → List ℕ → Type 0
IsWhole c cells unit page spare bytes = slice_get cells (page_number (geometry_of c) (page_in unit page)) ≡ Some (Whole spare bytes)

-- each whole page of a unit was so before
abbrev pub KeepsPages : DriveConfig → List Cell → List Cell → ℕ → Type 0
KeepsPages c old new unit = (page : ℕ) (spare bytes : List ℕ) → page < c.unit_pages → IsWhole c new unit page spare bytes → IsWhole c old unit page spare bytes

-- or it has this spare
abbrev pub GetsPage : DriveConfig → List Cell → List Cell → ℕ → List ℕ → Type 0
GetsPage c old new unit spare = (page : ℕ) (other bytes : List ℕ) → page < c.unit_pages → IsWhole c new unit page other bytes → IsWhole c old unit page other bytes ⊎ (other ≡ spare)

-- none is whole
abbrev pub HasNoPage : DriveConfig → List Cell → ℕ → Type 0
HasNoPage c cells unit = (page : ℕ) (spare bytes : List ℕ) → page < c.unit_pages → IsWhole c cells unit page spare bytes → ⊥

-- ---- facts of each page

module _ (c : DriveConfig) (unit : ℕ) where
  pub each-kept : (old new : List Cell) (Fact : DataSpare → Type 0) → KeepsPages c old new unit → EachPage c old unit Fact → EachPage c new unit Fact
  each-kept old new Fact keeps h page spare bytes low is = h page spare bytes low (keeps page spare bytes low is)

  pub each-got : (old new : List Cell) (Fact : DataSpare → Type 0) (spare : List ℕ) (s : DataSpare) → GetsPage c old new unit spare → said_by_data spare ≡ Some s → Fact s → EachPage c old unit Fact → EachPage c new unit Fact
  each-got old new Fact spare s gets says fact h page other bytes low is = ⊎_elim
      (λ was. h page other bytes low was)
      (λ same. (s, ap said_by_data same ∙ says, fact))
      (gets page other bytes low is)

  pub each-none : (cells : List Cell) (Fact : DataSpare → Type 0) → HasNoPage c cells unit → EachPage c cells unit Fact
  each-none cells Fact none page spare bytes low is = absurd (none page spare bytes low is)

  pub each-weaker : (cells : List Cell) (Fact Other : DataSpare → Type 0) → ((s : DataSpare) → Fact s → Other s) → EachPage c cells unit Fact → EachPage c cells unit Other
  each-weaker cells Fact Other weaker h page spare bytes low is = let x = h page spare bytes low is in (x.0, x.1, weaker x.0 x.2)

  pub each-both : (cells : List Cell) (Fact Other : DataSpare → Type 0) → EachPage c cells unit Fact → EachPage c cells unit Other → EachPage c cells unit (λ s. Fact s × Other s)
  each-both cells Fact Other h k page spare bytes low is =
      let x = h page spare bytes low is in
      let y = k page spare bytes low is in
      let same : y.0 ≡ x.0 = one (sym y.1 ∙ x.1) in
      (x.0, x.1, (x.2, subst Other same y.2)) where
        one : {a b : DataSpare} → Some a ≡ Some b → a ≡ b
        one e = cc

-- ---- what calls leave

never : (cell : Cell) → None ≡ Some cell → ⊥
never cell e = cc

unwhole : {cell : Cell} (spare bytes : List ℕ) → (cell ≡ Blank) ⊎ (cell ≡ Torn) → cell ≡ Whole spare bytes → ⊥
unwhole spare bytes h e = ⊎_elim (λ (is : _ ≡ Blank). blank (sym is ∙ e)) (λ (is : _ ≡ Torn). torn (sym is ∙ e)) h where
  blank : Blank ≡ Whole spare bytes → ⊥
  blank x = cc

  torn : Torn ≡ Whole spare bytes → ⊥
  torn x = cc

module _ (c : DriveConfig) (old new : List Cell) where
  -- a program that was done, or failed: another unit keeps its pages
  module _ (spot : Spot) (spare bytes : List ℕ) (left : ProgramMayLeave (geometry_of c) old spot spare bytes new) (inside : spot.page < c.unit_pages) where
    after : (k : ℕ) (cell : Cell) → slice_get new k ≡ Some cell → ((k ≡ page_number (geometry_of c) spot) × (left.cell ≡ cell)) ⊎ ((k ≢ page_number (geometry_of c) spot) × (slice_get old k ≡ Some cell))
    after k cell e = set_cases old (page_number (geometry_of c) spot) k left.cell cell (ap (λ (cells : List Cell). slice_get cells k) (sym left.cells) ∙ e)

    pub program-others : (unit : ℕ) → unit ≢ spot.unit → KeepsPages c old new unit
    program-others unit ne page other content low is = ⊎_elim
        (λ (h : (page_number (geometry_of c) (page_in unit page) ≡ page_number (geometry_of c) spot) × (left.cell ≡ Whole other content)).
        absurd (ne (page_number-injective (geometry_of c) (page_in unit page) spot low inside h.0).0))
        (λ (h : (page_number (geometry_of c) (page_in unit page) ≢ page_number (geometry_of c) spot) × IsWhole c old unit page other content). h.1)
        (after (page_number (geometry_of c) (page_in unit page)) (Whole other content) is)

    -- its own unit gets one with its spare at most
    pub program-own : GetsPage c old new spot.unit spare
    program-own page other content low is = ⊎_elim
        (λ (h : (page_number (geometry_of c) (page_in spot.unit page) ≡ page_number (geometry_of c) spot) × (left.cell ≡ Whole other content)).
        inr (⊎_elim
        (λ (blank : left.cell ≡ Blank). absurd (unwhole other content (inl blank) h.1))
        (⊎_elim
        (λ (torn : left.cell ≡ Torn). absurd (unwhole other content (inr torn) h.1))
        (λ (whole : left.cell ≡ Whole spare bytes). let same : Whole spare bytes ≡ Whole other content = sym whole ∙ h.1 in cc))
        left.page))
        (λ (h : (page_number (geometry_of c) (page_in spot.unit page) ≢ page_number (geometry_of c) spot) × IsWhole c old spot.unit page other content). inl h.1)
        (after (page_number (geometry_of c) (page_in spot.unit page)) (Whole other content) is)

  -- an erase that was done, or failed
  pub erase-keeps : (erased : ℕ) → EraseMayLeave (geometry_of c) old erased new → (unit : ℕ) → KeepsPages c old new unit
  erase-keeps erased left unit page spare bytes low is = ⊎_elim
      (λ (same : unit ≡ erased). ⊎_elim
      (λ kept. ap (λ (u : ℕ). slice_get old (page_number (geometry_of c) (page_in u page))) same ∙ sym kept ∙ here same)
      (⊎_elim (λ blank. absurd (blank-whole (sym blank ∙ here same))) (λ torn. absurd (torn-whole (sym torn ∙ here same))))
      (left.pages page low))
      (λ (ne : unit ≢ erased). sym (same_outside_page (geometry_of c) erased old new (page_in unit page) left.others low ne) ∙ is)
      (cases_eq unit erased) where
        here : unit ≡ erased → slice_get new (page_number (geometry_of c) (page_in erased page)) ≡ Some (Whole spare bytes)
        here same = ap (λ (u : ℕ). slice_get new (page_number (geometry_of c) (page_in u page))) (sym same) ∙ is

        blank-whole : Some Blank ≡ Some (Whole spare bytes) → ⊥
        blank-whole e = cc

        torn-whole : Some Torn ≡ Some (Whole spare bytes) → ⊥
        torn-whole e = cc

-- a unit that is blank from its first page on has no whole page
pub blank-none : (c : DriveConfig) (cells : List Cell) (unit page : ℕ) → page ≡ 0 → IsBlankFrom (geometry_of c) cells (page_in unit page) → HasNoPage c cells unit
blank-none c cells unit page first blank k spare bytes low is = blank-whole (sym (blank.blank k (omega (arith, first)) low) ∙ is) where
  blank-whole : Some Blank ≡ Some (Whole spare bytes) → ⊥
  blank-whole e = cc

pub blank-unit-none : (c : DriveConfig) (cells : List Cell) (unit : ℕ) → IsBlankUnit (geometry_of c) cells unit → HasNoPage c cells unit
blank-unit-none c cells unit blank k spare bytes low is = blank-whole (sym (blank.blank k low) ∙ is) where
  blank-whole : Some Blank ≡ Some (Whole spare bytes) → ⊥
  blank-whole e = cc
