-- The cells that owners tell.
use Rattle.std.proofs.Common.{◌≡◌, ℕ, zero, suc, ◌+◌, ◌≤◌, ◌<◌, Bool, true, false, List, Option, Some, None, refl, sym, ◌∙◌, ap, arith, ⊎_elim, length, slice_get, replicate, eq-eqb, div-lt_iff_lt-mul}
use Rattle.std.specs.Prelude.{◌==◌, ◌&&◌, if◌then◌else◌, nat_lt, option_map}
use Rattle.std.specs.Option.{option_and_then, option_map_or}
use Rattle.std.proofs.lemmas.Bool.{cases_lt}
use Rattle.std.proofs.lemmas.Bool.Decides.{nat_tests}
use Rattle.std.proofs.lemmas.List.{length-map, length-replicate}
use Rattle.std.proofs.lemmas.Option.{slice_get-map, slice_get_past}
use Rattle.fdp_base.specs.declared.config.DriveConfig.{DriveConfig}
use Rattle.fdp_base.specs.declared.entry.Spot.{Spot}
use Rattle.fdp_base.specs.declared.spare.DataSpare.{DataSpare}
use Rattle.fdp_base.specs.Geometry.{all_pages}
use Rattle.fdp_base.specs.Numbers.{numbers_below, numbers_from}
use Rattle.fdp_base.specs.Placement.{geometry_of}
use Rattle.fdp_base.specs.Spare.{data_spare}
use Rattle.fdp_locations.specs.fdp_collector.Copying.{IsDataPage}
use Rattle.fdp_flash.specs.declared.cell.Cell.{Cell}
use Rattle.fdp_flash.specs.declared.cell.Cell.TheVariants.{Blank, Whole}
use Rattle.fdp_flash.specs.Cells.{AreCells}
use Rattle.fdp_flash.specs.Layout.{page_number}
use Rattle.fdp_flash.proofs.Pages.{page_number-below}
use Rattle.fdp_found.specs.Opened.{owner_by, owner_found}
use Rattle.fdp_found.specs.Told.{AreBlockOwners, cell_of_owner, cells_of_owners}
use Rattle.fdp_found.proofs.Paging.{held-of, is-held, number-back, spot-back}
use Rattle.fdp_image.specs.Areas.{data_pages}
use Rattle.fdp_image.specs.Reading.{Reading, has_page, spot_of}
use Rattle.fdp_image.specs.Valid.{IsValid}
use Rattle.fdp_locations.specs.Held.{pages_held}
use Rattle.fdp_locations.specs.Written.{Written}
use Rattle.fdp_owners.specs.declared.owner.Holder.TheVariants.{Block}
use Rattle.fdp_owners.specs.declared.owner.Owner.{Owner}
use Rattle.fdp_opening.proofs.fdp_recovery.Valid.{valid-of}
use Rattle.fdp_opening.specs.fdp_recovery.Blocks.{AreKept, holds, names_block}
use Rattle.fdp_opening.specs.fdp_state.Good.{IsGood}

-- ---- numbers in a row

count-numbers : (first count : ℕ) → length (numbers_from first count) ≡ count
unfolding numbers_from
count-numbers first zero = refl
count-numbers first (suc count) = ap suc (count-numbers (first + 1) count)

get-number : (first count k : ℕ) → k < count → slice_get (numbers_from first count) k ≡ Some (first + k)
unfolding numbers_from
get-number first zero k low = absurd (omega (arith, low))
get-number first (suc count) zero low = ap Some (omega arith)
get-number first (suc count) (suc k) low = get-number (first + 1) count k (omega (arith, low)) ∙ ap Some (omega arith)

-- ---- cells

module _ (c : DriveConfig) (owners : Spot → Option Owner) where
  abbrev cell_by : ℕ → Cell
  cell_by page = cell_of_owner c.block (owners (spot_of c page))

  told-cell : (k : ℕ) → k < all_pages (geometry_of c) → slice_get (cells_of_owners c owners) k ≡ Some (cell_by k)
  told-cell k low =
      slice_get-map cell_by (numbers_below (all_pages (geometry_of c))) k
      ∙ ap (option_map cell_by) (get-number 0 (all_pages (geometry_of c)) k low) ∙ ap (λ n. Some (cell_by n)) (omega arith)

  told-size : length (cells_of_owners c owners) ≡ all_pages (geometry_of c)
  told-size = length-map (numbers_below (all_pages (geometry_of c))) cell_by ∙ count-numbers 0 (all_pages (geometry_of c))

  zeros : (o : Option Owner) (spare bytes : List ℕ) → cell_of_owner c.block o ≡ Whole spare bytes → length bytes ≡ c.block
  zeros None spare bytes e = absurd cc
  zeros (Some x) spare bytes e = let same : replicate c.block 0 ≡ bytes = cc in sym (ap length same) ∙ length-replicate c.block 0

  pub told-cells : AreCells (geometry_of c) (cells_of_owners c owners)
  told-cells = record {
    size = told-size;
    blocks = λ k spare bytes e.
        ⊎_elim
        (λ (low : k < all_pages (geometry_of c)). zeros (owners (spot_of c k)) spare bytes (one (sym (told-cell k low) ∙ e)))
        (λ (high : all_pages (geometry_of c) ≤ k). absurd (never (sym (slice_get_past (cells_of_owners c owners) k (omega (arith, told-size, high))) ∙ e)))
        (cases_lt k (all_pages (geometry_of c)));
  } where
    one : {X : Type 0} {x y : X} → Some x ≡ Some y → x ≡ y
    one d = cc

    never : {X : Type 0} {x : X} → None ≡ Some x → ⊥
    never d = cc

  lies : (spot : Spot) → IsDataPage (geometry_of c) spot → page_number (geometry_of c) spot < all_pages (geometry_of c)
  lies spot is = page_number-below (geometry_of c) spot (record { unit = omega (arith, is.unit); page = is.page })

  -- the cell of a page
  pub told-at : (spot : Spot) → IsDataPage (geometry_of c) spot → slice_get (cells_of_owners c owners) (page_number (geometry_of c) spot) ≡ Some (cell_of_owner c.block (owners spot))
  told-at spot is = told-cell (page_number (geometry_of c) spot) (lies spot is) ∙ ap (λ (s : Spot). Some (cell_of_owner c.block (owners s))) (spot-back c spot is.page)

  -- ---- what was read is valid over them

  module _ (r : Reading) (h : AreBlockOwners c r owners) where
    kept : AreKept c (cells_of_owners c owners) r
    kept nsid lba page there =
        let b = h.blocks nsid lba page there in
        let o = h.owners_are (spot_of c page) (record { holder = Block; spare = b.spare }) b.owner in
        let pages : 0 < c.unit_pages = omega (arith, o.page.page) in
        let low : page < data_pages (geometry_of c) = (div-lt_iff_lt-mul pages).0 o.page.unit in
        let cell : slice_get (cells_of_owners c owners) page ≡ Some (Whole (data_spare b.spare) (replicate c.block 0)) =
        ap (slice_get (cells_of_owners c owners)) (sym (number-back c page)) ∙ told-at (spot_of c page) o.page ∙ ap (λ (x : Option Owner). Some (cell_of_owner c.block x)) b.owner in
        let first : nat_lt page (data_pages (geometry_of c)) ≡ true = grind (arith, nat_tests) in
        ap (λ (t : Bool). t && option_map_or (holds c r nsid lba page) (slice_get (cells_of_owners c owners) page) false) first
        ∙ ap (λ (x : Option Cell). option_map_or (holds c r nsid lba page) x false) cell
        ∙ ap (λ (x : Option DataSpare). option_map_or (names_block c r nsid lba page) x false) o.spelled
        ∙ b.names

    pub told-valid : IsGood c r → IsValid c (cells_of_owners c owners) r
    told-valid good = valid-of c (cells_of_owners c owners) r good kept

    -- ---- the owners are those of such an image

    owner-some : (spot : Spot) (x : Owner) → owners spot ≡ Some x → owner_found c (cells_of_owners c owners) r spot ≡ Some x
    owner-some spot x e =
        let b = h.owners_are spot x e in
        let n : ℕ = page_number (geometry_of c) spot in
        let cell : slice_get (cells_of_owners c owners) n ≡ Some (Whole (data_spare x.spare) (replicate c.block 0)) = told-at spot b.page ∙ ap (λ (o : Option Owner). Some (cell_of_owner c.block o)) e in
        let held = is-held c (cells_of_owners c owners) spot (data_spare x.spare) (replicate c.block 0) x.spare (b.page.unit, b.page.page) cell b.spelled in
        let has : has_page r n x.spare.nsid x.spare.lba ≡ true = ap (λ (o : Option ℕ). option_map_or (λ k. k == n) o false) b.stands ∙ eq-eqb n n refl in
        ap (option_and_then (λ (w : Written). owner_by r n w.spare)) held
        ∙ ap (λ (t : Bool). if t then Some (record { holder = Block; spare = x.spare }) else None) has
        ∙ (λ d. Some (record { holder = sym b.holder d; spare = x.spare }))

    owner-none : (spot : Spot) → owners spot ≡ None → owner_found c (cells_of_owners c owners) r spot ≡ None
    owner-none spot e = of (pages_held c (cells_of_owners c owners) spot) refl where
      of : (o : Option Written) → pages_held c (cells_of_owners c owners) spot ≡ o → owner_found c (cells_of_owners c owners) r spot ≡ None
      of None none = ap (option_and_then (λ (w : Written). owner_by r (page_number (geometry_of c) spot) w.spare)) none
      of (Some w) held =
          let is = held-of c (cells_of_owners c owners) spot w held in
          let blank : Some Blank ≡ Some (Whole is.spare w.bytes) = sym (told-at spot (record { unit = is.page.0; page = is.page.1 }) ∙ ap (λ (o : Option Owner). Some (cell_of_owner c.block o)) e) ∙ is.cell in
          absurd cc

    pub owners-told : (spot : Spot) → owners spot ≡ owner_found c (cells_of_owners c owners) r spot
    owners-told spot = of (owners spot) refl where
      of : (o : Option Owner) → owners spot ≡ o → owners spot ≡ owner_found c (cells_of_owners c owners) r spot
      of None e = e ∙ sym (owner-none spot e)
      of (Some x) e = e ∙ sym (owner-some spot x e)
