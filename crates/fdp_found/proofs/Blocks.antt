-- The blocks of a found drive: those of the image, each as its page holds it.
use Rattle.std.proofs.Common.{◌≡◌, ◌≢◌, ℕ, ◌≤◌, ◌<◌, Bool, true, false, find, List, Option, Some, None, refl, sym, ◌∙◌, ap, subst, arith, eq-eqb, ne_eqb, ⊎_elim}
use Rattle.std.specs.Prelude.{All, ◌==◌, ◌&&◌, if◌then◌else◌, option_map, slice_get}
use Rattle.std.specs.Option.{option_and_then}
use Rattle.std.proofs.lemmas.Bool.{cases_eq}
use Rattle.fdp_base.specs.declared.config.DriveConfig.{DriveConfig}
use Rattle.fdp_base.specs.declared.spare.DataSpare.{DataSpare}
use Rattle.fdp_base.specs.Numbers.{numbers_below}
use Rattle.fdp_flash.specs.declared.cell.Cell.{Cell}
use Rattle.fdp_flash.specs.declared.cell.Cell.TheVariants.{Blank, Torn, Whole}
use Rattle.fdp_found.specs.Finding.{block_as, block_found, block_on, blocks_of, found_blocks}
use Rattle.fdp_found.proofs.Listing.{find-flat, find-flat_none, find-mapped, find-mapped_none, all-flat, all-mapped}
use Rattle.fdp_image.specs.Reading.{Reading, size_in, spot_of}
use Rattle.fdp_image.specs.Valid.{block_by, block_from, block_read, is_named}
use Rattle.fdp_records.specs.Spares.{said_by_data}
use Rattle.fdp_rules.specs.History.{FoundBlock, block_in, found_block}
use Rattle.fdp_rules.specs.PlainState.{Block, PageName.found}
use Rattle.fdp_rules.specs.Room.{namespace_ids}

-- ---- one block

block-id : (c : DriveConfig) (nsid lba page : ℕ) (o : Option Block) (x : FoundBlock) → option_map (block_as c nsid lba page) o ≡ Some x → (x.nsid ≡ nsid) × (x.lba ≡ lba)
block-id c nsid lba page None x e = absurd cc
block-id c nsid lba page (Some b) x e =
    let same : block_as c nsid lba page b ≡ x = cc in
    (sym (ap (λ (y : FoundBlock). y.nsid) same), sym (ap (λ (y : FoundBlock). y.lba) same))

pub found-id : (c : DriveConfig) (cells : List Cell) (r : Reading) (nsid lba : ℕ) (x : FoundBlock) → block_found c cells r nsid lba ≡ Some x → (x.nsid ≡ nsid) × (x.lba ≡ lba)
found-id c cells r nsid lba x e =
    let P : Option ℕ → Type 0 = λ o. option_and_then (block_on c cells r nsid lba) o ≡ Some x → (x.nsid ≡ nsid) × (x.lba ≡ lba) in
    elim (r.pages nsid lba) as P [
      | None ↦ λ no. absurd cc
      | Some page ↦ λ some. block-id c nsid lba page (option_and_then (block_from c r nsid lba page) (slice_get cells page)) x some
    ] e

-- as a block of a run it is that of the image
of-cell : (c : DriveConfig) (r : Reading) (nsid lba page : ℕ) (cell : Cell) → option_map found_block (option_map (block_as c nsid lba page) (block_from c r nsid lba page cell)) ≡ block_from c r nsid lba page cell
of-cell c r nsid lba page Blank = refl
of-cell c r nsid lba page Torn = refl
of-cell c r nsid lba page (Whole spare bytes) = of_said (said_by_data spare) where
  of_said : (o : Option DataSpare) → option_map found_block (option_map (block_as c nsid lba page) (option_and_then (block_by c r nsid lba page bytes) o)) ≡ option_and_then (block_by c r nsid lba page bytes) o
  of_said None = refl
  of_said (Some s) =
      let some : Option Block = block_by c r nsid lba page bytes s in
      let P : Option Block → Type 0 = λ o. option_map found_block (option_map (block_as c nsid lba page) o) ≡ o in
      let Q : Bool → Type 0 = λ b. P (if b then Some (record { bytes = bytes; rg = s.rg; ruh = s.ruh; page = found (spot_of c page) }) else None) in
      elim (is_named c r nsid lba page s) as Q [ true ↦ refl | false ↦ refl ]

pub found-read : (c : DriveConfig) (cells : List Cell) (r : Reading) (nsid lba : ℕ) → option_map found_block (block_found c cells r nsid lba) ≡ block_read c cells r nsid lba
found-read c cells r nsid lba = of_page (r.pages nsid lba) where
  of_page : (o : Option ℕ) → option_map found_block (option_and_then (block_on c cells r nsid lba) o) ≡ option_and_then (λ page. option_and_then (block_from c r nsid lba page) (slice_get cells page)) o
  of_page None = refl
  of_page (Some page) = of_some (slice_get cells page) where
    of_some : (o : Option Cell) → option_map found_block (option_map (block_as c nsid lba page) (option_and_then (block_from c r nsid lba page) o)) ≡ option_and_then (block_from c r nsid lba page) o
    of_some None = refl
    of_some (Some cell) = of-cell c r nsid lba page cell

-- ---- all blocks

-- a block that has a page lies within a namespace that is there
pub record LieWithin (r : Reading) : Type 0 where
  pub ids : (nsid lba page : ℕ) → r.pages nsid lba ≡ Some page → (1 ≤ nsid) × (nsid < 17)
  pub addresses : (nsid lba page : ℕ) → r.pages nsid lba ≡ Some page → lba < size_in r nsid

module _ (c : DriveConfig) (cells : List Cell) (r : Reading) (within : LieWithin r) (nsid lba : ℕ) where
  abbrev Test : FoundBlock → Bool
  Test x = x.nsid == nsid && x.lba == lba

  other-id : (n l : ℕ) (x : FoundBlock) → n ≢ nsid → block_found c cells r n l ≡ Some x → Test x ≡ false
  other-id n l x ne e = ap (λ b. b && x.lba == lba) (ne_eqb x.nsid nsid (λ same. ne (sym (found-id c cells r n l x e).0 ∙ same)))

  other-address : (l : ℕ) (x : FoundBlock) → l ≢ lba → block_found c cells r nsid l ≡ Some x → Test x ≡ false
  other-address l x ne e =
      let is = found-id c cells r nsid l x e in
      ap (λ b. b && x.lba == lba) (eq-eqb x.nsid nsid is.0) ∙ ne_eqb x.lba lba (λ same. ne (sym is.1 ∙ same))

  own : (x : FoundBlock) → block_found c cells r nsid lba ≡ Some x → Test x ≡ true
  own x e =
      let is = found-id c cells r nsid lba x e in
      ap (λ b. b && x.lba == lba) (eq-eqb x.nsid nsid is.0) ∙ eq-eqb x.lba lba is.1

  others : (n : ℕ) → n ≢ nsid → find Test (blocks_of c cells r n) ≡ None
  others n ne = find-mapped_none (block_found c cells r n) Test 0 (size_in r n) (λ l x low e. other-id n l x ne e)

  none-there : r.pages nsid lba ≡ None → block_found c cells r nsid lba ≡ None
  none-there none = ap (option_and_then (block_on c cells r nsid lba)) none

  -- where there is no block at the address none is found
  absent : r.pages nsid lba ≡ None → find Test (blocks_of c cells r nsid) ≡ None
  absent none =
      find-mapped_none (block_found c cells r nsid) Test 0 (size_in r nsid) (λ l x low e.
      ⊎_elim
      (λ (same : l ≡ lba). let no : None ≡ Some x = sym (ap (block_found c cells r nsid) same ∙ none-there none) ∙ e in absurd cc)
      (λ ne. other-address l x ne e)
      (cases_eq l lba))

  pub blocks-find : find Test (found_blocks c cells r) ≡ block_found c cells r nsid lba
  unfolding namespace_ids
  blocks-find = of (r.pages nsid lba) refl where
    of : (o : Option ℕ) → r.pages nsid lba ≡ o → find Test (found_blocks c cells r) ≡ block_found c cells r nsid lba
    of None none =
        find-flat_none (blocks_of c cells r) Test 1 16 (λ n low. ⊎_elim (λ (same : n ≡ nsid). ap (λ k. find Test (blocks_of c cells r k)) same ∙ absent none) (others n) (cases_eq n nsid))
        ∙ sym (none-there none)
    of (Some page) there =
        let id = within.ids nsid lba page there in
        find-flat (blocks_of c cells r) Test 1 16 nsid others id.0 (omega (arith, id.1))
        ∙ find-mapped (block_found c cells r nsid) Test 0 (size_in r nsid) lba (λ l x ne e. other-address l x ne e) own (omega arith) (omega (arith, within.addresses nsid lba page there))

pub blocks-found : (c : DriveConfig) (cells : List Cell) (r : Reading) → LieWithin r → (nsid lba : ℕ) → block_in (found_blocks c cells r) nsid lba ≡ block_read c cells r nsid lba
blocks-found c cells r within nsid lba = ap (option_map found_block) (blocks-find c cells r within nsid lba) ∙ found-read c cells r nsid lba

-- each stands where the image says
pub blocks-stand : (c : DriveConfig) (cells : List Cell) (r : Reading) → All (λ (x : FoundBlock). option_map (spot_of c) (r.pages x.nsid x.lba) ≡ Some x.spot) (found_blocks c cells r)
blocks-stand c cells r = all-flat Stands (blocks_of c cells r) namespace_ids (λ nsid. all-mapped Stands (block_found c cells r nsid) (numbers_below (size_in r nsid)) (one nsid)) where
  Stands : FoundBlock → Type 0
  Stands x = option_map (spot_of c) (r.pages x.nsid x.lba) ≡ Some x.spot

  one : (nsid lba : ℕ) (x : FoundBlock) → block_found c cells r nsid lba ≡ Some x → Stands x
  one nsid lba x e = of_page (r.pages nsid lba) refl e where
    of_block : (page : ℕ) → r.pages nsid lba ≡ Some page → (o : Option Block) → option_map (block_as c nsid lba page) o ≡ Some x → Stands x
    of_block page there None is = absurd cc
    of_block page there (Some b) is =
        let same : block_as c nsid lba page b ≡ x = cc in
        subst Stands same (ap (option_map (spot_of c)) there)

    of_page : (o : Option ℕ) → r.pages nsid lba ≡ o → option_and_then (block_on c cells r nsid lba) o ≡ Some x → Stands x
    of_page None none is = absurd cc
    of_page (Some page) there is = of_block page there (option_and_then (block_from c r nsid lba page) (slice_get cells page)) is
