-- The blocks of a found drive: those of the point that it goes on from, each on the page where it stands.
use Rattle.std.proofs.Common.{◌≡◌, ◌≢◌, ℕ, ◌≤◌, ◌<◌, Bool, true, false, find, Option, Some, None, refl, sym, ◌∙◌, ap, arith, eq-eqb, ne_eqb, ⊎_elim}
use Rattle.std.specs.Prelude.{◌==◌, ◌&&◌, option_and_then, option_map}
use Rattle.std.proofs.lemmas.Bool.{cases_eq}
use Rattle.fdp_base.specs.declared.entry.Spot.{Spot}
use Rattle.fdp_rules.specs.History.{FoundBlock, block_in, found_block}
use Rattle.fdp_rules.specs.PlainState.{Block}
use Rattle.fdp_rules.specs.Point.{Point}
use Rattle.fdp_rules.specs.Room.{namespace_ids, size_of}
use Rattle.fdp_plain.specs.Found.{block_as, block_found, blocks_of, found_blocks}
use Rattle.fdp_plain.proofs.Listing.{find-flat, find-flat_none, find-mapped, find-mapped_none}

-- ---- one block

block-id : (nsid lba : ℕ) (b : Block) (o : Option Spot) (x : FoundBlock) → option_map (block_as nsid lba b) o ≡ Some x → (x.nsid ≡ nsid) × (x.lba ≡ lba)
block-id nsid lba b None x e = absurd cc
block-id nsid lba b (Some spot) x e =
    let same : block_as nsid lba b spot ≡ x = cc in
    (sym (ap (λ (y : FoundBlock). y.nsid) same), sym (ap (λ (y : FoundBlock). y.lba) same))

found-id : (p : Point) (nsid lba : ℕ) (x : FoundBlock) → block_found p nsid lba ≡ Some x → (x.nsid ≡ nsid) × (x.lba ≡ lba)
found-id p nsid lba x e =
    let P : Option Block → Type 0 = λ o. option_and_then (λ (b : Block). option_map (block_as nsid lba b) (p.trail.site b.page)) o ≡ Some x → (x.nsid ≡ nsid) × (x.lba ≡ lba) in
    elim (p.state.blocks nsid lba) as P [
      | None ↦ λ no. absurd cc
      | Some b ↦ λ some. block-id nsid lba b (p.trail.site b.page) x some
    ] e

-- ---- all blocks

-- a block lies within a namespace that is there
pub record LieWithin (p : Point) : Type 0 where
  pub ids : (nsid lba : ℕ) (b : Block) → p.state.blocks nsid lba ≡ Some b → (1 ≤ nsid) × (nsid < 17)
  pub addresses : (nsid lba : ℕ) (b : Block) → p.state.blocks nsid lba ≡ Some b → lba < size_of p.state nsid

module _ (p : Point) (within : LieWithin p) (nsid lba : ℕ) where
  abbrev Test : FoundBlock → Bool
  Test x = x.nsid == nsid && x.lba == lba

  other-id : (n l : ℕ) (x : FoundBlock) → n ≢ nsid → block_found p n l ≡ Some x → Test x ≡ false
  other-id n l x ne e = ap (λ b. b && x.lba == lba) (ne_eqb x.nsid nsid (λ same. ne (sym (found-id p n l x e).0 ∙ same)))

  other-address : (l : ℕ) (x : FoundBlock) → l ≢ lba → block_found p nsid l ≡ Some x → Test x ≡ false
  other-address l x ne e =
      let is = found-id p nsid l x e in
      ap (λ b. b && x.lba == lba) (eq-eqb x.nsid nsid is.0) ∙ ne_eqb x.lba lba (λ same. ne (sym is.1 ∙ same))

  own : (x : FoundBlock) → block_found p nsid lba ≡ Some x → Test x ≡ true
  own x e =
      let is = found-id p nsid lba x e in
      ap (λ b. b && x.lba == lba) (eq-eqb x.nsid nsid is.0) ∙ eq-eqb x.lba lba is.1

  others : (n : ℕ) → n ≢ nsid → find Test (blocks_of p n) ≡ None
  others n ne = find-mapped_none (block_found p n) Test 0 (size_of p.state n) (λ l x low e. other-id n l x ne e)

  none-there : p.state.blocks nsid lba ≡ None → block_found p nsid lba ≡ None
  none-there none = ap (option_and_then (λ (b : Block). option_map (block_as nsid lba b) (p.trail.site b.page))) none

  -- where there is no block at the address none is found
  absent : p.state.blocks nsid lba ≡ None → find Test (blocks_of p nsid) ≡ None
  absent none =
      find-mapped_none (block_found p nsid) Test 0 (size_of p.state nsid) (λ l x low e.
      ⊎_elim
      (λ (same : l ≡ lba). let no : None ≡ Some x = sym (ap (block_found p nsid) same ∙ none-there none) ∙ e in absurd cc)
      (λ ne. other-address l x ne e)
      (cases_eq l lba))

  blocks-find : find Test (found_blocks p) ≡ block_found p nsid lba
  unfolding namespace_ids
  blocks-find = of (p.state.blocks nsid lba) refl where
    of : (o : Option Block) → p.state.blocks nsid lba ≡ o → find Test (found_blocks p) ≡ block_found p nsid lba
    of None none =
        find-flat_none (blocks_of p) Test 1 16 (λ n low. ⊎_elim (λ (same : n ≡ nsid). ap (λ k. find Test (blocks_of p k)) same ∙ absent none) (others n) (cases_eq n nsid))
        ∙ sym (none-there none)
    of (Some b) there =
        let id = within.ids nsid lba b there in
        find-flat (blocks_of p) Test 1 16 nsid others id.0 (omega (arith, id.1))
        ∙ find-mapped (block_found p nsid) Test 0 (size_of p.state nsid) lba (λ l x ne e. other-address l x ne e) own (omega arith) (omega (arith, within.addresses nsid lba b there))

-- a block of a run that begins so
pub blocks-found : (p : Point) → LieWithin p → (nsid lba : ℕ) → block_in (found_blocks p) nsid lba ≡ option_map found_block (block_found p nsid lba)
blocks-found p within nsid lba = ap (option_map found_block) (blocks-find p within nsid lba)
