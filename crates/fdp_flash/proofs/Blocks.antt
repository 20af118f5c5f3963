-- The blocks of the pages that are not whole, after one page changed.
use Rattle.std.proofs.Common.{◌≡◌, ◌≢◌, ℕ, ◌<◌, Bool, true, false, List, [], ◌∷◌, ◌++◌, length, slice_set, Option, Some, None, arith, refl, sym, ap, ◌∙◌, inl, inr}
use Rattle.std.specs.List.{slice_get}
use Rattle.std.proofs.lemmas.List.{length-set, length-append}
use Rattle.std.proofs.lemmas.Option.{slice_get_within}
use Rattle.fdp_flash.specs.Blocks.{HasBlocks, BlockFits, block_size, unwritten}
use Rattle.fdp_flash.specs.declared.cell.Cell.{Cell}
use Rattle.fdp_flash.specs.declared.cell.Cell.TheVariants.{Blank, Torn, Whole}
use Rattle.fdp_flash.proofs.Lists.{slice_get-set_same, slice_get-set_other, slice_get-append_front, slice_get-append_last, set_cases, append_cases}

unwritten_is_not_whole : (torn : Bool) (spare bytes : List ℕ) → unwritten torn ≢ Whole spare bytes
unwritten_is_not_whole true spare bytes e = cc
unwritten_is_not_whole false spare bytes e = cc

-- the block at a place after a write of one
block_here : (size : ℕ) (blocks : List (Option (List ℕ))) (page k : ℕ) (block : List ℕ) → page < length blocks → length block ≡ size → k ≡ page →
    block_size (slice_get (slice_set blocks page (Some block)) k) ≡ Some size
block_here size blocks page k block within fits e = rw (e, slice_get-set_same blocks page (Some block) within) (ap Some fits)

-- a page that was whole gave its block back
pub blocks_given : (size : ℕ) (cells : List Cell) (blocks : List (Option (List ℕ))) (page : ℕ) (torn : Bool) (block : List ℕ) →
    HasBlocks size cells blocks → page < length cells → length block ≡ size →
    HasBlocks size (slice_set cells page (unwritten torn)) (slice_set blocks page (Some block))
blocks_given size cells blocks page torn block p within fits =
    let here : page < length blocks = omega (arith, p.count) in
    record {
      count = length-set blocks page (Some block) ∙ p.count ∙ sym (length-set cells page (unwritten torn));
      blank = λ k h. elim (set_cases cells page k (unwritten torn) Blank h) [
        | inl same ↦ block_here size blocks page k block here fits same.0
        | inr other ↦ rw (slice_get-set_other blocks page k (Some block) other.0) (p.blank k other.1)
      ];
      torn = λ k h. elim (set_cases cells page k (unwritten torn) Torn h) [
        | inl same ↦ block_here size blocks page k block here fits same.0
        | inr other ↦ rw (slice_get-set_other blocks page k (Some block) other.0) (p.torn k other.1)
      ];
      whole = λ k spare bytes h. elim (set_cases cells page k (unwritten torn) (Whole spare bytes) h) [
        | inl same ↦ absurd (unwritten_is_not_whole torn spare bytes same.1)
        | inr other ↦ p.whole k spare bytes other.1
      ];
    }

-- a page that was not whole keeps its block
pub blocks_kept : (size : ℕ) (cells : List Cell) (blocks : List (Option (List ℕ))) (page : ℕ) (torn : Bool) →
    HasBlocks size cells blocks → block_size (slice_get blocks page) ≡ Some size →
    HasBlocks size (slice_set cells page (unwritten torn)) blocks
blocks_kept size cells blocks page torn p there = record {
  count = p.count ∙ sym (length-set cells page (unwritten torn));
  blank = λ k h. elim (set_cases cells page k (unwritten torn) Blank h) [
    | inl same ↦ rw same.0 there
    | inr other ↦ p.blank k other.1
  ];
  torn = λ k h. elim (set_cases cells page k (unwritten torn) Torn h) [
    | inl same ↦ rw same.0 there
    | inr other ↦ p.torn k other.1
  ];
  whole = λ k spare bytes h. elim (set_cases cells page k (unwritten torn) (Whole spare bytes) h) [
    | inl same ↦ absurd (unwritten_is_not_whole torn spare bytes same.1)
    | inr other ↦ p.whole k spare bytes other.1
  ];
}

-- a page that became whole took its block
pub blocks_written : (size : ℕ) (cells : List Cell) (blocks : List (Option (List ℕ))) (page : ℕ) (spare bytes : List ℕ) →
    HasBlocks size cells blocks → length bytes ≡ size →
    HasBlocks size (slice_set cells page (Whole spare bytes)) (slice_set blocks page None)
blocks_written size cells blocks page spare bytes p fits = record {
  count = length-set blocks page None ∙ p.count ∙ sym (length-set cells page (Whole spare bytes));
  blank = λ k h. elim (set_cases cells page k (Whole spare bytes) Blank h) [
    | inl same ↦ absurd (let e = same.1 in cc)
    | inr other ↦ rw (slice_get-set_other blocks page k None other.0) (p.blank k other.1)
  ];
  torn = λ k h. elim (set_cases cells page k (Whole spare bytes) Torn h) [
    | inl same ↦ absurd (let e = same.1 in cc)
    | inr other ↦ rw (slice_get-set_other blocks page k None other.0) (p.torn k other.1)
  ];
  whole = λ k s b h. elim (set_cases cells page k (Whole spare bytes) (Whole s b) h) [
    | inl same ↦ let e = same.1 in let f : bytes ≡ b = cc in rw (← f) fits
    | inr other ↦ p.whole k s b other.1
  ];
}

-- no pages have no blocks
pub blocks_none : (size : ℕ) → HasBlocks size [] []
blocks_none size = record { count = refl; blank = λ k h. cc; torn = λ k h. cc; whole = λ k spare bytes h. absurd (let none : None ≡ Some (Whole spare bytes) = h in cc) }

block_behind : (size : ℕ) (cells : List Cell) (blocks : List (Option (List ℕ))) (block : Option (List ℕ)) (k : ℕ) → length blocks ≡ length cells → k ≡ length cells →
    block_size (Some block) ≡ Some size → block_size (slice_get (blocks ++ block ∷ []) k) ≡ Some size
block_behind size cells blocks block k count e fits =
    let here : k ≡ length blocks = omega arith in
    rw (here, slice_get-append_last blocks block) fits

block_before : (size : ℕ) (blocks : List (Option (List ℕ))) (block : Option (List ℕ)) (k : ℕ) → k < length blocks →
    block_size (slice_get blocks k) ≡ Some size → block_size (slice_get (blocks ++ block ∷ []) k) ≡ Some size
block_before size blocks block k within fits = rw (slice_get-append_front blocks (block ∷ []) k within) fits

fits_blank : (size : ℕ) (cell : Cell) (block : Option (List ℕ)) → cell ≡ Blank → BlockFits size cell block → block_size (Some block) ≡ Some size
fits_blank size Blank block e fits = fits
fits_blank size Torn block e fits = fits
fits_blank size (Whole spare bytes) block e fits = absurd (let f : Whole spare bytes ≡ Blank = e in cc)

fits_torn : (size : ℕ) (cell : Cell) (block : Option (List ℕ)) → cell ≡ Torn → BlockFits size cell block → block_size (Some block) ≡ Some size
fits_torn size Blank block e fits = fits
fits_torn size Torn block e fits = fits
fits_torn size (Whole spare bytes) block e fits = absurd (let f : Whole spare bytes ≡ Torn = e in cc)

-- one page more, with its block
pub blocks_more : (size : ℕ) (cells : List Cell) (blocks : List (Option (List ℕ))) (cell : Cell) (block : Option (List ℕ)) → HasBlocks size cells blocks → BlockFits size cell block →
    ((spare bytes : List ℕ) → cell ≡ Whole spare bytes → length bytes ≡ size) → HasBlocks size (cells ++ cell ∷ []) (blocks ++ block ∷ [])
blocks_more size cells blocks cell block p fits whole = record {
  count = omega (arith, length-append blocks (block ∷ []), length-append cells (cell ∷ []), p.count);
  blank = λ k h. elim (append_cases cells cell Blank k h) [
    | inl there ↦ block_before size blocks block k (omega (arith, slice_get_within cells k Blank there, p.count)) (p.blank k there)
    | inr last ↦ block_behind size cells blocks block k p.count last.0 (fits_blank size cell block last.1 fits)
  ];
  torn = λ k h. elim (append_cases cells cell Torn k h) [
    | inl there ↦ block_before size blocks block k (omega (arith, slice_get_within cells k Torn there, p.count)) (p.torn k there)
    | inr last ↦ block_behind size cells blocks block k p.count last.0 (fits_torn size cell block last.1 fits)
  ];
  whole = λ k spare bytes h. elim (append_cases cells cell (Whole spare bytes) k h) [
    | inl there ↦ p.whole k spare bytes there
    | inr last ↦ whole spare bytes last.1
  ];
}
