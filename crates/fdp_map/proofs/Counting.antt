-- What each group stores is counted, list by list.
use Rattle.std.proofs.Common.{◌≡◌, ℕ, suc, ◌+◌, ◌*◌, ◌^◌, ◌<◌, ◌≤◌, List, [], length, get_or, Option, None, Some, refl, ap, sym, ◌∙◌, arith}
use Rattle.std.specs.Prelude.{IfSome, replicate, slice_index}
use Rattle.fdp_base.specs.declared.config.Geometry.{Geometry}
use Rattle.fdp_map.specs.Counting.{as_number}
use Rattle.fdp_map.specs.declared.mapped.Mapped.{Mapped}
use Rattle.fdp_map.specs.MapTable.{IsCut, IsPlaced, MapTable, block_in, is_mapped_in, size_in, stored_in, stored_in_row}
use Rattle.fdp_map.specs.PageLists.{places_of, size_at, table_of}
use Rattle.fdp_base.proofs.Sums.{counted-bound, counting, sum_from, sum_from-bound, sum_from-last, sum_from-none}
use Rattle.fdp_map.proofs.Counted.{known}
use Rattle.fdp_map.proofs.Listing.{list_size, row_listed, sizes_are}
use Rattle.fdp_map.proofs.Stored.{holds, holds_in, of_one, stored_is}
use Rattle.fdp_map.proofs.Vacant.{zeros}

-- the blocks at the first addresses of a row are counted
pub record IsRowCounted (before now : List ℕ) (places : List (Option Mapped)) (lba : ℕ) : Type 0 where
  pub counts : (rg : ℕ) → slice_index now rg ≡ slice_index before rg + stored_in_row places rg 0 lba
  pub rows : length now ≡ length before

pub row_first : (before : List ℕ) (places : List (Option Mapped)) → IsRowCounted before before places 0
row_first before places = record {
  counts = λ rg. omega (arith, sum_from-none (counting (holds_in places rg)) 0);
  rows = refl;
}

pub row_next : (before now more : List ℕ) (places : List (Option Mapped)) (lba : ℕ) (block : Option Mapped) → block ≡ block_in places lba
    → ((rg : ℕ) → slice_index more rg ≡ slice_index now rg + as_number (is_mapped_in rg block)) → length more ≡ length now
    → IsRowCounted before now places lba → IsRowCounted before more places (lba + 1)
row_next before now more places lba block is counts rows h = record {
  counts = λ rg.
      let one : as_number (is_mapped_in rg block) ≡ counting (holds_in places rg) lba = ap (λ (x : Option Mapped). as_number (is_mapped_in rg x)) is in
      let start : 0 + lba ≡ lba = omega arith in
      omega (arith, counts rg, h.counts rg, one, sum_from-last (counting (holds_in places rg)) 0 lba, ap (counting (holds_in places rg)) start);
  rows = rows ∙ h.rows;
}

-- there is room for one more
pub row_room : (before now : List ℕ) (places : List (Option Mapped)) (lba size : ℕ) → ((rg : ℕ) → slice_index before rg + size < 2 ^ 64) → lba < size → IsRowCounted before now places lba → (rg : ℕ) → slice_index now rg + 1 < 2 ^ 64
row_room before now places lba size room within h rg = omega (arith, room rg, within, h.counts rg, counted-bound (holds_in places rg) 0 lba)

-- the blocks of the first namespaces are counted
pub record AreRowsCounted (m : MapTable) (now : List ℕ) (count : ℕ) : Type 0 where
  pub counts : (rg : ℕ) → slice_index now rg ≡ sum_from (of_one m (holds m rg)) 1 count
  pub rows : length now ≡ 16

pub rows_first : (m : MapTable) → AreRowsCounted m (replicate 16 0) 0
rows_first m = record { counts = λ rg. zeros 16 rg ∙ sym (sum_from-none (of_one m (holds m rg)) 1); rows = refl }

-- a namespace stores in a group no more than it has blocks
one_bound : (m : MapTable) → ((nsid : ℕ) → size_in m nsid ≤ 262144) → (rg nsid : ℕ) → of_one m (holds m rg) nsid ≤ 262144
one_bound m sizes rg nsid = omega (arith, counted-bound (holds m rg nsid) 0 (size_in m nsid), sizes nsid)

pub rows_room : (g : Geometry) (lists : List (List (Option ℕ))) → length lists ≡ 16 → ((nsid : ℕ) → size_at lists nsid ≤ 262144) → (now : List ℕ) (count : ℕ) → count < 16 → AreRowsCounted (table_of g lists) now count → (rg : ℕ) → slice_index now rg + length (get_or lists count []) < 2 ^ 64
rows_room g lists rows most now count within h rg =
    let m : MapTable = table_of g lists in
    let sizes : (nsid : ℕ) → size_in m nsid ≤ 262144 = λ nsid. omega (arith, most nsid, sizes_are g lists rows nsid) in
    let before : sum_from (of_one m (holds m rg)) 1 count ≤ count * 262144 = sum_from-bound (of_one m (holds m rg)) 262144 1 count (one_bound m sizes rg) in
    let here : length (get_or lists count []) ≤ 262144 = omega (arith, sizes (suc count), list_size g lists count) in
    let least : count * 262144 ≤ 16 * 262144 = omega (arith, within) in
    omega (arith, h.counts rg, before, here, least)

pub rows_next : (g : Geometry) (lists : List (List (Option ℕ))) (now more : List ℕ) (count : ℕ)
    → ((rg : ℕ) → slice_index more rg ≡ slice_index now rg + stored_in_row (places_of g (get_or lists count [])) rg 0 (length (get_or lists count []))) → length more ≡ length now
    → AreRowsCounted (table_of g lists) now count → AreRowsCounted (table_of g lists) more (count + 1)
rows_next g lists now more count counts rows h = record {
  counts = λ rg.
      let m : MapTable = table_of g lists in
      let list = get_or lists count [] in
      let size : size_in m (suc count) ≡ length list = list_size g lists count in
      let one : of_one m (holds m rg) (suc count) ≡ stored_in_row (places_of g list) rg 0 (length list) =
      ap (λ (places : List (Option Mapped)). stored_in_row places rg 0 (size_in m (suc count))) (row_listed g lists count) ∙ ap (stored_in_row (places_of g list) rg 0) size in
      let start : 1 + count ≡ suc count = omega arith in
      omega (arith, counts rg, h.counts rg, one, sum_from-last (of_one m (holds m rg)) 1 count, ap (of_one m (holds m rg)) start);
  rows = rows ∙ h.rows;
}

pub rows_last : (m : MapTable) (now : List ℕ) → AreRowsCounted m now 16 → (rg : ℕ) → slice_index now rg ≡ stored_in m rg
rows_last m now h rg = h.counts rg ∙ sym (stored_is m rg)

-- a block can be counted where there is room for one more in each group
pub block_room : (g : Geometry) → IsCut g → (now : List ℕ) → length now ≡ 16 → ((rg : ℕ) → slice_index now rg + 1 < 2 ^ 64) → (block : Option Mapped) → IfSome block (IsPlaced g) → IfSome block (λ x. (x.rg < length now) × (slice_index now x.rg + 1 < 2 ^ 64))
block_room g cut now rows room None placed = tt
block_room g cut now rows room (Some x) placed = let low : x.rg < 16 = known g cut (Some x) placed in (omega (arith, low, rows), room x.rg)
