-- Places without blocks, made or taken away: no group stores more or less.
use Rattle.std.proofs.Common.{◌≡◌, ◌≢◌, ℕ, zero, suc, ◌<◌, ◌≤◌, Bool, List, [], length, replicate, get_or, Option, None, refl, ap, sym, ◌∙◌, subst, arith, cond, eq-eqb, ne_eqb, ⊎_elim}
use Rattle.std.specs.Prelude.{IfSome, if◌then◌else◌, slice_index}
use Rattle.std.proofs.Math.ListN.{length-set}
use Rattle.std.proofs.lemmas.Bool.{cases_eq}
use Rattle.fdp_base.specs.declared.config.Geometry.{Geometry}
use Rattle.fdp_base.specs.Numbers.{with_at}
use Rattle.fdp_map.specs.declared.mapped.Mapped.{Mapped}
use Rattle.fdp_map.specs.MapTable.{IsCounted, IsCut, IsPlaced, MapTable, block_in, is_mapped_in, mapped_at, row, size_in, stored_in}
use Rattle.fdp_map.proofs.Stored.{holds, of_one, stored_is}
use Rattle.fdp_base.proofs.Sums.{counting, sum_from, sum_from-same, sum_from-zero}
use Rattle.fdp_map.proofs.Tables.{block_past, blocks_with, sizes_with, with_row}

-- a row has no block
abbrev pub IsVacant : List (Option Mapped) → Type 0
IsVacant r = (lba : ℕ) → block_in r lba ≡ None

-- a row without blocks in place of another without blocks
pub blocks_vacant : (m : MapTable) (nsid : ℕ) (r : List (Option Mapped)) → nsid < length m.rows → IsVacant (row m nsid) → IsVacant r → (n lba : ℕ) → mapped_at (with_row m nsid r) n lba ≡ mapped_at m n lba
blocks_vacant m nsid r there before now n lba =
    blocks_with m nsid r there n lba
    ∙ ⊎_elim
    (λ (e : n ≡ nsid). ap (λ (t : Bool). if t then block_in r lba else mapped_at m n lba) (eq-eqb n nsid e) ∙ now lba ∙ sym (ap (λ (k : ℕ). mapped_at m k lba) e ∙ before lba))
    (λ (ne : n ≢ nsid). ap (λ (t : Bool). if t then block_in r lba else mapped_at m n lba) (ne_eqb n nsid ne))
    (cases_eq n nsid)

-- a namespace without blocks stores none
of_one-vacant : (m : MapTable) (rg nsid : ℕ) → ((lba : ℕ) → mapped_at m nsid lba ≡ None) → of_one m (holds m rg) nsid ≡ 0
of_one-vacant m rg nsid none = sum_from-zero (counting (holds m rg nsid)) 0 (size_in m nsid) (λ lba _ _. ap (λ (x : Option Mapped). cond (is_mapped_in rg x) 1 0) (none lba))

pub stored_vacant : (m : MapTable) (nsid : ℕ) (r : List (Option Mapped)) (rg : ℕ) → nsid < length m.rows → IsVacant (row m nsid) → IsVacant r → stored_in (with_row m nsid r) rg ≡ stored_in m rg
stored_vacant m nsid r rg there before now =
    let new : MapTable = with_row m nsid r in
    let same : (n lba : ℕ) → mapped_at new n lba ≡ mapped_at m n lba = blocks_vacant m nsid r there before now in
    let one : (n : ℕ) → of_one new (holds new rg) n ≡ of_one m (holds m rg) n = λ n.
    ⊎_elim
    (λ (e : n ≡ nsid).
    let none : (lba : ℕ) → mapped_at m n lba ≡ None = λ lba. ap (λ (k : ℕ). mapped_at m k lba) e ∙ before lba in
    of_one-vacant new rg n (λ lba. same n lba ∙ none lba) ∙ sym (of_one-vacant m rg n none))
    (λ (ne : n ≢ nsid).
    let size : size_in new n ≡ size_in m n = sizes_with m nsid r there n ∙ ap (λ (t : Bool). if t then length r else size_in m n) (ne_eqb n nsid ne) in
    ap (sum_from (counting (holds new rg n)) 0) size
    ∙ sum_from-same (counting (holds new rg n)) (counting (holds m rg n)) 0 (size_in m n) (λ lba _ _. ap (λ (x : Option Mapped). cond (is_mapped_in rg x) 1 0) (same n lba)))
    (cases_eq n nsid) in
    stored_is new rg ∙ sum_from-same (of_one new (holds new rg)) (of_one m (holds m rg)) 1 16 (λ n _ _. one n) ∙ sym (stored_is m rg)

-- the counts stay right
pub counted_vacant : (m : MapTable) (counts : List ℕ) (nsid : ℕ) (r : List (Option Mapped)) → 1 ≤ nsid → nsid < length m.rows → length r ≤ 262144 → IsVacant (row m nsid) → IsVacant r → IsCounted m counts → IsCounted (with_row m nsid r) counts
counted_vacant m counts nsid r low there fits before now h =
    let sizes : (n : ℕ) → size_in (with_row m nsid r) n ≡ with_at (size_in m) nsid (length r) n = sizes_with m nsid r there in
    let other : (n : ℕ) → n ≢ nsid → size_in (with_row m nsid r) n ≡ size_in m n = λ n ne. sizes n ∙ ap (λ (t : Bool). if t then length r else size_in m n) (ne_eqb n nsid ne) in
    record {
      cut = h.cut;
      rows = length-set m.rows nsid r ∙ h.rows;
      first = other 0 (λ e. omega (arith, e, low)) ∙ h.first;
      sizes = λ n.
          ⊎_elim
          (λ (e : n ≡ nsid).
          let size : size_in (with_row m nsid r) n ≡ length r = sizes n ∙ ap (λ (t : Bool). if t then length r else size_in m n) (eq-eqb n nsid e) in
          omega (arith, size, fits))
          (λ (ne : n ≢ nsid). omega (arith, other n ne, h.sizes n))
          (cases_eq n nsid);
      places = λ n lba. subst (λ o. IfSome o (IsPlaced m.geometry)) (sym (blocks_vacant m nsid r there before now n lba)) (h.places n lba);
      length = h.length;
      stored = λ rg below. h.stored rg below ∙ sym (stored_vacant m nsid r rg there before now);
    }

abbrev no_places : List (Option Mapped)
no_places = []

-- rows without places
empty_row : (n i : ℕ) → get_or (replicate n no_places) i [] ≡ no_places
empty_row zero i = refl
empty_row (suc n) zero = refl
empty_row (suc n) (suc i) = empty_row n i

pub zeros : (n i : ℕ) → slice_index (replicate n 0) i ≡ 0
zeros zero i = refl
zeros (suc n) zero = refl
zeros (suc n) (suc i) = zeros n i

-- nothing is stored where no namespace has a place
pub counted_first : (g : Geometry) → IsCut g → IsCounted (record { geometry = g; rows = replicate 17 [] }) (replicate 16 0)
counted_first g cut =
    let m : MapTable = record { geometry = g; rows = replicate 17 [] } in
    let sizes : (n : ℕ) → size_in m n ≡ 0 = λ n. ap length (empty_row 17 n) in
    let none : (n lba : ℕ) → mapped_at m n lba ≡ None = λ n lba. ap (λ (r : List (Option Mapped)). block_in r lba) (empty_row 17 n) in
    let one : (rg n : ℕ) → of_one m (holds m rg) n ≡ 0 = λ rg n. of_one-vacant m rg n (none n) in
    record {
      cut = cut;
      rows = refl;
      first = refl;
      sizes = λ n. omega (arith, sizes n);
      places = λ n lba. subst (λ o. IfSome o (IsPlaced g)) (sym (none n lba)) tt;
      length = refl;
      stored = λ rg below. zeros 16 rg ∙ sym (stored_is m rg ∙ sum_from-zero (of_one m (holds m rg)) 1 16 (λ n _ _. one rg n));
    }

-- a namespace each of whose blocks was removed
pub emptied : (m now old : MapTable) (nsid : ℕ) → m ≡ now → mapped_at now ≡ with_at (mapped_at old) nsid (λ lba. None) → IsVacant (row m nsid)
emptied m now old nsid same blocks lba =
    ap (λ (x : MapTable). mapped_at x nsid lba) same
    ∙ ap (λ (f : ℕ → ℕ → Option Mapped). f nsid lba) blocks
    ∙ ap (λ (t : Bool). (if t then (λ (b : ℕ). None) else mapped_at old nsid) lba) (eq-eqb nsid nsid refl)

-- a namespace without places
pub absent : (m now : MapTable) (nsid : ℕ) → m ≡ now → size_in now nsid ≡ 0 → IsVacant (row m nsid)
absent m now nsid same none lba = block_past m nsid lba (let size : size_in m nsid ≡ size_in now nsid = ap (λ (x : MapTable). size_in x nsid) same in omega (arith, size, none))

-- so many places without a block
abbrev pub vacant : ℕ → List (Option Mapped)
vacant size = replicate size None

pub length-vacant : (size : ℕ) → length (vacant size) ≡ size
length-vacant zero = refl
length-vacant (suc size) = ap suc (length-vacant size)
