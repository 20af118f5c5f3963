-- The invariant of the map: what each group stores is counted.
use Rattle.std.proofs.Common.{◌≡◌, ℕ, ◌+◌, ◌/◌, ◌^◌, ◌<◌, ◌≤◌, true, false, List, length, Option, Some, None, refl, ap, sym, ◌∙◌, subst, arith, eq-eqb, ⊎_elim}
use Rattle.std.specs.Prelude.{◌==◌, IfSome, if◌then◌else◌, slice_index}
use Rattle.std.proofs.Math.ListN.{length-set}
use Rattle.std.proofs.Math.Nat.{div-lt_iff_lt-mul}
use Rattle.std.proofs.lemmas.Bool.{cases_lt}
use Rattle.fdp_base.specs.declared.config.Geometry.{Geometry}
use Rattle.fdp_base.specs.Geometry.{IsWithin, data_units}
use Rattle.fdp_base.specs.Numbers.{with_at}
use Rattle.fdp_map.specs.Counting.{as_number}
use Rattle.fdp_map.specs.declared.mapped.Mapped.{Mapped}
use Rattle.fdp_map.specs.MapTable.{IsCounted, IsCut, IsPlaced, MapTable, is_mapped_in, mapped_at, size_in, stored_in, with_mapped}
use Rattle.fdp_map.proofs.Stored.{stored-bound, stored_put, stored_some}
use Rattle.fdp_map.proofs.Tables.{blocks_put, put_in, row_there, sizes_put}

-- a namespace with a place has one of the identifiers
pub identifier : (m : MapTable) (counts : List ℕ) → IsCounted m counts → (nsid lba : ℕ) → lba < size_in m nsid → IsWithin 1 16 nsid
identifier m counts h nsid lba within =
    let there : nsid < length m.rows = row_there m nsid lba within in (
      ⊎_elim
          (λ (least : nsid < 1).
          let zero_is : nsid ≡ 0 = omega (arith, least) in
          let none : size_in m nsid ≡ 0 = ap (size_in m) zero_is ∙ h.first in
          absurd (omega (arith, none, within)))
          (λ (low : 1 ≤ nsid). low)
          (cases_lt nsid 1),
      omega (arith, there, h.rows),
    )

-- a group is below sixteen
abbrev pub IsKnown : Option Mapped → Type 0
IsKnown x = IfSome x (λ y. y.rg < 16)

-- the group of a page of a data unit is one of the flash
pub group_below : (g : Geometry) → IsCut g → (unit : ℕ) → unit < data_units g → unit / g.units < 16
group_below g cut unit within =
    let below : unit / g.units < g.groups = (div-lt_iff_lt-mul {k = g.units} {x = unit} {y = g.groups} (omega (arith, cut.units))).1 within in
    omega (arith, below, cut.groups)

pub known : (g : Geometry) → IsCut g → (x : Option Mapped) → IfSome x (IsPlaced g) → IsKnown x
known g cut None h = tt
known g cut (Some x) h = omega (arith, h.group, group_below g cut x.spot.unit h.page.unit)

-- the group of a block is counted once at least
pub one_counted : (m : MapTable) (counts : List ℕ) (nsid lba : ℕ) → IsCounted m counts → lba < size_in m nsid → (x : Option Mapped) → mapped_at m nsid lba ≡ x → IfSome x (λ y. (y.rg < length counts) × (1 ≤ slice_index counts y.rg))
one_counted m counts nsid lba h within None e = tt
one_counted m counts nsid lba h within (Some x) e =
    let there : nsid < length m.rows = row_there m nsid lba within in
    let known : IsKnown (Some x) = known m.geometry h.cut (Some x) (subst (λ o. IfSome o (IsPlaced m.geometry)) e (h.places nsid lba)) in
    let in_group : is_mapped_in x.rg (mapped_at m nsid lba) ≡ true = ap (is_mapped_in x.rg) e ∙ eq-eqb x.rg x.rg refl in
    let id : IsWithin 1 16 nsid = identifier m counts h nsid lba within in
    let some : 1 ≤ stored_in m x.rg = stored_some m nsid lba x.rg there id.0 id.1 within in_group in
    (omega (arith, known, h.length), omega (arith, some, h.stored x.rg known))

-- there is room to count a block more
pub one_more : (m : MapTable) (counts lowered : List ℕ) (nsid lba : ℕ) → IsCounted m counts → length lowered ≡ length counts
    → ((rg : ℕ) → slice_index lowered rg + as_number (is_mapped_in rg (mapped_at m nsid lba)) ≡ slice_index counts rg)
    → (x : Option Mapped) → IfSome x (IsPlaced m.geometry) → IfSome x (λ y. (y.rg < length lowered) × (slice_index lowered y.rg + 1 < 2 ^ 64))
one_more m counts lowered nsid lba h lengths down None placed = tt
one_more m counts lowered nsid lba h lengths down (Some x) placed =
    let most : stored_in m x.rg ≤ 4194304 = stored-bound m x.rg h.sizes in
    let low : x.rg < 16 = known m.geometry h.cut (Some x) placed in
    (omega (arith, low, lengths, h.length), omega (arith, down x.rg, h.stored x.rg low, most))

-- what holds of each block holds with one that is put
all_put : (P : Option Mapped → Type 0) (table : ℕ → ℕ → Option Mapped) (nsid lba : ℕ) (x : Option Mapped) → P x → ((n b : ℕ) → P (table n b)) → (n b : ℕ) → P (with_mapped table nsid lba x n b)
all_put P table nsid lba x new old n b =
    let in_row : P (with_at (table nsid) lba x b) = elim (b == lba) as (λ t. P (if t then x else table nsid b)) [ true ↦ new | false ↦ old nsid b ] in
    elim (n == nsid) as (λ t. P ((if t then with_at (table nsid) lba x else table n) b)) [ true ↦ in_row | false ↦ old n b ]

-- after a block was put, and the counts were changed
pub counted_put : (m : MapTable) (counts lowered raised : List ℕ) (nsid lba : ℕ) (x : Option Mapped) → IsCounted m counts → lba < size_in m nsid → IfSome x (IsPlaced m.geometry)
    → length raised ≡ length lowered → length lowered ≡ length counts
    → ((rg : ℕ) → slice_index lowered rg + as_number (is_mapped_in rg (mapped_at m nsid lba)) ≡ slice_index counts rg)
    → ((rg : ℕ) → slice_index raised rg ≡ slice_index lowered rg + as_number (is_mapped_in rg x))
    → IsCounted (put_in m nsid lba x) raised
counted_put m counts lowered raised nsid lba x h within placed as_lowered as_counts down up =
    let there : nsid < length m.rows = row_there m nsid lba within in
    let id : IsWithin 1 16 nsid = identifier m counts h nsid lba within in
    record {
      cut = h.cut;
      rows = length-set m.rows nsid _ ∙ h.rows;
      first = sizes_put m nsid lba x there 0 ∙ h.first;
      sizes = λ n. omega (arith, sizes_put m nsid lba x there n, h.sizes n);
      places = λ n b. subst (λ o. IfSome o (IsPlaced m.geometry)) (sym (blocks_put m nsid lba x there within n b)) (all_put (λ o. IfSome o (IsPlaced m.geometry)) (mapped_at m) nsid lba x placed h.places n b);
      length = as_lowered ∙ as_counts ∙ h.length;
      stored = λ rg below. omega (arith, down rg, up rg, h.stored rg below, stored_put m nsid lba x rg there id.0 id.1 within);
    }
