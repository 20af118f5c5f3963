-- An area without a seal.
use Rattle.std.proofs.Common.{◌≡◌, ◌≢◌, ℕ, suc, ◌+◌, ◌<◌, ◌⊎◌, Bool, false, List, ◌++◌, length, drop, set, Option, Some, None, refl, sym, ap, ◌∙◌, arith, inl, inr}
use Rattle.std.specs.Prelude.{if◌then◌else◌, slice_get}
use Rattle.std.specs.Option.{option_and_then, option_map_or}
use Rattle.std.proofs.lemmas.Bool.{cases_eq}
use Rattle.fdp_flash.specs.declared.cell.Cell.{Cell}
use Rattle.fdp_flash.specs.declared.cell.Cell.TheVariants.{Blank, Torn, Whole}
use Rattle.fdp_flash.proofs.Lists.{slice_get-set_other, slice_get-set_same}
use Rattle.fdp_records.specs.declared.spare.Stamp.{Stamp}
use Rattle.fdp_records.specs.declared.spare.SystemKind.{SystemKind}
use Rattle.fdp_records.specs.declared.spare.SystemKind.TheVariants.{Checkpoint, Journal}
use Rattle.fdp_records.specs.Spares.{system_spare}
use Rattle.fdp_image.specs.Areas.{is_seal, leading, page_bytes, sealed_behind, sealed_by, sealed_in, stamp_of}
use Rattle.fdp_image.specs.Replacing.{HasNoSeal}
use Rattle.fdp_image.specs.Saving.{AreBlankFrom}
use Rattle.fdp_image.proofs.Wiping.{in_range}

-- it is not sealed
pub unsealed : (cells : List Cell) → HasNoSeal cells → sealed_in cells ≡ None
unfolding sealed_in sealed_by sealed_behind
unsealed cells none = of_stamp (option_and_then stamp_of (slice_get cells 0)) where
  of_seal : (t : Stamp) (n : ℕ) (o : Option Cell) → slice_get cells n ≡ o → option_map_or (is_seal t n) o false ≡ false
  of_seal t n None is = refl
  of_seal t n (Some cell) is = none n cell is t n

  of_stamp : (o : Option Stamp) → option_and_then (sealed_by cells) o ≡ None
  of_stamp None = refl
  of_stamp (Some t) =
      let pages = leading Checkpoint 0 t cells in
      let first = leading Journal 0 t (drop (length pages) cells) in
      let n = length pages + length first in
      ap (λ (b : Bool). if b then Some (record { stamp = t; checkpoint = pages; before = length first; journal = first ++ leading Journal (length first) t (drop (suc n) cells) }) else None)
      (of_seal t n (slice_get cells n) refl)

page_no_seal : (t x : Stamp) (n k : ℕ) (bytes : List ℕ) → is_seal t n (Whole (system_spare (record { kind = Checkpoint; number = k; stamp = x })) bytes) ≡ false
unfolding page_bytes system_spare
page_no_seal t x n k bytes = refl

record_no_seal : (t x : Stamp) (n k : ℕ) (bytes : List ℕ) → is_seal t n (Whole (system_spare (record { kind = Journal; number = k; stamp = x })) bytes) ≡ false
unfolding page_bytes system_spare
record_no_seal t x n k bytes = refl

-- what a program of a page of a kind may leave of it
abbrev pub IsLeft : SystemKind → ℕ → Stamp → List ℕ → Cell → Type 0
IsLeft kind number stamp bytes cell = (cell ≡ Blank) ⊎ (cell ≡ Torn) ⊎ (cell ≡ Whole (system_spare (record { kind = kind; number = number; stamp = stamp })) bytes)

-- of a checkpoint page or a journal page it is no seal
pub left_no_seal : (kind : SystemKind) (number : ℕ) (stamp : Stamp) (bytes : List ℕ) (cell : Cell) → (kind ≡ Checkpoint) ⊎ (kind ≡ Journal) → IsLeft kind number stamp bytes cell → (t : Stamp) (n : ℕ) → is_seal t n cell ≡ false
unfolding page_bytes
left_no_seal kind number stamp bytes cell which (inl blank) t n = ap (is_seal t n) blank
left_no_seal kind number stamp bytes cell which (inr (inl torn)) t n = ap (is_seal t n) torn
left_no_seal kind number stamp bytes cell (inl is) (inr (inr whole)) t n =
    ap (is_seal t n) (whole ∙ ap (λ (k : SystemKind). Whole (system_spare (record { kind = k; number = number; stamp = stamp })) bytes) is) ∙ page_no_seal t stamp n number bytes
left_no_seal kind number stamp bytes cell (inr is) (inr (inr whole)) t n =
    ap (is_seal t n) (whole ∙ ap (λ (k : SystemKind). Whole (system_spare (record { kind = k; number = number; stamp = stamp })) bytes) is) ∙ record_no_seal t stamp n number bytes

-- an area all of whose pages are blank has no seal
pub blank_no_seal : (cells : List Cell) → AreBlankFrom 0 cells → HasNoSeal cells
unfolding page_bytes
blank_no_seal cells blank k cell at t n =
    let there : Some cell ≡ Some Blank = sym at ∙ blank k (omega arith) (in_range cells k cell at) in
    let is : cell ≡ Blank = cc in
    ap (is_seal t n) is

-- with a page more that is no seal it still has none
pub set_no_seal : (cells : List Cell) (number : ℕ) (new : Cell) → number < length cells → HasNoSeal cells → ((t : Stamp) (n : ℕ) → is_seal t n new ≡ false) → HasNoSeal (set cells number new)
set_no_seal cells number new inside none one k cell at t n = elim (cases_eq k number) [
  | inl same ↦ (
      let both : Some new ≡ Some cell = sym (ap (slice_get (set cells number new)) same ∙ slice_get-set_same cells number new inside) ∙ at in
      let is : new ≡ cell = cc in
      sym (ap (is_seal t n) is) ∙ one t n
      )
  | inr other ↦ none k cell (sym (slice_get-set_other cells number k new other) ∙ at) t n
]
