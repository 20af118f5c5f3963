-- The checkpoint pages of an area, fetched one after another.
use Rattle.std.proofs.Common.{◌≡◌, ℕ, zero, suc, ◌+◌, ◌*◌, ◌<◌, Bool, true, false, IsTrue, List, [], ◌∷◌, ◌++◌, length, take, Some, refl, sym, ap, ◌∙◌, arith, append_assoc}
use Rattle.std.specs.Prelude.{slice_get}
use Rattle.std.specs.List.{concat}
use Rattle.std.proofs.Math.Nat.{add-mul}
use Rattle.std.proofs.lemmas.List.{append-nil}
use Rattle.fdp_base.specs.declared.config.Geometry.{Geometry}
use Rattle.fdp_base.specs.declared.entry.Spot.{Spot}
use Rattle.fdp_base.specs.Geometry.{area_pages}
use Rattle.fdp_flash.specs.declared.cell.Cell.{Cell}
use Rattle.fdp_flash.specs.declared.cell.Cell.TheVariants.{Whole}
use Rattle.fdp_flash.specs.declared.answer.Fetched.TheVariants as fetched
use Rattle.fdp_flash.specs.Answers.{Fetches}
use Rattle.fdp_flash.specs.Failing.{FailsLast}
use Rattle.fdp_flash.specs.FlashState.{Begins, FlashState, IsWellFormed}
use Rattle.fdp_flash.proofs.Failing.{call_failed}
use Rattle.fdp_flash.specs.Layout.{first_page, page_number}
use Rattle.fdp_image.specs.Areas.{Sealed, area_of, area_unit, leading, sealed_in}
use Rattle.fdp_image.proofs.AreaPages.{area_page}
use Rattle.fdp_image.proofs.Leading.{leading_page}
use Rattle.fdp_image.proofs.Journaling.{checkpoint_read}
use Rattle.fdp_records.specs.declared.spare.Stamp.{Stamp}
use Rattle.fdp_records.specs.declared.spare.SystemKind.TheVariants as kinds
use Rattle.fdp_records.specs.Spares.{system_spare}
use Rattle.fdp_areas.specs.declared.seal.Seal.{Seal}
use Rattle.fdp_areas.specs.Seals.{IsSealed}

-- the checkpoint pages of an area with this version and epoch
abbrev pub pages_in : Geometry → ℕ → List Cell → Stamp → List (List ℕ)
pages_in g area cells t = leading kinds.Checkpoint 0 t (area_of g area cells)

-- a checkpoint page is whole, with its spare and bytes
pub record IsPage (g : Geometry) (area : ℕ) (s : FlashState) (at : Spot) (number : ℕ) (t : Stamp) : Type 0 where
  pub bytes : List ℕ
  pub cell : slice_get s.cells (page_number s.geometry at) ≡ Some (Whole (system_spare (record { kind = kinds.Checkpoint; number = number; stamp = t })) bytes)
  pub page : slice_get (pages_in g area s.cells t) number ≡ Some bytes

pub page_is : (g : Geometry) (area : ℕ) (s : FlashState) (at : Spot) (number : ℕ) (t : Stamp) → g ≡ s.geometry → number < area_pages g
    → page_number g at ≡ first_page g (area_unit g area) + number → number < length (pages_in g area s.cells t) → IsPage g area s at number t
page_is g area s at number t same inside place lt =
    let p = leading_page kinds.Checkpoint 0 t (area_of g area s.cells) number lt in
    let n : 0 + number ≡ number = omega arith in
    record {
      bytes = p.bytes;
      cell =
          ap (slice_get s.cells) (sym (ap (λ (h : Geometry). page_number h at) same) ∙ place) ∙ sym (area_page g area number s.cells inside) ∙ p.cell
          ∙ ap (λ (k : ℕ). Some (Whole (system_spare (record { kind = kinds.Checkpoint; number = k; stamp = t })) p.bytes)) n;
      page = p.page;
    }

not_false : (b : Bool) → (b ≡ false → ⊥) → b ≡ true
not_false true wrong = refl
not_false false wrong = absurd (wrong refl)

-- an answer Other is a failure where the page is a checkpoint page as far as the cells are told
pub page_missed : (old new : FlashState) (at : Spot) (spare bytes : List ℕ) → IsWellFormed new → Begins old new → Fetches old new at spare bytes fetched.Other
    → (IsTrue old.told → (found : List ℕ) × (slice_get old.cells (page_number old.geometry at) ≡ Some (Whole spare found))) → FailsLast old new new.moment
page_missed old new at spare bytes w b a whole =
    call_failed old new _ _ w b a.ended
    (not_false a.failed
    (λ e.
    let p = whole (a.told refl e) in
    a.other refl e p.0 p.1))

-- the bytes that were fetched are those of the page
pub page_got : (g : Geometry) (area : ℕ) (s : FlashState) (at : Spot) (number : ℕ) (t : Stamp) (spare bytes : List ℕ) → IsPage g area s at number t
    → slice_get s.cells (page_number s.geometry at) ≡ Some (Whole spare bytes) → slice_get (pages_in g area s.cells t) number ≡ Some bytes
page_got g area s at number t spare bytes p got =
    let both : Some (Whole (system_spare (record { kind = kinds.Checkpoint; number = number; stamp = t })) p.bytes) ≡ Some (Whole spare bytes) = sym p.cell ∙ got in
    let same : p.bytes ≡ bytes = cc in
    p.page ∙ ap Some same

take-one_more : (xs : List (List ℕ)) (i : ℕ) (x : List ℕ) → slice_get xs i ≡ Some x → take (i + 1) xs ≡ take i xs ++ x ∷ []
take-one_more [] i x at = absurd cc
take-one_more (y ∷ ys) zero x at = let same : y ≡ x = cc in ap (λ (z : List ℕ). z ∷ []) same
take-one_more (y ∷ ys) (suc i) x at =
    let n : suc i + 1 ≡ suc (i + 1) = omega arith in
    ap (λ (k : ℕ). take k (y ∷ ys)) n ∙ ap (λ (zs : List (List ℕ)). y ∷ zs) (take-one_more ys i x at)

concat_more : (pages : List (List ℕ)) (page : List ℕ) → concat (pages ++ page ∷ []) ≡ concat pages ++ page
concat_more [] page = append-nil page
concat_more (p ∷ ps) page = ap (λ (xs : List ℕ). p ++ xs) (concat_more ps page) ∙ sym (append_assoc p (concat ps) page)

-- one page more was fetched
pub one_page_more : (pages : List (List ℕ)) (i : ℕ) (bytes page new : List ℕ) → bytes ≡ concat (take i pages) → slice_get pages i ≡ Some page → new ≡ bytes ++ page → new ≡ concat (take (i + 1) pages)
one_page_more pages i bytes page new before at grown =
    grown ∙ ap (λ (xs : List ℕ). xs ++ page) before ∙ sym (concat_more (take i pages) page) ∙ sym (ap concat (take-one_more pages i page at))

pub one_block_more : (k block a b : ℕ) → a ≡ k * block → b ≡ block → a + b ≡ (k + 1) * block
one_block_more k block a b before more = omega (arith, before, more, add-mul k 1 block)

-- ---- a sealed area

record IsSealedSo (cells : List Cell) (seal : Seal) (z : Sealed) : Type 0 where
  stamp : z.stamp ≡ seal.stamp
  count : length z.checkpoint ≡ seal.checkpoint

sealed_so : (cells : List Cell) (seal : Seal) (z : Sealed) → IsSealed cells seal → sealed_in cells ≡ Some z → IsSealedSo cells seal z
sealed_so cells seal z is sealed =
    let both : Some is.area ≡ Some z = sym is.sealed ∙ sealed in
    let one : is.area ≡ z = cc in
    record { stamp = ap (λ (s : Sealed). s.stamp) (sym one) ∙ is.seal_is.stamp; count = ap (λ (s : Sealed). length s.checkpoint) (sym one) ∙ is.seal_is.checkpoint }

-- the checkpoint pages of a sealed area are those that come first
pub sealed_pages : (g h : Geometry) (area : ℕ) (cells : List Cell) (seal : Seal) (z : Sealed) → g ≡ h → IsSealed (area_of h area cells) seal → sealed_in (area_of h area cells) ≡ Some z → z.checkpoint ≡ pages_in g area cells seal.stamp
sealed_pages g h area cells seal z same is sealed =
    sym (checkpoint_read (area_of h area cells) z sealed) ∙ ap (λ (t : Stamp). pages_in h area cells t) (sealed_so (area_of h area cells) seal z is sealed).stamp
    ∙ ap (λ (k : Geometry). pages_in k area cells seal.stamp) (sym same)

pub sealed_count : (g h : Geometry) (area : ℕ) (cells : List Cell) (seal : Seal) → g ≡ h → IsSealed (area_of h area cells) seal → length (pages_in g area cells seal.stamp) ≡ seal.checkpoint
sealed_count g h area cells seal same is = ap length (sym (sealed_pages g h area cells seal is.area same is is.sealed)) ∙ is.seal_is.checkpoint

pub sealed_stamp : (cells : List Cell) (seal : Seal) (z : Sealed) → IsSealed cells seal → sealed_in cells ≡ Some z → z.stamp ≡ seal.stamp
sealed_stamp cells seal z is sealed = (sealed_so cells seal z is sealed).stamp
