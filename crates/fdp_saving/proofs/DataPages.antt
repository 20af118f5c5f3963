-- A change of the data pages alone.
use Rattle.std.proofs.Common.{◌≡◌, ℕ, zero, suc, ◌+◌, ◌≤◌, ◌<◌, List, [], ◌∷◌, drop, take, Option, Some, refl, sym, ap, ◌∙◌, subst, arith, inl, inr}
use Rattle.std.specs.Prelude.{option_map, slice_get}
use Rattle.fdp_base.specs.declared.config.DriveConfig.{DriveConfig}
use Rattle.fdp_base.specs.declared.config.Geometry.{Geometry}
use Rattle.fdp_base.specs.Geometry.{area_pages}
use Rattle.fdp_base.specs.Placement.{geometry_of}
use Rattle.fdp_flash.specs.declared.cell.Cell.{Cell}
use Rattle.fdp_flash.specs.Layout.{first_page}
use Rattle.fdp_image.specs.Areas.{Sealed, area_of, area_unit, current_area, data_pages, later_of, sealed_in}
use Rattle.fdp_image.specs.Reading.{Reading}
use Rattle.fdp_image.specs.Reads.{next_page, said_by_area, said_by_current}
use Rattle.fdp_image.specs.Saving.{AreBlankFrom}
use Rattle.fdp_image.proofs.Journaling.{slice_get-drop}
use Rattle.fdp_journal.specs.Journal.{IsJournalIn}
use Rattle.fdp_journal.specs.JournalState.{JournalState}
use Rattle.fdp_saving.specs.Said.{AreasSay, said_alone}
use Rattle.fdp_saving.specs.Saver.{IsSaverIn, IsSealedArea}

-- the pages of the system areas are the same
abbrev pub SameSystemPages : Geometry → List Cell → List Cell → Type 0
SameSystemPages g old new = (page : ℕ) → data_pages g ≤ page → slice_get new page ≡ slice_get old page

take_same : (n : ℕ) (xs ys : List Cell) → ((k : ℕ) → slice_get xs k ≡ slice_get ys k) → take n xs ≡ take n ys
take_same zero xs ys h = refl
take_same (suc n) [] [] h = refl
take_same (suc n) [] (y ∷ ys) h = let bad = h 0 in absurd cc
take_same (suc n) (x ∷ xs) [] h = let bad = h 0 in absurd cc
take_same (suc n) (x ∷ xs) (y ∷ ys) h =
    let first : Some x ≡ Some y = h 0 in
    let one : x ≡ y = cc in
    let rest = take_same n xs ys (λ k. h (suc k)) in
    λ i. one i ∷ rest i

behind_data : (g : Geometry) (area k : ℕ) → data_pages g ≤ first_page g (area_unit g area) + k
behind_data g area k = grind arith

area_same : (g : Geometry) (area : ℕ) (old new : List Cell) → SameSystemPages g old new → area_of g area new ≡ area_of g area old
unfolding area_of
area_same g area old new same =
    let first = first_page g (area_unit g area) in
    take_same (area_pages g) (drop first new) (drop first old)
    (λ k. slice_get-drop new first k ∙ same (first + k) (behind_data g area k) ∙ sym (slice_get-drop old first k))

current_same : (g : Geometry) (old new : List Cell) → SameSystemPages g old new → current_area g new ≡ current_area g old
unfolding current_area
current_same g old new same =
    let first = ap sealed_in (area_same g 0 old new same) in
    let second = ap sealed_in (area_same g 1 old new same) in
    λ i. later_of (option_map (λ (x : Sealed). (0, x)) (first i)) (option_map (λ (x : Sealed). (1, x)) (second i))

journal_same : (s : JournalState) (old new : List Cell) → SameSystemPages s.geometry old new → IsJournalIn old s → IsJournalIn new s
journal_same s old new same j = record {
  area = j.area;
  goes_on = record {
    current = current_same s.geometry old new same ∙ j.goes_on.current;
    blank = subst (λ (cells : List Cell). AreBlankFrom (next_page j.area) cells) (sym (area_same s.geometry s.area old new same)) j.goes_on.blank;
  };
  stamp = j.stamp;
  checkpoint = j.checkpoint;
  records = j.records;
}

pub saver_stays : (s : JournalState) (old new : List Cell) → SameSystemPages s.geometry old new → IsSaverIn old s → IsSaverIn new s
saver_stays s old new same h =
    let kept = ap sealed_in (area_same s.geometry s.area old new same) in
    record {
      sealed = λ some. let was = h.sealed some in (was.0, kept ∙ was.1);
      epoch = λ z e. h.epoch z (sym kept ∙ e);
      sure = λ sure. journal_same s old new same (h.sure sure);
    }

-- a sealed area says what it says, whatever the data pages hold
sealed_says : (c : DriveConfig) (area : ℕ) (cells : List Cell) (z : Sealed) → sealed_in (area_of (geometry_of c) area cells) ≡ Some z → said_alone c area cells ≡ said_by_area c z
unfolding said_by_current
sealed_says c area cells z sealed = ap (λ (o : Option Sealed). said_by_current c cells (option_map (λ (x : Sealed). (area, x)) o)) sealed

says_at : (c : DriveConfig) (s : JournalState) (old new : List Cell) (own tried : Reading) → SameSystemPages (geometry_of c) old new → IsSealedArea (geometry_of c) s.area old → AreasSay c s old own tried → AreasSay c s new own tried
says_at c s old new own tried same sealed says =
    let g = geometry_of c in
    let kept : sealed_in (area_of g s.area new) ≡ sealed_in (area_of g s.area old) = ap sealed_in (area_same g s.area old new same) in
    let current = current_same g old new same in
    record {
      own_says = sealed_says c s.area new sealed.0 (kept ∙ sealed.1) ∙ sym (sealed_says c s.area old sealed.0 sealed.1) ∙ says.own_says;
      current = elim says.current [
        | inl is ↦ inl (current ∙ is ∙ sym (ap (option_map (λ (x : Sealed). (s.area, x))) kept))
        | inr was ↦ inr (record { sealed = was.sealed; current = current ∙ was.current; ended = was.ended; says = was.says })
      ];
    }

pub says_stay : (c : DriveConfig) (s : JournalState) (old new : List Cell) (own tried : Reading) → geometry_of c ≡ s.geometry → 0 < s.stamp.epoch → SameSystemPages s.geometry old new → IsSaverIn old s
    → AreasSay c s old own tried → AreasSay c s new own tried
says_stay c s old new own tried is some same saver says =
    says_at c s old new own tried (subst (λ (g : Geometry). SameSystemPages g old new) (sym is) same)
    (subst (λ (g : Geometry). IsSealedArea g s.area old) (sym is) (saver.sealed some)) says
