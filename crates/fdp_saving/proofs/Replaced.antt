-- What a checkpoint in the other area leaves the areas to say.
use Rattle.std.proofs.Common.{◌≡◌, ℕ, ◌≤◌, ◌<◌, ◌⊎◌, List, [], length, Some, refl, sym, ap, ◌∙◌, subst, arith, inl, inr}
use Rattle.std.specs.List.{concat}
use Rattle.std.proofs.lemmas.List.{take_all}
use Rattle.fdp_base.specs.declared.config.DriveConfig.{DriveConfig}
use Rattle.fdp_base.specs.declared.config.Geometry.{Geometry}
use Rattle.fdp_base.specs.Placement.{geometry_of}
use Rattle.fdp_flash.specs.declared.cell.Cell.{Cell}
use Rattle.fdp_flash.specs.Layout.{first_page}
use Rattle.fdp_records.specs.declared.spare.Stamp.{Stamp}
use Rattle.fdp_snapshot.specs.declared.state.State.{State}
use Rattle.fdp_image.specs.Areas.{Sealed, area_of, area_unit, current_area, data_pages, sealed_at, sealed_in}
use Rattle.fdp_image.specs.Checkpoint.{reading_of_state}
use Rattle.fdp_image.specs.Reading.{Reading}
use Rattle.fdp_image.specs.Reads.{said_by_area}
use Rattle.fdp_image.specs.Replacing.{IsCheckpointOf, IsNewlySealed, IsReplacedIn, IsSameBeside, IsShortened, IsSavedBy}
use Rattle.fdp_image.specs.Saving.{SameDataPages}
use Rattle.fdp_image.proofs.NextRecord.{current_sealed}
use Rattle.fdp_image.proofs.Replacing.{data_same, first_same, says_state, second_same}
use Rattle.fdp_journal.specs.JournalState.{JournalState}
use Rattle.fdp_saving.specs.Said.{AreasSay, IsTried, said_alone}
use Rattle.fdp_saving.specs.Saver.{other_area}
use Rattle.fdp_saving.proofs.Alone.{alone_same}
use Rattle.fdp_saving.proofs.Chosen.{IsBelow, for_both, other_later, other_none, same_choice, stays_current}

-- ---- beside the other area

abbrev KeepsArea : Geometry → List Cell → List Cell → ℕ → Type 0
KeepsArea g old new area = IsSameBeside g (other_area area) old new → area_of g area new ≡ area_of g area old

-- the saver's area is as it was
pub own_same : (g : Geometry) (old new : List Cell) (area : ℕ) → area ≤ 1 → IsSameBeside g (other_area area) old new → area_of g area new ≡ area_of g area old
own_same g old new area two = for_both (KeepsArea g old new) area two (first_same g old new) (second_same g old new)

-- so are the data pages
pub beside_data : (c : DriveConfig) (area : ℕ) (old new : List Cell) → IsSameBeside (geometry_of c) area old new → SameDataPages c old new
beside_data c area old new beside page lt = beside.below page (below (geometry_of c) area page lt) where
  below : (g : Geometry) (area page : ℕ) → page < data_pages g → page < first_page g (area_unit g area)
  below g area page lt = grind (arith, lt)

-- ---- what the areas say

-- an area that is sealed anew says its state
pub anew_says : (c : DriveConfig) (block epoch : ℕ) (given : State) (cells : List Cell) → block ≡ c.block → (anew : IsNewlySealed block epoch given [] cells) → IsSavedBy c given → said_by_area c anew.area ≡ Some (reading_of_state given)
anew_says c block epoch given cells same anew saved =
    let version : 1 ≡ anew.area.stamp.version = sym (ap (λ (t : Stamp). t.version) anew.stamp) in
    let content = subst (λ (v : ℕ). IsCheckpointOf v c.block (concat anew.area.checkpoint) given) version (subst (λ (n : ℕ). IsCheckpointOf 1 n (concat anew.area.checkpoint) given) same anew.content) in
    says_state c anew.area given content anew.journal saved

-- an area all of whose journal pages stand before its seal, and that lost none of these, is as it was
unshortened : (old new : List Cell) (z : Sealed) → sealed_in old ≡ Some z → z.before ≡ length z.journal → (short : IsShortened old new) → sealed_in new ≡ Some z
unshortened old new z sealed ended short =
    let both : Some short.before ≡ Some z = sym short.sealed_before ∙ sealed in
    let before : short.before ≡ z = cc in
    let whole : short.before.before ≡ length short.before.journal = subst (λ (x : Sealed). x.before ≡ length x.journal) (sym before) ended in
    let enough = short.enough in
    let journal : short.after.journal ≡ z.journal = short.journal ∙ take_all short.kept short.before.journal (omega (arith, whole, enough)) ∙ ap (λ (x : Sealed). x.journal) before in
    let stamp : short.after.stamp ≡ z.stamp = short.stamp ∙ ap (λ (x : Sealed). x.stamp) before in
    let checkpoint : short.after.checkpoint ≡ z.checkpoint = short.checkpoint ∙ ap (λ (x : Sealed). x.checkpoint) before in
    let count : short.after.before ≡ z.before = short.before_is ∙ ap (λ (x : Sealed). x.before) before in
    let same : short.after ≡ z = λ i. record { stamp = stamp i; checkpoint = checkpoint i; before = count i; journal = journal i } in
    short.sealed_after ∙ ap Some same

-- the saver's area has a lower epoch
abbrev pub IsOwnBelow : DriveConfig → JournalState → List Cell → ℕ → Type 0
IsOwnBelow c s cells epoch = IsBelow (sealed_in (area_of (geometry_of c) s.area cells)) epoch

-- Whatever becomes of the other area: the saver's area says what it said, and the other one, if it is current, what it said or the state.
pub replaced_says : (c : DriveConfig) (s : JournalState) (own tried : Reading) (epoch : ℕ) (given : State) (old new : List Cell) → s.area ≤ 1 → AreasSay c s old own tried → IsOwnBelow c s old epoch
    → IsSameBeside (geometry_of c) (other_area s.area) old new
    → IsReplacedIn (geometry_of c).block epoch given (area_of (geometry_of c) (other_area s.area) old) (area_of (geometry_of c) (other_area s.area) new) → IsSavedBy c given
    → AreasSay c s new own tried ⊎ AreasSay c s new own (reading_of_state given)
replaced_says c s own tried epoch given old new two says below beside replaced saved = elim replaced [
  | inl none ↦ inl (record { own_says = own_says; current = inl (other_none g new area two none) })
  | inr some ↦ elim some [
    | inl short ↦ inl (record { own_says = own_says; current = of_short short })
    | inr anew ↦ inr (record { own_says = own_says; current = inr (of_anew anew) })
  ]
]
  where
    g : Geometry
    g = geometry_of c

    area : ℕ
    area = s.area

    other : ℕ
    other = other_area s.area

    kept : sealed_in (area_of g area new) ≡ sealed_in (area_of g area old)
    kept = ap sealed_in (own_same g old new area two beside)

    own_says : said_alone c area new ≡ Some own
    own_says = alone_same c area old new (data_same g other old new beside) kept ∙ says.own_says

    of_short : IsShortened (area_of g other old) (area_of g other new) → (current_area g new ≡ sealed_at g new area) ⊎ IsTried c other new tried
    of_short short = elim says.current [
      | inl is ↦ inl
          (stays_current g old new area two
          (record { before = short.before; after = short.after; sealed_before = short.sealed_before; sealed_after = short.sealed_after; stamp = short.stamp }) kept is)
      | inr was ↦ (
          let sealed = current_sealed g old other was.sealed was.current in
          let same = unshortened (area_of g other old) (area_of g other new) was.sealed sealed was.ended short in
          inr (record { sealed = was.sealed; current = same_choice g old new area two kept (same ∙ sym sealed) ∙ was.current; ended = was.ended; says = was.says })
          )
    ]

    of_anew : IsNewlySealed g.block epoch given [] (area_of g other new) → IsTried c other new (reading_of_state given)
    of_anew anew =
        let is : anew.area.stamp.epoch ≡ epoch = ap (λ (t : Stamp). t.epoch) anew.stamp in
        record {
          sealed = anew.area;
          current =
              other_later g new anew.area area two anew.sealed
              (λ x e. let lt : x.stamp.epoch < epoch = below x (sym kept ∙ e) in omega (arith, lt, is));
          ended = anew.before ∙ ap length (sym anew.journal);
          says = anew_says c g.block epoch given (area_of g other new) refl anew saved;
        }
