-- What an image reads as once an area that is not the current one was replaced.
use Rattle.std.proofs.Common.{◌≡◌, ◌≢◌, ℕ, zero, suc, ◌+◌, ◌<◌, ◌≤◌, ◌⊎◌, Bool, true, false, List, [], ◌∷◌, length, drop, take, Option, Some, None, refl, sym, ap, ◌∙◌, subst, arith, inl, inr, ⊎_elim}
use Rattle.std.specs.Prelude.{◌&&◌, if◌then◌else◌, nat_lt, option_map, slice_get}
use Rattle.std.specs.List.{concat, list_all}
use Rattle.std.proofs.lemmas.Bool.{cases_Bool}
use Rattle.std.proofs.lemmas.Bool.Decides.{nat_tests}
use Rattle.fdp_base.specs.declared.config.DriveConfig.{DriveConfig}
use Rattle.fdp_base.specs.declared.config.Geometry.{Geometry}
use Rattle.fdp_base.specs.Geometry.{area_pages}
use Rattle.fdp_base.specs.Placement.{geometry_of}
use Rattle.fdp_flash.specs.declared.cell.Cell.{Cell}
use Rattle.fdp_flash.specs.Layout.{first_page}
use Rattle.fdp_records.specs.declared.spare.Stamp.{Stamp}
use Rattle.fdp_snapshot.specs.declared.keys.Keys.{Keys}
use Rattle.fdp_snapshot.specs.declared.state.State.{State}
use Rattle.fdp_snapshot.specs.Checkpoint.{checkpoint_size, is_checkpoint}
use Rattle.fdp_snapshot.specs.Reading.{keys_in, state_in, summary_in}
use Rattle.fdp_image.specs.Areas.{Sealed, area_of, area_unit, current_area, data_pages, later_of, sealed_in}
use Rattle.fdp_image.specs.BadFields.{bad_field}
use Rattle.fdp_image.specs.Checkpoint.{reading_of_state, said_by_checkpoint}
use Rattle.fdp_image.specs.CheckpointFields.{same_keys}
use Rattle.fdp_image.specs.Fits.{all_fit}
use Rattle.fdp_image.specs.Reading.{Reading}
use Rattle.fdp_image.specs.Reads.{changes_in, fresh_reading, is_blank, is_checkpoint_of, reads_as, said_by_area, said_by_current}
use Rattle.fdp_image.specs.Replacing.{IsCheckpointOf, IsReplacedIn, IsSameBeside, IsSavedBy, MayBeReplaced, MayBeWritten}
use Rattle.fdp_image.proofs.Fitting.{said_by-made, sound-made}
use Rattle.fdp_image.proofs.Journaling.{slice_get-drop}
use Rattle.fdp_image.proofs.NextRecord.{read_by}

-- ---- pages beside the area

pub take_same : (n : ℕ) (xs ys : List Cell) → ((k : ℕ) → k < n → slice_get xs k ≡ slice_get ys k) → take n xs ≡ take n ys
take_same zero xs ys h = refl
take_same (suc n) [] [] h = refl
take_same (suc n) [] (y ∷ ys) h = let bad = h 0 (omega arith) in absurd cc
take_same (suc n) (x ∷ xs) [] h = let bad = h 0 (omega arith) in absurd cc
take_same (suc n) (x ∷ xs) (y ∷ ys) h =
    let first : Some x ≡ Some y = h 0 (omega arith) in
    let one : x ≡ y = cc in
    let rest = take_same n xs ys (λ k lt. h (suc k) (omega arith)) in
    λ i. one i ∷ rest i

-- the areas are one behind the other
first_below : (g : Geometry) → first_page g (area_unit g 0) + area_pages g ≤ first_page g (area_unit g 1)
first_below g = grind arith

pub data_same : (g : Geometry) (area : ℕ) (old new : List Cell) → IsSameBeside g area old new → take (data_pages g) new ≡ take (data_pages g) old
data_same g area old new p = take_same (data_pages g) new old (λ k lt. p.below k (below g area k lt)) where
  below : (g : Geometry) (area k : ℕ) → k < data_pages g → k < first_page g (area_unit g area)
  below g area k lt = grind (arith, lt)

pub second_same : (g : Geometry) (old new : List Cell) → IsSameBeside g 0 old new → area_of g 1 new ≡ area_of g 1 old
unfolding area_of
second_same g old new p =
    let first = first_page g (area_unit g 1) in
    take_same (area_pages g) (drop first new) (drop first old)
    (λ k lt. slice_get-drop new first k ∙ p.above (first + k) (omega (arith, first_below g)) ∙ sym (slice_get-drop old first k))

pub first_same : (g : Geometry) (old new : List Cell) → IsSameBeside g 1 old new → area_of g 0 new ≡ area_of g 0 old
unfolding area_of
first_same g old new p =
    let first = first_page g (area_unit g 0) in
    take_same (area_pages g) (drop first new) (drop first old)
    (λ k lt. slice_get-drop new first k ∙ p.below (first + k) (omega (arith, first_below g, lt)) ∙ sym (slice_get-drop old first k))

-- ---- which area is current

numbered : ℕ → Option Sealed → Option (ℕ × Sealed)
numbered area o = option_map (λ (x : Sealed). (area, x)) o

abbrev one_of : Bool → Sealed → Sealed → Option (ℕ × Sealed)
one_of later x y = if later then Some (1, y) else Some (0, x)

abbrev with_number : ℕ → Sealed → Option (ℕ × Sealed)
with_number number x = Some (number, x)

-- an area that is not the current one, which has a lower epoch
IsNone : Option (ℕ × Sealed) → ℕ → ℕ → Type 0
IsNone current area epoch = (number : ℕ) (x : Sealed) → current ≡ Some (number, x) → (number ≢ area) × (x.stamp.epoch < epoch)

-- the first area changes
first_gone : (a b : Option Sealed) (epoch : ℕ) → IsNone (later_of (numbered 0 a) (numbered 1 b)) 0 epoch → later_of (numbered 0 None) (numbered 1 b) ≡ later_of (numbered 0 a) (numbered 1 b)
unfolding numbered IsNone
first_gone None b epoch other = refl
first_gone (Some x) None epoch other = absurd ((other 0 x refl).0 refl)
first_gone (Some x) (Some y) epoch other = ⊎_elim later earlier (cases_Bool (nat_lt x.stamp.epoch y.stamp.epoch)) where
  later : nat_lt x.stamp.epoch y.stamp.epoch ≡ true → with_number 1 y ≡ one_of (nat_lt x.stamp.epoch y.stamp.epoch) x y
  later t = sym (ap (λ (b : Bool). one_of b x y) t)

  earlier : nat_lt x.stamp.epoch y.stamp.epoch ≡ false → with_number 1 y ≡ one_of (nat_lt x.stamp.epoch y.stamp.epoch) x y
  earlier t = absurd ((other 0 x (ap (λ (b : Bool). one_of b x y) t)).0 refl)

first_short : (x z : Sealed) (b : Option Sealed) (epoch : ℕ) → z.stamp ≡ x.stamp → IsNone (later_of (numbered 0 (Some x)) (numbered 1 b)) 0 epoch
    → later_of (numbered 0 (Some z)) (numbered 1 b) ≡ later_of (numbered 0 (Some x)) (numbered 1 b)
unfolding numbered IsNone
first_short x z None epoch same other = absurd ((other 0 x refl).0 refl)
first_short x z (Some y) epoch same other = ⊎_elim later earlier (cases_Bool (nat_lt x.stamp.epoch y.stamp.epoch)) where
  later : nat_lt x.stamp.epoch y.stamp.epoch ≡ true → one_of (nat_lt z.stamp.epoch y.stamp.epoch) z y ≡ one_of (nat_lt x.stamp.epoch y.stamp.epoch) x y
  later t =
      let now : nat_lt z.stamp.epoch y.stamp.epoch ≡ true = ap (λ (s : Stamp). nat_lt s.epoch y.stamp.epoch) same ∙ t in
      ap (λ (b : Bool). one_of b z y) now ∙ sym (ap (λ (b : Bool). one_of b x y) t)

  earlier : nat_lt x.stamp.epoch y.stamp.epoch ≡ false → one_of (nat_lt z.stamp.epoch y.stamp.epoch) z y ≡ one_of (nat_lt x.stamp.epoch y.stamp.epoch) x y
  earlier t = absurd ((other 0 x (ap (λ (b : Bool). one_of b x y) t)).0 refl)

not_less : (a b : ℕ) → b < a → nat_lt a b ≡ false
not_less a b h = grind (arith, nat_tests)

less : (a b : ℕ) → a < b → nat_lt a b ≡ true
less a b h = grind (arith, nat_tests)

-- the second area is current, or none is
second_epoch : (a : Option Sealed) (y : Sealed) (epoch : ℕ) → IsNone (later_of (numbered 0 a) (numbered 1 (Some y))) 0 epoch → y.stamp.epoch < epoch
unfolding numbered IsNone
second_epoch None y epoch other = (other 1 y refl).1
second_epoch (Some x) y epoch other = ⊎_elim later earlier (cases_Bool (nat_lt x.stamp.epoch y.stamp.epoch)) where
  later : nat_lt x.stamp.epoch y.stamp.epoch ≡ true → y.stamp.epoch < epoch
  later t = (other 1 y (ap (λ (b : Bool). one_of b x y) t)).1

  earlier : nat_lt x.stamp.epoch y.stamp.epoch ≡ false → y.stamp.epoch < epoch
  earlier t = absurd ((other 0 x (ap (λ (b : Bool). one_of b x y) t)).0 refl)

first_new : (a b : Option Sealed) (z : Sealed) (epoch : ℕ) → z.stamp.epoch ≡ epoch → IsNone (later_of (numbered 0 a) (numbered 1 b)) 0 epoch → later_of (numbered 0 (Some z)) (numbered 1 b) ≡ Some (0, z)
unfolding numbered
first_new a None z epoch is other = refl
first_new a (Some y) z epoch is other =
    let below = second_epoch a y epoch other in
    ap (λ (b : Bool). one_of b z y) (not_less z.stamp.epoch y.stamp.epoch (omega arith))

-- the second area changes
second_gone : (a b : Option Sealed) (epoch : ℕ) → IsNone (later_of (numbered 0 a) (numbered 1 b)) 1 epoch → later_of (numbered 0 a) (numbered 1 None) ≡ later_of (numbered 0 a) (numbered 1 b)
unfolding numbered IsNone
second_gone None None epoch other = refl
second_gone (Some x) None epoch other = refl
second_gone None (Some y) epoch other = absurd ((other 1 y refl).0 refl)
second_gone (Some x) (Some y) epoch other = ⊎_elim later earlier (cases_Bool (nat_lt x.stamp.epoch y.stamp.epoch)) where
  later : nat_lt x.stamp.epoch y.stamp.epoch ≡ true → with_number 0 x ≡ one_of (nat_lt x.stamp.epoch y.stamp.epoch) x y
  later t = absurd ((other 1 y (ap (λ (b : Bool). one_of b x y) t)).0 refl)

  earlier : nat_lt x.stamp.epoch y.stamp.epoch ≡ false → with_number 0 x ≡ one_of (nat_lt x.stamp.epoch y.stamp.epoch) x y
  earlier t = sym (ap (λ (b : Bool). one_of b x y) t)

second_short : (a : Option Sealed) (y z : Sealed) (epoch : ℕ) → z.stamp ≡ y.stamp → IsNone (later_of (numbered 0 a) (numbered 1 (Some y))) 1 epoch
    → later_of (numbered 0 a) (numbered 1 (Some z)) ≡ later_of (numbered 0 a) (numbered 1 (Some y))
unfolding numbered IsNone
second_short None y z epoch same other = absurd ((other 1 y refl).0 refl)
second_short (Some x) y z epoch same other = ⊎_elim later earlier (cases_Bool (nat_lt x.stamp.epoch y.stamp.epoch)) where
  later : nat_lt x.stamp.epoch y.stamp.epoch ≡ true → one_of (nat_lt x.stamp.epoch z.stamp.epoch) x z ≡ one_of (nat_lt x.stamp.epoch y.stamp.epoch) x y
  later t = absurd ((other 1 y (ap (λ (b : Bool). one_of b x y) t)).0 refl)

  earlier : nat_lt x.stamp.epoch y.stamp.epoch ≡ false → one_of (nat_lt x.stamp.epoch z.stamp.epoch) x z ≡ one_of (nat_lt x.stamp.epoch y.stamp.epoch) x y
  earlier t =
      let now : nat_lt x.stamp.epoch z.stamp.epoch ≡ false = ap (λ (s : Stamp). nat_lt x.stamp.epoch s.epoch) same ∙ t in
      ap (λ (b : Bool). one_of b x z) now ∙ sym (ap (λ (b : Bool). one_of b x y) t)

first_epoch : (x : Sealed) (b : Option Sealed) (epoch : ℕ) → IsNone (later_of (numbered 0 (Some x)) (numbered 1 b)) 1 epoch → x.stamp.epoch < epoch
unfolding numbered IsNone
first_epoch x None epoch other = (other 0 x refl).1
first_epoch x (Some y) epoch other = ⊎_elim later earlier (cases_Bool (nat_lt x.stamp.epoch y.stamp.epoch)) where
  later : nat_lt x.stamp.epoch y.stamp.epoch ≡ true → x.stamp.epoch < epoch
  later t = absurd ((other 1 y (ap (λ (b : Bool). one_of b x y) t)).0 refl)

  earlier : nat_lt x.stamp.epoch y.stamp.epoch ≡ false → x.stamp.epoch < epoch
  earlier t = (other 0 x (ap (λ (b : Bool). one_of b x y) t)).1

second_new : (a b : Option Sealed) (z : Sealed) (epoch : ℕ) → z.stamp.epoch ≡ epoch → IsNone (later_of (numbered 0 a) (numbered 1 b)) 1 epoch → later_of (numbered 0 a) (numbered 1 (Some z)) ≡ Some (1, z)
unfolding numbered
second_new None b z epoch is other = refl
second_new (Some x) b z epoch is other =
    let below = first_epoch x b epoch other in
    ap (λ (b : Bool). one_of b x z) (less x.stamp.epoch z.stamp.epoch (omega arith))

-- ---- what the image reads as

-- what becomes of the current area: the same is current, or the new one
record IsKeptOrNew (g : Geometry) (block epoch : ℕ) (s : State) (old new : List Cell) : Type 0 where
  cases : (current_area g new ≡ current_area g old) ⊎ ((number : ℕ) × (z : Sealed) × (current_area g new ≡ Some (number, z)) × IsCheckpointOf 1 block (concat z.checkpoint) s × (z.stamp ≡ record { version = 1; epoch = epoch }) × (z.journal ≡ []))

first_changed : (g : Geometry) (epoch : ℕ) (s : State) (old new : List Cell) → IsSameBeside g 0 old new → IsReplacedIn g.block epoch s (area_of g 0 old) (area_of g 0 new) → MayBeReplaced g old 0 epoch
    → IsKeptOrNew g g.block epoch s old new
unfolding current_area numbered IsNone
first_changed g epoch s old new beside (inl none) other =
    let b = sealed_in (area_of g 1 old) in
    let kept : sealed_in (area_of g 1 new) ≡ b = ap sealed_in (second_same g old new beside) in
    record { cases = inl ((λ i. later_of (numbered 0 (none i)) (numbered 1 (kept i))) ∙ first_gone (sealed_in (area_of g 0 old)) b epoch other) }
first_changed g epoch s old new beside (inr (inl short)) other =
    let b = sealed_in (area_of g 1 old) in
    let kept : sealed_in (area_of g 1 new) ≡ b = ap sealed_in (second_same g old new beside) in
    let there : IsNone (later_of (numbered 0 (Some short.before)) (numbered 1 b)) 0 epoch = subst (λ (o : Option Sealed). IsNone (later_of (numbered 0 o) (numbered 1 b)) 0 epoch) short.sealed_before other in
    record {
      cases = inl
          ((λ i. later_of (numbered 0 (short.sealed_after i)) (numbered 1 (kept i))) ∙ first_short short.before short.after b epoch short.stamp there
          ∙ ap (λ (o : Option Sealed). later_of (numbered 0 o) (numbered 1 b)) (sym short.sealed_before));
    }
first_changed g epoch s old new beside (inr (inr anew)) other =
    let b = sealed_in (area_of g 1 old) in
    let kept : sealed_in (area_of g 1 new) ≡ b = ap sealed_in (second_same g old new beside) in
    record {
      cases = inr
          (0, anew.area, (λ i. later_of (numbered 0 (anew.sealed i)) (numbered 1 (kept i))) ∙ first_new (sealed_in (area_of g 0 old)) b anew.area epoch (ap (λ (t : Stamp). t.epoch) anew.stamp) other, anew.content, anew.stamp, anew.journal);
    }

second_changed : (g : Geometry) (epoch : ℕ) (s : State) (old new : List Cell) → IsSameBeside g 1 old new → IsReplacedIn g.block epoch s (area_of g 1 old) (area_of g 1 new) → MayBeReplaced g old 1 epoch
    → IsKeptOrNew g g.block epoch s old new
unfolding current_area numbered IsNone
second_changed g epoch s old new beside (inl none) other =
    let a = sealed_in (area_of g 0 old) in
    let kept : sealed_in (area_of g 0 new) ≡ a = ap sealed_in (first_same g old new beside) in
    record { cases = inl ((λ i. later_of (numbered 0 (kept i)) (numbered 1 (none i))) ∙ second_gone a (sealed_in (area_of g 1 old)) epoch other) }
second_changed g epoch s old new beside (inr (inl short)) other =
    let a = sealed_in (area_of g 0 old) in
    let kept : sealed_in (area_of g 0 new) ≡ a = ap sealed_in (first_same g old new beside) in
    let there : IsNone (later_of (numbered 0 a) (numbered 1 (Some short.before))) 1 epoch = subst (λ (o : Option Sealed). IsNone (later_of (numbered 0 a) (numbered 1 o)) 1 epoch) short.sealed_before other in
    record {
      cases = inl
          ((λ i. later_of (numbered 0 (kept i)) (numbered 1 (short.sealed_after i))) ∙ second_short a short.before short.after epoch short.stamp there
          ∙ ap (λ (o : Option Sealed). later_of (numbered 0 a) (numbered 1 o)) (sym short.sealed_before));
    }
second_changed g epoch s old new beside (inr (inr anew)) other =
    let a = sealed_in (area_of g 0 old) in
    let kept : sealed_in (area_of g 0 new) ≡ a = ap sealed_in (first_same g old new beside) in
    record {
      cases = inr
          (1, anew.area, (λ i. later_of (numbered 0 (kept i)) (numbered 1 (anew.sealed i))) ∙ second_new a (sealed_in (area_of g 1 old)) anew.area epoch (ap (λ (t : Stamp). t.epoch) anew.stamp) other, anew.content, anew.stamp, anew.journal);
    }

two_areas : (a : ℕ) → a ≤ 1 → (a ≡ 0) ⊎ (a ≡ 1)
two_areas zero h = inl refl
two_areas (suc zero) h = inr refl
two_areas (suc (suc a)) h = absurd (omega arith)

changed : (g : Geometry) (area epoch : ℕ) (s : State) (old new : List Cell) → area ≤ 1 → IsSameBeside g area old new → IsReplacedIn g.block epoch s (area_of g area old) (area_of g area new)
    → MayBeReplaced g old area epoch → IsKeptOrNew g g.block epoch s old new
changed g area epoch s old new two beside replaced other = elim (two_areas area two) [
  | inl is ↦ (
      let b = subst (λ (a : ℕ). IsSameBeside g a old new) is beside in
      let r = subst (λ (a : ℕ). IsReplacedIn g.block epoch s (area_of g a old) (area_of g a new)) is replaced in
      let o = subst (λ (a : ℕ). MayBeReplaced g old a epoch) is other in
      first_changed g epoch s old new b r o
      )
  | inr is ↦ (
      let b = subst (λ (a : ℕ). IsSameBeside g a old new) is beside in
      let r = subst (λ (a : ℕ). IsReplacedIn g.block epoch s (area_of g a old) (area_of g a new)) is replaced in
      let o = subst (λ (a : ℕ). MayBeReplaced g old a epoch) is other in
      second_changed g epoch s old new b r o
      )
]

-- where the same area is current, an image reads as before
reads_same : (c : DriveConfig) (old new : List Cell) → current_area (geometry_of c) new ≡ current_area (geometry_of c) old → take (data_pages (geometry_of c)) new ≡ take (data_pages (geometry_of c)) old
    → reads_as c new ≡ reads_as c old
unfolding reads_as said_by_current
reads_same c old new current pages = ap (said_by_current c new) current ∙ of_current (current_area (geometry_of c) old) where
  of_current : (o : Option (ℕ × Sealed)) → said_by_current c new o ≡ said_by_current c old o
  of_current None = ap (λ (cells : List Cell). if list_all is_blank cells then Some (fresh_reading c) else None) pages
  of_current (Some x) = refl

both : (a b d : Bool) → a ≡ true → b ≡ true → d ≡ true → (a && b && d) ≡ true
both a b d x y z = rw (x, y, z) refl

keys_same : (s : State) (bytes : List ℕ) → s ≡ state_in bytes → keys_in bytes ≡ s.summary.keys
unfolding state_in summary_in
keys_same s bytes told = sym (ap (λ (x : State). x.summary.keys) told)

summary_same : (s : State) (bytes : List ℕ) → s ≡ state_in bytes → summary_in bytes ≡ s.summary
unfolding state_in
summary_same s bytes told = sym (ap (λ (x : State). x.summary) told)

-- a new checkpoint without a journal says its state
pub says_state : (c : DriveConfig) (z : Sealed) (s : State) → IsCheckpointOf z.stamp.version c.block (concat z.checkpoint) s → z.journal ≡ [] → IsSavedBy c s → said_by_area c z ≡ Some (reading_of_state s)
unfolding is_checkpoint_of changes_in all_fit said_by_checkpoint
says_state c z s h none saved =
    let bytes = concat z.checkpoint in
    let filled : nat_lt (length bytes) (checkpoint_size (summary_in bytes) + c.block) ≡ true = less (length bytes) (checkpoint_size (summary_in bytes) + c.block) h.filled in
    let keys : list_all (λ (b : Bool). b) (same_keys c (keys_in bytes)) ≡ true = ap (λ (k : Keys). list_all (λ (b : Bool). b) (same_keys c k)) (keys_same s bytes h.state) ∙ saved.sizes in
    let test : is_checkpoint_of c z ≡ true =
    both (is_checkpoint z.stamp.version bytes) (list_all (λ (b : Bool). b) (same_keys c (keys_in bytes))) (nat_lt (length bytes) (checkpoint_size (summary_in bytes) + c.block)) h.whole keys filled in
    let fields : bad_field c (summary_in bytes) ≡ None = ap (bad_field c) (summary_same s bytes h.state) ∙ saved.fields in
    said_by-made c z (reading_of_state s) (record {
      sound = sound-made c z (record { whole = test; fields = fields });
      changes = [];
      told = ap changes_in none;
      after = record { fit = refl; said = ap reading_of_state (sym h.state) };
    })

-- what writing a checkpoint may leave reads as before, or as its state
pub replaced_reads : (g : Geometry) (area epoch : ℕ) (s : State) (old new : List Cell) → area ≤ 1 → IsSameBeside g area old new → IsReplacedIn g.block epoch s (area_of g area old) (area_of g area new)
    → (c : DriveConfig) (r : Reading) → geometry_of c ≡ g → IsSavedBy c s → MayBeReplaced g old area epoch → reads_as c old ≡ Some r → (reads_as c new ≡ Some r) ⊎ (reads_as c new ≡ Some (reading_of_state s))
replaced_reads g area epoch s old new two beside replaced c r same sizes other read = elim (changed g area epoch s old new two beside replaced other).cases [
  | inl kept ↦ (
      let there : current_area (geometry_of c) new ≡ current_area (geometry_of c) old = subst (λ (h : Geometry). current_area h new ≡ current_area h old) (sym same) kept in
      let pages : take (data_pages (geometry_of c)) new ≡ take (data_pages (geometry_of c)) old = subst (λ (h : Geometry). take (data_pages h) new ≡ take (data_pages h) old) (sym same) (data_same g area old new beside) in
      inl (reads_same c old new there pages ∙ read)
      )
  | inr anew ↦ (
      let z = anew.1 in
      let current : current_area (geometry_of c) new ≡ Some (anew.0, z) = subst (λ (h : Geometry). current_area h new ≡ Some (anew.0, z)) (sym same) anew.2 in
      let block : g.block ≡ c.block = ap (λ (h : Geometry). h.block) (sym same) in
      let version : 1 ≡ z.stamp.version = sym (ap (λ (t : Stamp). t.version) anew.4) in
      let content = subst (λ (v : ℕ). IsCheckpointOf v c.block (concat z.checkpoint) s) version (subst (λ (n : ℕ). IsCheckpointOf 1 n (concat z.checkpoint) s) block anew.3) in
      inr (read_by c new anew.0 z current ∙ says_state c z s content anew.5 sizes)
      )
]

pub may_be_written : (g : Geometry) (area epoch : ℕ) (s : State) (old new : List Cell) → area ≤ 1 → IsSameBeside g area old new → IsReplacedIn g.block epoch s (area_of g area old) (area_of g area new)
    → MayBeWritten g area epoch s old new
may_be_written g area epoch s old new two beside replaced = record {
  beside = beside;
  replaced = replaced;
  reads = replaced_reads g area epoch s old new two beside replaced;
}
