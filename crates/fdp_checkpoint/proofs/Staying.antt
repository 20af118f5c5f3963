-- The current area, while the other one is written, and what an image reads as.
use Rattle.std.proofs.Common.{◌≡◌, ◌≢◌, ℕ, ◌<◌, ◌≤◌, ◌⊎◌, Bool, true, false, IsTrue, List, [], Option, Some, None, refl, sym, ap, ◌∙◌, subst, arith, inl, inr, ⊎_elim}
use Rattle.std.specs.Prelude.{if◌then◌else◌, nat_lt, option_map}
use Rattle.std.specs.List.{concat}
use Rattle.std.specs.Option.{option_map_or}
use Rattle.std.proofs.lemmas.Bool.{cases_Bool}
use Rattle.std.proofs.lemmas.Bool.Decides.{nat_tests}
use Rattle.fdp_base.specs.declared.config.DriveConfig.{DriveConfig}
use Rattle.fdp_base.specs.declared.config.Geometry.{Geometry}
use Rattle.fdp_base.specs.Placement.{geometry_of}
use Rattle.fdp_flash.specs.declared.cell.Cell.{Cell}
use Rattle.fdp_records.specs.declared.spare.Stamp.{Stamp}
use Rattle.fdp_records.specs.declared.change.Change.{Change}
use Rattle.fdp_base.specs.declared.entry.Totals.{Totals}
use Rattle.fdp_snapshot.specs.declared.state.State.{State}
use Rattle.fdp_image.specs.Applied.{with_changes}
use Rattle.fdp_image.specs.Areas.{Sealed, area_of, current_area, later_of, sealed_in}
use Rattle.fdp_image.specs.Checkpoint.{reading_of_state}
use Rattle.fdp_image.specs.Fits.{all_fit, fits}
use Rattle.fdp_image.specs.Reading.{Reading}
use Rattle.fdp_image.specs.Reads.{changes_in, is_checkpoint_of, is_sound_checkpoint, reads_as, said_by_area, said_by_current}
use Rattle.fdp_image.specs.Replacing.{IsCheckpointOf, IsSameBeside, IsSavedBy}
use Rattle.fdp_image.proofs.Fitting.{said_by-made, said_by-parts}
use Rattle.fdp_image.proofs.NextRecord.{current_sealed, read_by}
use Rattle.fdp_image.proofs.Replacing.{first_same, says_state, second_same}
use Rattle.fdp_image.proofs.Unsealed.{unsealed}
use Rattle.fdp_image.proofs.Wiping.{wiped_area}
use Rattle.fdp_checkpoint.specs.Slices.{IsSliced}
use Rattle.fdp_checkpoint.specs.Writing.{IsErasing, IsSealing}
use Rattle.fdp_checkpoint.proofs.OfImage.{reads_found}

numbered : ℕ → Option Sealed → Option (ℕ × Sealed)
numbered area o = option_map (λ (x : Sealed). (area, x)) o

-- what becomes of an area that is not current: it is not sealed, or sealed with the version and epoch that it had
abbrev IsLess : Option Sealed → Option Sealed → Type 0
IsLess b d = (d ≡ None) ⊎ ((x : Sealed) × (y : Sealed) × (b ≡ Some x) × (d ≡ Some y) × (y.stamp ≡ x.stamp))

abbrev one_of : Bool → Sealed → Sealed → Option (ℕ × Sealed)
one_of later x y = if later then Some (1, y) else Some (0, x)

abbrev number_in : Option (ℕ × Sealed) → ℕ
number_in o = option_map_or (λ (p : ℕ × Sealed). p.0) o 2

abbrev content_in : Option (ℕ × Sealed) → Option Sealed
content_in o = option_map (λ (p : ℕ × Sealed). p.1) o

abbrev at_number : ℕ → Sealed → Option (ℕ × Sealed)
at_number n x = Some (n, x)

not_zero : (y s : Sealed) → at_number 1 y ≡ at_number 0 s → ⊥
not_zero y s e = let bad : 1 ≡ 0 = ap number_in e in absurd (omega (arith, bad))

not_one : (x s : Sealed) → at_number 0 x ≡ at_number 1 s → ⊥
not_one x s e = let bad : 0 ≡ 1 = ap number_in e in absurd (omega (arith, bad))

-- of two areas the first is current where the second has no higher epoch
earlier_test : (x y s : Sealed) → one_of (nat_lt x.stamp.epoch y.stamp.epoch) x y ≡ Some (0, s) → nat_lt x.stamp.epoch y.stamp.epoch ≡ false
earlier_test x y s e = ⊎_elim later earlier (cases_Bool (nat_lt x.stamp.epoch y.stamp.epoch)) where
  later : nat_lt x.stamp.epoch y.stamp.epoch ≡ true → nat_lt x.stamp.epoch y.stamp.epoch ≡ false
  later t = absurd (not_zero y s (sym (ap (λ (b : Bool). one_of b x y) t) ∙ e))

  earlier : nat_lt x.stamp.epoch y.stamp.epoch ≡ false → nat_lt x.stamp.epoch y.stamp.epoch ≡ false
  earlier t = t

later_test : (x y s : Sealed) → one_of (nat_lt x.stamp.epoch y.stamp.epoch) x y ≡ Some (1, s) → nat_lt x.stamp.epoch y.stamp.epoch ≡ true
later_test x y s e = ⊎_elim later earlier (cases_Bool (nat_lt x.stamp.epoch y.stamp.epoch)) where
  later : nat_lt x.stamp.epoch y.stamp.epoch ≡ true → nat_lt x.stamp.epoch y.stamp.epoch ≡ true
  later t = t

  earlier : nat_lt x.stamp.epoch y.stamp.epoch ≡ false → nat_lt x.stamp.epoch y.stamp.epoch ≡ true
  earlier t = absurd (not_one x s (sym (ap (λ (b : Bool). one_of b x y) t) ∙ e))

same_epoch : (x y : Sealed) → y.stamp ≡ x.stamp → y.stamp.epoch ≡ x.stamp.epoch
same_epoch x y e = ap (λ (t : Stamp). t.epoch) e

first_stays : (a b d : Option Sealed) (s : Sealed) → later_of (numbered 0 a) (numbered 1 b) ≡ Some (0, s) → IsLess b d → later_of (numbered 0 a) (numbered 1 d) ≡ Some (0, s)
unfolding numbered
first_stays None None d s e less = absurd cc
first_stays None (Some y) d s e less = absurd (not_zero y s e)
first_stays (Some x) None d s e (inl none) = ap (λ (o : Option Sealed). later_of (numbered 0 (Some x)) (numbered 1 o)) none ∙ e
first_stays (Some x) None d s e (inr same) = let bad : None ≡ Some same.0 = same.2 in absurd cc
first_stays (Some x) (Some y) d s e (inl none) =
    let test = earlier_test x y s e in
    let here : Some (0, x) ≡ Some (0, s) = sym (ap (λ (b : Bool). one_of b x y) test) ∙ e in
    ap (λ (o : Option Sealed). later_of (numbered 0 (Some x)) (numbered 1 o)) none ∙ here
first_stays (Some x) (Some y) d s e (inr same) =
    let test = earlier_test x y s e in
    let here : Some (0, x) ≡ Some (0, s) = sym (ap (λ (b : Bool). one_of b x y) test) ∙ e in
    let was : y ≡ same.0 = let both : Some y ≡ Some same.0 = same.2 in cc in
    let epoch : same.1.stamp.epoch ≡ y.stamp.epoch = same_epoch same.0 same.1 same.4 ∙ ap (λ (z : Sealed). z.stamp.epoch) (sym was) in
    let now : nat_lt x.stamp.epoch same.1.stamp.epoch ≡ false = ap (nat_lt x.stamp.epoch) epoch ∙ test in
    ap (λ (o : Option Sealed). later_of (numbered 0 (Some x)) (numbered 1 o)) same.3 ∙ ap (λ (b : Bool). one_of b x same.1) now ∙ here

second_stays : (a b d : Option Sealed) (s : Sealed) → later_of (numbered 0 a) (numbered 1 b) ≡ Some (1, s) → IsLess a d → later_of (numbered 0 d) (numbered 1 b) ≡ Some (1, s)
unfolding numbered
second_stays None None d s e less = absurd cc
second_stays (Some x) None d s e less = absurd (not_one x s e)
second_stays None (Some y) d s e (inl none) = ap (λ (o : Option Sealed). later_of (numbered 0 o) (numbered 1 (Some y))) none ∙ e
second_stays None (Some y) d s e (inr same) = let bad : None ≡ Some same.0 = same.2 in absurd cc
second_stays (Some x) (Some y) d s e (inl none) =
    let test = later_test x y s e in
    let here : Some (1, y) ≡ Some (1, s) = sym (ap (λ (b : Bool). one_of b x y) test) ∙ e in
    ap (λ (o : Option Sealed). later_of (numbered 0 o) (numbered 1 (Some y))) none ∙ here
second_stays (Some x) (Some y) d s e (inr same) =
    let test = later_test x y s e in
    let here : Some (1, y) ≡ Some (1, s) = sym (ap (λ (b : Bool). one_of b x y) test) ∙ e in
    let was : x ≡ same.0 = let both : Some x ≡ Some same.0 = same.2 in cc in
    let epoch : same.1.stamp.epoch ≡ x.stamp.epoch = same_epoch same.0 same.1 same.4 ∙ ap (λ (z : Sealed). z.stamp.epoch) (sym was) in
    let now : nat_lt same.1.stamp.epoch y.stamp.epoch ≡ true = ap (λ (n : ℕ). nat_lt n y.stamp.epoch) epoch ∙ test in
    ap (λ (o : Option Sealed). later_of (numbered 0 o) (numbered 1 (Some y))) same.3 ∙ ap (λ (b : Bool). one_of b same.1 y) now ∙ here

-- what a slice leaves is not sealed, or as it was but for the end of its journal
pub sliced_erasing : (g : Geometry) (area : ℕ) (old new : List Cell) → IsSliced g area old new → IsErasing g area old new
sliced_erasing g area old new p = record {
  beside = p.beside;
  left = elim p.left [
    | inl wiped ↦ wiped_area (area_of g area old) (area_of g area new) wiped
    | inr none ↦ inl (unsealed (area_of g area new) none)
  ];
}

erasing_less : (g : Geometry) (area : ℕ) (old new : List Cell) → IsErasing g area old new → IsLess (sealed_in (area_of g area old)) (sealed_in (area_of g area new))
erasing_less g area old new p = elim p.left [
  | inl none ↦ inl none
  | inr short ↦ inr (short.before, short.after, short.sealed_before, short.sealed_after, short.stamp)
]

-- the number of the current area is 0 or 1
number_is : (a b : Option Sealed) (n : ℕ) (s : Sealed) → later_of (numbered 0 a) (numbered 1 b) ≡ Some (n, s) → (n ≡ 0) ⊎ (n ≡ 1)
unfolding numbered
number_is None None n s e = absurd cc
number_is (Some x) None n s e = inl (sym (ap number_in e))
number_is None (Some y) n s e = inr (sym (ap number_in e))
number_is (Some x) (Some y) n s e = ⊎_elim later earlier (cases_Bool (nat_lt x.stamp.epoch y.stamp.epoch)) where
  later : nat_lt x.stamp.epoch y.stamp.epoch ≡ true → (n ≡ 0) ⊎ (n ≡ 1)
  later t =
      let is : Some (1, y) ≡ Some (n, s) = sym (ap (λ (b : Bool). one_of b x y) t) ∙ e in
      inr (sym (ap number_in is))

  earlier : nat_lt x.stamp.epoch y.stamp.epoch ≡ false → (n ≡ 0) ⊎ (n ≡ 1)
  earlier t =
      let is : Some (0, x) ≡ Some (n, s) = sym (ap (λ (b : Bool). one_of b x y) t) ∙ e in
      inl (sym (ap number_in is))

current_first : (g : Geometry) (old new : List Cell) (s : Sealed) → current_area g old ≡ Some (0, s) → IsSameBeside g 1 old new → IsLess (sealed_in (area_of g 1 old)) (sealed_in (area_of g 1 new)) → current_area g new ≡ Some (0, s)
unfolding current_area numbered
current_first g old new s current beside less =
    let a = sealed_in (area_of g 0 old) in
    let kept : sealed_in (area_of g 0 new) ≡ a = ap sealed_in (first_same g old new beside) in
    ap (λ (o : Option Sealed). later_of (numbered 0 o) (numbered 1 (sealed_in (area_of g 1 new)))) kept
    ∙ first_stays a (sealed_in (area_of g 1 old)) (sealed_in (area_of g 1 new)) s current less

current_second : (g : Geometry) (old new : List Cell) (s : Sealed) → current_area g old ≡ Some (1, s) → IsSameBeside g 0 old new → IsLess (sealed_in (area_of g 0 old)) (sealed_in (area_of g 0 new)) → current_area g new ≡ Some (1, s)
unfolding current_area numbered
current_second g old new s current beside less =
    let b = sealed_in (area_of g 1 old) in
    let kept : sealed_in (area_of g 1 new) ≡ b = ap sealed_in (second_same g old new beside) in
    ap (λ (o : Option Sealed). later_of (numbered 0 (sealed_in (area_of g 0 new))) (numbered 1 o)) kept
    ∙ second_stays (sealed_in (area_of g 0 old)) b (sealed_in (area_of g 0 new)) s current less

-- the current area is one of the two
pub current_number : (g : Geometry) (cells : List Cell) (n : ℕ) (s : Sealed) → current_area g cells ≡ Some (n, s) → (n ≡ 0) ⊎ (n ≡ 1)
unfolding current_area numbered
current_number g cells n s current = number_is (sealed_in (area_of g 0 cells)) (sealed_in (area_of g 1 cells)) n s current

-- an area that is not current, and is not sealed or sealed with the version and epoch that it had, leaves the current one current
less_keeps : (g : Geometry) (area : ℕ) (old new : List Cell) (number : ℕ) (s : Sealed) → area ≤ 1 → current_area g old ≡ Some (number, s) → number ≢ area → IsSameBeside g area old new
    → IsLess (sealed_in (area_of g area old)) (sealed_in (area_of g area new)) → current_area g new ≡ Some (number, s)
less_keeps g area old new number s two current apart beside less = elim (current_number g old number s current) [
  | inl zero_is ↦ (
      let one : area ≡ 1 = omega (arith, two, apart, zero_is) in
      let at : current_area g old ≡ Some (0, s) = current ∙ ap (λ (n : ℕ). Some (n, s)) zero_is in
      let around : IsSameBeside g 1 old new = subst (λ (n : ℕ). IsSameBeside g n old new) one beside in
      let left : IsLess (sealed_in (area_of g 1 old)) (sealed_in (area_of g 1 new)) = subst (λ (n : ℕ). IsLess (sealed_in (area_of g n old)) (sealed_in (area_of g n new))) one less in
      current_first g old new s at around left ∙ ap (λ (n : ℕ). Some (n, s)) (sym zero_is)
      )
  | inr one_is ↦ (
      let none : area ≡ 0 = omega (arith, two, apart, one_is) in
      let at : current_area g old ≡ Some (1, s) = current ∙ ap (λ (n : ℕ). Some (n, s)) one_is in
      let around : IsSameBeside g 0 old new = subst (λ (n : ℕ). IsSameBeside g n old new) none beside in
      let left : IsLess (sealed_in (area_of g 0 old)) (sealed_in (area_of g 0 new)) = subst (λ (n : ℕ). IsLess (sealed_in (area_of g n old)) (sealed_in (area_of g n new))) none less in
      current_second g old new s at around left ∙ ap (λ (n : ℕ). Some (n, s)) (sym one_is)
      )
]

-- whatever a stop in a slice leaves of an area that is not current, the current one stays current
pub slice_keeps : (g : Geometry) (area : ℕ) (old new : List Cell) (number : ℕ) (s : Sealed) → area ≤ 1 → current_area g old ≡ Some (number, s) → number ≢ area → IsSliced g area old new → current_area g new ≡ Some (number, s)
slice_keeps g area old new number s two current apart p =
    less_keeps g area old new number s two current apart p.beside (erasing_less g area old new (sliced_erasing g area old new p))

same_reads : (c : DriveConfig) (old new : List Cell) (number : ℕ) (s : Sealed) → current_area (geometry_of c) old ≡ Some (number, s) → current_area (geometry_of c) new ≡ Some (number, s) → reads_as c new ≡ reads_as c old
unfolding reads_as said_by_current
same_reads c old new number s before after = ap (said_by_current c new) after ∙ sym (ap (said_by_current c old) before)

-- so an image reads as before
pub slice_reads : (c : DriveConfig) (area : ℕ) (old new : List Cell) (number : ℕ) (s : Sealed) → area ≤ 1 → current_area (geometry_of c) old ≡ Some (number, s) → number ≢ area → IsSliced (geometry_of c) area old new
    → reads_as c new ≡ reads_as c old
slice_reads c area old new number s two current apart p = same_reads c old new number s current (slice_keeps (geometry_of c) area old new number s two current apart p)

-- ---- a new area with a higher epoch

greater : (a b : ℕ) → a < b → nat_lt a b ≡ true
greater a b h = grind (arith, nat_tests)

not_greater : (a b : ℕ) → b < a → nat_lt a b ≡ false
not_greater a b h = grind (arith, nat_tests)

second_new : (s z : Sealed) → s.stamp.epoch < z.stamp.epoch → later_of (numbered 0 (Some s)) (numbered 1 (Some z)) ≡ Some (1, z)
unfolding numbered
second_new s z lt = ap (λ (b : Bool). one_of b s z) (greater s.stamp.epoch z.stamp.epoch lt)

first_new : (s z : Sealed) → s.stamp.epoch < z.stamp.epoch → later_of (numbered 0 (Some z)) (numbered 1 (Some s)) ≡ Some (0, z)
unfolding numbered
first_new s z lt = ap (λ (b : Bool). one_of b z s) (not_greater z.stamp.epoch s.stamp.epoch lt)

-- another area, once it is sealed with a higher epoch, is current
new_current : (g : Geometry) (area : ℕ) (old new : List Cell) (number : ℕ) (s z : Sealed) → area ≤ 1 → current_area g old ≡ Some (number, s) → number ≢ area → IsSameBeside g area old new
    → sealed_in (area_of g area new) ≡ Some z → s.stamp.epoch < z.stamp.epoch → current_area g new ≡ Some (area, z)
unfolding current_area numbered
new_current g area old new number s z two current apart beside sealed higher = elim (current_number g old number s current) [
  | inl zero_is ↦ (
      let one : area ≡ 1 = omega (arith, two, apart, zero_is) in
      let around : IsSameBeside g 1 old new = subst (λ (n : ℕ). IsSameBeside g n old new) one beside in
      let there : sealed_in (area_of g 1 new) ≡ Some z = subst (λ (n : ℕ). sealed_in (area_of g n new) ≡ Some z) one sealed in
      let was : sealed_in (area_of g 0 old) ≡ Some s = subst (λ (n : ℕ). sealed_in (area_of g n old) ≡ Some s) zero_is (current_sealed g old number s current) in
      let own : sealed_in (area_of g 0 new) ≡ Some s = ap sealed_in (first_same g old new around) ∙ was in
      (λ i. later_of (numbered 0 (own i)) (numbered 1 (there i))) ∙ second_new s z higher ∙ ap (λ (n : ℕ). Some (n, z)) (sym one)
      )
  | inr one_is ↦ (
      let none : area ≡ 0 = omega (arith, two, apart, one_is) in
      let around : IsSameBeside g 0 old new = subst (λ (n : ℕ). IsSameBeside g n old new) none beside in
      let there : sealed_in (area_of g 0 new) ≡ Some z = subst (λ (n : ℕ). sealed_in (area_of g n new) ≡ Some z) none sealed in
      let was : sealed_in (area_of g 1 old) ≡ Some s = subst (λ (n : ℕ). sealed_in (area_of g n old) ≡ Some s) one_is (current_sealed g old number s current) in
      let own : sealed_in (area_of g 1 new) ≡ Some s = ap sealed_in (second_same g old new around) ∙ was in
      (λ i. later_of (numbered 0 (there i)) (numbered 1 (own i))) ∙ first_new s z higher ∙ ap (λ (n : ℕ). Some (n, z)) (sym none)
      )
]

-- an area says the state of its checkpoint with the changes of its journal
kept_says : (c : DriveConfig) (z : Sealed) (s : State) (xs : List (Change × Totals)) → IsCheckpointOf z.stamp.version c.block (concat z.checkpoint) s → IsSavedBy c s → changes_in z.journal ≡ Some xs
    → IsTrue (all_fit fits c (reading_of_state s) xs) → said_by_area c z ≡ Some (with_changes c (reading_of_state s) xs)
unfolding is_sound_checkpoint is_checkpoint_of
kept_says c z s xs content saved told fit =
    let plain : Sealed = record z { journal = [] } in
    let sound : is_sound_checkpoint c plain ≡ true = (said_by-parts c plain (reading_of_state s) (says_state c plain s content refl saved)).sound in
    let said = reads_found c.block z s content in
    said_by-made c z (with_changes c (reading_of_state s) xs) (record {
      sound = sound;
      changes = xs;
      told = told;
      after = record { fit = subst (λ (r : Reading). IsTrue (all_fit fits c r xs)) (sym said) fit; said = ap (λ (r : Reading). with_changes c r xs) said };
    })

-- what a seal may leave reads as before, or as its state with the changes of the kept pages
pub sealing_reads : (c : DriveConfig) (area epoch : ℕ) (s : State) (kept : List (List ℕ)) (xs : List (Change × Totals)) (old new : List Cell) (number : ℕ) (own : Sealed) → area ≤ 1 → current_area (geometry_of c) old ≡ Some (number, own)
    → number ≢ area → own.stamp.epoch < epoch → IsSavedBy c s → changes_in kept ≡ Some xs → IsTrue (all_fit fits c (reading_of_state s) xs) → IsSealing (geometry_of c) area epoch s kept old new
    → (reads_as c new ≡ reads_as c old) ⊎ (reads_as c new ≡ Some (with_changes c (reading_of_state s) xs))
sealing_reads c area epoch s kept xs old new number own two current apart below saved told fit p = elim p.left [
  | inl none ↦ inl (same_reads c old new number own current (less_keeps (geometry_of c) area old new number own two current apart p.beside (inl none)))
  | inr anew ↦ (
      let z = anew.area in
      let higher : own.stamp.epoch < z.stamp.epoch = omega (arith, below, ap (λ (t : Stamp). t.epoch) anew.stamp) in
      let at = new_current (geometry_of c) area old new number own z two current apart p.beside anew.sealed higher in
      let content : IsCheckpointOf z.stamp.version c.block (concat z.checkpoint) s = subst (λ (v : ℕ). IsCheckpointOf v c.block (concat z.checkpoint) s) (sym (ap (λ (t : Stamp). t.version) anew.stamp)) anew.content in
      inr (read_by c new area z at ∙ kept_says c z s xs content saved (ap changes_in anew.journal ∙ told) fit)
      )
]
