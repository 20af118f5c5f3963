-- When bytes are a checkpoint, and what shows that they are none.
use Rattle.std.proofs.Common.{◌≡◌, ◌≢◌, ℕ, ◌+◌, ◌-◌, ◌*◌, ◌<◌, ◌≤◌, Bool, true, false, IsTrue, List, length, take, drop, refl, sym, ap, subst, ◌∙◌, arith}
use Rattle.std.specs.Prelude.{◌&&◌, nat_le, bytes_eq, slice_index, Option, Some, None}
use Rattle.std.proofs.lemmas.Bool.Decides.{nat_tests}
use Rattle.std.proofs.lemmas.List.{ext_get_or, get_or-drop, get_or-replicate, get_or-take, length-drop, length-replicate, length-take-le}
use Rattle.std.proofs.lemmas.Slice.Eq.{bytes_eq-Decides}
use Rattle.fdp_snapshot.specs.declared.space.Space.{Space}
use Rattle.fdp_snapshot.specs.declared.state.Summary.{Summary}
use Rattle.fdp_snapshot.specs.Checkpoint.{DiffersInFixed, checkpoint_size, is_checkpoint}
use Rattle.fdp_snapshot.specs.Fixed.{fixed_of}
use Rattle.fdp_snapshot.specs.Reading.{blocks_in, summary_in}
use Rattle.fdp_snapshot.specs.Rows.{zeros}
use Rattle.fdp_snapshot.specs.Scanning.{IsFirstDifference, IsFirstNumber}
use Rattle.fdp_snapshot.proofs.FixedPart.{fixed_long, masks_are, summary_is}

-- what makes bytes a checkpoint
pub record IsOne (version : ℕ) (bytes : List ℕ) : Type 0 where
  pub room : checkpoint_size (summary_in bytes) ≤ length bytes
  pub fixed : fixed_of version (summary_in bytes) ≡ take 5120 bytes
  pub behind : zeros (length bytes - checkpoint_size (summary_in bytes)) ≡ drop (checkpoint_size (summary_in bytes)) bytes

and_true : (a b : Bool) → (a && b) ≡ true → (a ≡ true) × (b ≡ true)
and_true true b e = (refl, e)
and_true false b e = absurd cc

both_true : (a b : Bool) → a ≡ true → b ≡ true → (a && b) ≡ true
both_true a b e h = rw (e, h) refl

le_true : (a b : ℕ) → a ≤ b → nat_le a b ≡ true
le_true a b h = grind (arith, nat_tests)

le_of : (a b : ℕ) → nat_le a b ≡ true → a ≤ b
le_of a b h = grind (arith, nat_tests)

pub is_one : (version : ℕ) (bytes : List ℕ) → IsTrue (is_checkpoint version bytes) → IsOne version bytes
unfolding is_checkpoint
is_one version bytes is =
    let size = checkpoint_size (summary_in bytes) in
    let room = nat_le size (length bytes) in
    let fixed = bytes_eq (fixed_of version (summary_in bytes)) (take 5120 bytes) in
    let behind = bytes_eq (zeros (length bytes - size)) (drop size bytes) in
    let a = and_true (room && fixed) behind is in
    let b = and_true room fixed a.0 in
    record {
      room = le_of size (length bytes) b.0;
      fixed = (bytes_eq-Decides (fixed_of version (summary_in bytes)) (take 5120 bytes)).0 b.1;
      behind = (bytes_eq-Decides (zeros (length bytes - size)) (drop size bytes)).0 a.1;
    }

pub one_is : (version : ℕ) (bytes : List ℕ) → IsOne version bytes → IsTrue (is_checkpoint version bytes)
unfolding is_checkpoint
one_is version bytes one =
    let size = checkpoint_size (summary_in bytes) in
    let room = nat_le size (length bytes) in
    let fixed = bytes_eq (fixed_of version (summary_in bytes)) (take 5120 bytes) in
    let behind = bytes_eq (zeros (length bytes - size)) (drop size bytes) in
    both_true (room && fixed) behind
    (both_true room fixed (le_true size (length bytes) one.room) ((bytes_eq-Decides (fixed_of version (summary_in bytes)) (take 5120 bytes)).1 one.fixed))
    ((bytes_eq-Decides (zeros (length bytes - size)) (drop size bytes)).1 one.behind)

size_least : (s : Summary) → 5120 ≤ checkpoint_size s
unfolding checkpoint_size
size_least s = omega arith

pub short_is_none : (version : ℕ) (bytes : List ℕ) → length bytes < 5120 → IsTrue (is_checkpoint version bytes) → ⊥
short_is_none version bytes short is = let one = is_one version bytes is in omega (arith, one.room, size_least (summary_in bytes), short)

pub differing_is_none : (version : ℕ) (bytes : List ℕ) (at : ℕ) → DiffersInFixed version bytes at → IsTrue (is_checkpoint version bytes) → ⊥
differing_is_none version bytes at d is =
    let one = is_one version bytes is in
    d.here (sym (get_or-take 5120 bytes at 0 d.within) ∙ ap (λ (xs : List ℕ). slice_index xs at) (sym one.fixed))

pub cut_is_none : (version : ℕ) (bytes : List ℕ) → length bytes < checkpoint_size (summary_in bytes) → IsTrue (is_checkpoint version bytes) → ⊥
cut_is_none version bytes short is = let one = is_one version bytes is in omega (arith, one.room, short)

pub filled_is_none : (version : ℕ) (bytes : List ℕ) (at : ℕ) → checkpoint_size (summary_in bytes) ≤ at → at < length bytes → slice_index bytes at ≢ 0 → IsTrue (is_checkpoint version bytes) → ⊥
filled_is_none version bytes at behind within here is =
    let one = is_one version bytes is in
    let size = checkpoint_size (summary_in bytes) in
    let place : size + (at - size) ≡ at = omega (arith, behind) in
    here (ap (λ (k : ℕ). slice_index bytes k) (sym place) ∙ sym (get_or-drop size bytes (at - size) 0) ∙ ap (λ (xs : List ℕ). slice_index xs (at - size)) (sym one.behind)
    ∙ get_or-replicate (length bytes - size) (at - size) 0 0 (omega (arith, behind, within)))

-- ---- from what was compared

pub differs : (version : ℕ) (bytes : List ℕ) (s : Summary) (at : ℕ) → s ≡ summary_in bytes → 5120 ≤ length bytes → IsFirstDifference bytes (fixed_of version s) (Some at) → DiffersInFixed version bytes at
differs version bytes s at is long d =
    let e = subst (λ (x : Summary). IsFirstDifference bytes (fixed_of version x) (Some at)) is d in
    record {
      long = long;
      within = omega (arith, e.0, fixed_long version (summary_in bytes) (summary_is bytes) (masks_are bytes long));
      before = e.1;
      here = e.2;
    }

pub same_fixed : (version : ℕ) (bytes : List ℕ) (s : Summary) → s ≡ summary_in bytes → 5120 ≤ length bytes → IsFirstDifference bytes (fixed_of version s) None → take 5120 bytes ≡ fixed_of version (summary_in bytes)
same_fixed version bytes s is long d =
    let e = subst (λ (x : Summary). IsFirstDifference bytes (fixed_of version x) None) is d in
    let size = fixed_long version (summary_in bytes) (summary_is bytes) (masks_are bytes long) in
    let taken = length-take-le 5120 bytes long in
    ext_get_or 0 (take 5120 bytes) (fixed_of version (summary_in bytes)) (taken ∙ sym size)
    (λ i lt. get_or-take 5120 bytes i 0 (omega (arith, lt, taken)) ∙ e i (omega (arith, lt, taken, size)))

pub nothing_behind : (bytes : List ℕ) (from : ℕ) → IsFirstNumber bytes from None → zeros (length bytes - from) ≡ drop from bytes
nothing_behind bytes from none =
    let size = length-replicate (length bytes - from) 0 in
    ext_get_or 0 (zeros (length bytes - from)) (drop from bytes) (size ∙ sym (length-drop from bytes))
    (λ i lt. get_or-replicate (length bytes - from) i 0 0 (omega (arith, lt, size)) ∙ sym (get_or-drop from bytes i 0 ∙ none (from + i) (omega arith) (omega (arith, lt, size))))

pub end_is : (bytes : List ℕ) (s : Summary) (spaces : List (Option Space)) → spaces ≡ s.spaces → s ≡ summary_in bytes → 5120 + 4 * blocks_in spaces ≡ checkpoint_size (summary_in bytes)
unfolding checkpoint_size
end_is bytes s spaces are is = ap (λ (xs : List (Option Space)). 5120 + 4 * blocks_in xs) (are ∙ ap (λ (x : Summary). x.spaces) is)

pub found_one : (version : ℕ) (bytes : List ℕ) (end : ℕ) → take 5120 bytes ≡ fixed_of version (summary_in bytes) → end ≡ checkpoint_size (summary_in bytes) → end ≤ length bytes → IsFirstNumber bytes end None → IsOne version bytes
found_one version bytes end fixed is room none =
    record {
      room = omega (arith, is, room);
      fixed = sym fixed;
      behind = ap (λ (k : ℕ). zeros (length bytes - k)) (sym is) ∙ nothing_behind bytes end none ∙ ap (λ (k : ℕ). drop k bytes) is;
    }
