-- What it means that no key differs, and which values an area names.
use Rattle.std.proofs.Common.{◌≡◌, ◌⊎◌, ℕ, ◌+◌, ◌/◌, ◌≤◌, Bool, true, false, List, [], ◌∷◌, length, Some, None, refl, ap, ◌∙◌, arith, inl, inr, lit≤}
use Rattle.std.specs.Prelude.{◌&&◌, ◌==◌, if◌then◌else◌, nat_lt, zip}
use Rattle.std.specs.List.{concat, list_all}
use Rattle.std.proofs.lemmas.Bool.Decides.{nat_tests}
use Rattle.fdp_base.specs.declared.config.DriveConfig.{DriveConfig}
use Rattle.fdp_base.specs.declared.config.Geometry.{Geometry}
use Rattle.fdp_base.specs.Placement.{geometry_of}
use Rattle.fdp_config.specs.declared.key.Key.{Key}
use Rattle.fdp_checkpoint.specs.Pages.{IsBadIn, IsOverlong}
use Rattle.fdp_checkpoint.proofs.OfImage.{bad_is_none, keys_told, less_false, less_true, not_true}
use Rattle.fdp_image.specs.Areas.{Sealed}
use Rattle.fdp_image.specs.CheckpointFields.{same_keys}
use Rattle.fdp_image.specs.Replacing.{IsCheckpointOf}
use Rattle.fdp_snapshot.specs.declared.keys.Keys.{Keys}
use Rattle.fdp_snapshot.specs.declared.state.State.{State}
use Rattle.fdp_snapshot.specs.Checkpoint.{IsBadAt, checkpoint_size, is_checkpoint}
use Rattle.fdp_snapshot.specs.Reading.{keys_in, summary_in}
use Rattle.fdp_recovery.specs.Keys.{both, compared_keys, fills_pages, first_other, keys_of_area, other_key, same_cut}

pub and_true : (a b : Bool) → (a && b) ≡ true → (a ≡ true) × (b ≡ true)
and_true true b e = (refl, e)
and_true false b e = absurd cc

equal_of : (m n : ℕ) → (m == n) ≡ true → m ≡ n
equal_of m n e = grind (arith, nat_tests)

abbrev all : List Bool → Bool
all xs = list_all (λ (same : Bool). same) xs

-- where no key differs, each is the same
no_other : (keys : List Key) (sames : List Bool) → length sames ≤ length keys → first_other (zip keys sames) ≡ None → all sames ≡ true
no_other keys [] few none = refl
no_other [] (b ∷ bs) few none = absurd (omega arith)
no_other (k ∷ ks) (true ∷ bs) few none = no_other ks bs (omega arith) none
no_other (k ∷ ks) (false ∷ bs) few none = absurd cc

each_of : (xs ys : List Bool) → length xs ≡ length ys → all (both xs ys) ≡ true → (all xs ≡ true) × (all ys ≡ true)
each_of [] [] long e = (refl, refl)
each_of [] (y ∷ ys) long e = absurd (omega arith)
each_of (x ∷ xs) [] long e = absurd (omega arith)
each_of (true ∷ xs) (true ∷ ys) long e = each_of xs ys (omega arith) e
each_of (true ∷ xs) (false ∷ ys) long e = absurd cc
each_of (false ∷ xs) (y ∷ ys) long e = absurd cc

cut_is : (c : DriveConfig) (g : Geometry) → all (same_cut c g) ≡ true → g ≡ geometry_of c
cut_is c g e =
    let a = and_true (g.block == c.block) _ e in
    let b = and_true (g.unit_pages == c.unit_pages) _ a.1 in
    let d = and_true (g.groups == c.groups) _ b.1 in
    let f = and_true (g.units == c.units) _ d.1 in
    let h = and_true (g.area_units == c.area_units) _ f.1 in
    let block = equal_of g.block c.block a.0 in
    let unit_pages = equal_of g.unit_pages c.unit_pages b.0 in
    let groups = equal_of g.groups c.groups d.0 in
    let units = equal_of g.units c.units f.0 in
    let area_units = equal_of g.area_units c.area_units h.0 in
    λ i. record { block = block i; unit_pages = unit_pages i; groups = groups i; units = units i; area_units = area_units i }

pub same_flash : (c : DriveConfig) (g : Geometry) → other_key c g None ≡ None → g ≡ geometry_of c
same_flash c g none = cut_is c g (no_other compared_keys (same_cut c g) (lit≤ tt) none)

-- no key differs from the flash and the checkpoint
pub record AreSame (c : DriveConfig) (g : Geometry) (k : Keys) : Type 0 where
  pub cut : g ≡ geometry_of c
  pub keys : all (same_keys c k) ≡ true

pub same_both : (c : DriveConfig) (g : Geometry) (k : Keys) → other_key c g (Some k) ≡ None → AreSame c g k
unfolding same_keys
same_both c g k none =
    let e = each_of (same_cut c g) (same_keys c k) refl (no_other compared_keys (both (same_cut c g) (same_keys c k)) (lit≤ tt) none) in
    record { cut = cut_is c g e.0; keys = e.1 }

-- ---- the values that an area names

both_true : (a b : Bool) → a ≡ true → b ≡ true → (a && b) ≡ true
both_true a b e h = rw (e, h) refl

pub keys_held : (block : ℕ) (z : Sealed) (s : State) → IsCheckpointOf z.stamp.version block (concat z.checkpoint) s → keys_of_area block z ≡ Some s.summary.keys
unfolding keys_of_area
keys_held block z s h =
    let bytes = concat z.checkpoint in
    let fills : fills_pages z.stamp.version block bytes ≡ true =
    both_true (is_checkpoint z.stamp.version bytes) (nat_lt (length bytes) (checkpoint_size (summary_in bytes) + block)) h.whole (less_true (length bytes) (checkpoint_size (summary_in bytes) + block) h.filled) in
    ap (λ (b : Bool). if b then Some (keys_in bytes) else None) fills ∙ ap Some (keys_told s bytes h.state)

first_false : (a b : Bool) → a ≡ false → (a && b) ≡ false
first_false a b e = rw e refl

last_false : (a b : Bool) → b ≡ false → (a && b) ≡ false
last_false true b e = e
last_false false b e = refl

pub none_held : (g : Geometry) (area : ℕ) (z : Sealed) (page : ℕ) → IsBadIn g area z.stamp.version (concat z.checkpoint) page → keys_of_area g.block z ≡ None
unfolding keys_of_area
none_held g area z page h = ap (λ (b : Bool). if b then Some (keys_in bytes) else None) (of_shown h.bad.shown) where
  bytes : List ℕ
  bytes = concat z.checkpoint

  of_shown : ((at : ℕ) × (h.number ≡ at / g.block) × IsBadAt z.stamp.version bytes at) ⊎ IsOverlong z.stamp.version g.block bytes h.number → fills_pages z.stamp.version g.block bytes ≡ false
  of_shown (inl bad) =
      first_false (is_checkpoint z.stamp.version bytes) (nat_lt (length bytes) (checkpoint_size (summary_in bytes) + g.block))
      (not_true (is_checkpoint z.stamp.version bytes) (bad_is_none z.stamp.version bytes bad.0 bad.2))
  of_shown (inr long) =
      last_false (is_checkpoint z.stamp.version bytes) (nat_lt (length bytes) (checkpoint_size (summary_in bytes) + g.block)) (less_false (length bytes) (checkpoint_size (summary_in bytes) + g.block) long.long)
