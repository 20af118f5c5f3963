-- What is read of an area, in the words of an image.
use Rattle.std.proofs.Common.{◌≡◌, ◌⊎◌, ℕ, ◌+◌, ◌/◌, ◌<◌, ◌≤◌, Bool, true, false, IsTrue, List, length, refl, sym, ap, ◌∙◌, arith, inl, inr}
use Rattle.std.specs.Prelude.{◌&&◌, nat_lt}
use Rattle.std.specs.List.{concat, list_all}
use Rattle.std.proofs.lemmas.Bool.Decides.{nat_tests}
use Rattle.fdp_base.specs.declared.config.DriveConfig.{DriveConfig}
use Rattle.fdp_base.specs.Placement.{geometry_of}
use Rattle.fdp_snapshot.specs.declared.keys.Keys.{Keys}
use Rattle.fdp_snapshot.specs.declared.state.State.{State}
use Rattle.fdp_snapshot.specs.Checkpoint.{IsBadAt, checkpoint_size, is_checkpoint}
use Rattle.fdp_snapshot.specs.Reading.{keys_in, state_in, summary_in}
use Rattle.fdp_snapshot.proofs.Judging.{cut_is_none, differing_is_none, filled_is_none, short_is_none}
use Rattle.fdp_image.specs.Areas.{Sealed}
use Rattle.fdp_image.specs.Checkpoint.{reading_of_state, said_by_checkpoint}
use Rattle.fdp_image.specs.CheckpointFields.{same_keys}
use Rattle.fdp_image.specs.Reads.{is_checkpoint_of}
use Rattle.fdp_image.specs.Replacing.{IsCheckpointOf}
use Rattle.fdp_checkpoint.specs.Pages.{IsBadIn, IsOverlong}

pub less_true : (a b : ℕ) → a < b → nat_lt a b ≡ true
less_true a b h = grind (arith, nat_tests)

pub less_false : (a b : ℕ) → b ≤ a → nat_lt a b ≡ false
less_false a b h = grind (arith, nat_tests)

pub not_true : (b : Bool) → (b ≡ true → ⊥) → b ≡ false
not_true true h = absurd (h refl)
not_true false h = refl

pub keys_told : (s : State) (bytes : List ℕ) → s ≡ state_in bytes → keys_in bytes ≡ s.summary.keys
unfolding state_in summary_in
keys_told s bytes told = sym (ap (λ (x : State). x.summary.keys) told)

middle : (a b d : Bool) → a ≡ true → d ≡ true → (a && b && d) ≡ b
middle a b d x z = rw (x, z) (last b) where
  last : (t : Bool) → (true && t && true) ≡ t
  last true = refl
  last false = refl

pub sizes_found : (c : DriveConfig) (z : Sealed) (s : State) → IsCheckpointOf z.stamp.version c.block (concat z.checkpoint) s → is_checkpoint_of c z ≡ list_all (λ same. same) (same_keys c s.summary.keys)
unfolding is_checkpoint_of
sizes_found c z s h =
    let bytes = concat z.checkpoint in
    let filled : nat_lt (length bytes) (checkpoint_size (summary_in bytes) + c.block) ≡ true = less_true (length bytes) (checkpoint_size (summary_in bytes) + c.block) h.filled in
    middle (is_checkpoint z.stamp.version bytes) (list_all (λ (b : Bool). b) (same_keys c (keys_in bytes))) (nat_lt (length bytes) (checkpoint_size (summary_in bytes) + c.block)) h.whole filled
    ∙ ap (λ (k : Keys). list_all (λ (b : Bool). b) (same_keys c k)) (keys_told s bytes h.state)

pub reads_found : (block : ℕ) (z : Sealed) (s : State) → IsCheckpointOf z.stamp.version block (concat z.checkpoint) s → said_by_checkpoint (concat z.checkpoint) ≡ reading_of_state s
unfolding said_by_checkpoint
reads_found block z s h = ap reading_of_state (sym h.state)

pub bad_is_none : (version : ℕ) (bytes : List ℕ) (at : ℕ) → IsBadAt version bytes at → IsTrue (is_checkpoint version bytes) → ⊥
bad_is_none version bytes at (inl short) is = short_is_none version bytes short.short is
bad_is_none version bytes at (inr (inl differs)) is = differing_is_none version bytes at differs is
bad_is_none version bytes at (inr (inr (inl cut))) is = cut_is_none version bytes cut.short is
bad_is_none version bytes at (inr (inr (inr filled))) is = filled_is_none version bytes at filled.behind filled.within filled.here is

first_false : (a b d : Bool) → a ≡ false → (a && b && d) ≡ false
first_false a b d e = rw e refl

last_false : (a b d : Bool) → d ≡ false → (a && b && d) ≡ false
last_false true true d e = e
last_false true false d e = refl
last_false false b d e = refl

pub none_found : (c : DriveConfig) (area : ℕ) (z : Sealed) (page : ℕ) → IsBadIn (geometry_of c) area z.stamp.version (concat z.checkpoint) page → is_checkpoint_of c z ≡ false
unfolding is_checkpoint_of
none_found c area z page h = of_shown h.bad.shown where
  bytes : List ℕ
  bytes = concat z.checkpoint

  of_shown : ((at : ℕ) × (h.number ≡ at / c.block) × IsBadAt z.stamp.version bytes at) ⊎ IsOverlong z.stamp.version c.block bytes h.number → is_checkpoint_of c z ≡ false
  of_shown (inl bad) =
      first_false (is_checkpoint z.stamp.version bytes) (list_all (λ (b : Bool). b) (same_keys c (keys_in bytes))) (nat_lt (length bytes) (checkpoint_size (summary_in bytes) + c.block))
      (not_true (is_checkpoint z.stamp.version bytes) (bad_is_none z.stamp.version bytes bad.0 bad.2))
  of_shown (inr long) =
      last_false (is_checkpoint z.stamp.version bytes) (list_all (λ (b : Bool). b) (same_keys c (keys_in bytes))) (nat_lt (length bytes) (checkpoint_size (summary_in bytes) + c.block))
      (less_false (length bytes) (checkpoint_size (summary_in bytes) + c.block) long.long)
