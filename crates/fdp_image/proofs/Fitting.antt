-- Changes that fit one after another, and what an area says that is sound.
use Rattle.std.proofs.Common.{◌≡◌, ℕ, Bool, true, false, List, [], ◌∷◌, ◌++◌, Option, Some, None, refl, ap, ◌∙◌}
use Rattle.std.specs.Prelude.{◌&&◌, IsTrue, if◌then◌else◌, is_some, not}
use Rattle.std.specs.List.{concat}
use Rattle.std.specs.Option.{option_and_then}
use Rattle.fdp_base.specs.declared.config.DriveConfig.{DriveConfig}
use Rattle.fdp_base.specs.declared.entry.Totals.{Totals}
use Rattle.fdp_records.specs.declared.change.Change.{Change}
use Rattle.fdp_records.specs.declared.change.Change.TheVariants as changes
use Rattle.fdp_snapshot.specs.Reading.{summary_in}
use Rattle.fdp_image.specs.Applied.{applied, with_changes}
use Rattle.fdp_image.specs.Areas.{Sealed}
use Rattle.fdp_image.specs.BadFields.{bad_field}
use Rattle.fdp_image.specs.Checkpoint.{said_by_checkpoint}
use Rattle.fdp_image.specs.Fits.{Fitting, all_fit, are_born, fits, names_what_is}
use Rattle.fdp_image.specs.Reading.{Reading}
use Rattle.fdp_image.specs.Reads.{changes_in, is_checkpoint_of, is_sound_checkpoint, said_after, said_by_area}

-- ---- changes that fit

pub both-true : (a b : Bool) → IsTrue a → IsTrue b → IsTrue (a && b)
both-true true b p q = q
both-true false b p q = cc

pub first-true : (a b : Bool) → IsTrue (a && b) → IsTrue a
first-true true b p = refl
first-true false b p = p

pub second-true : (a b : Bool) → IsTrue (a && b) → IsTrue b
second-true true b p = p
second-true false b p = cc

-- changes that fit, and then others that fit what is said with them
pub all_fit-append : (fits : Fitting) (c : DriveConfig) (r : Reading) (xs ys : List (Change × Totals)) → IsTrue (all_fit fits c r xs)
    → IsTrue (all_fit fits c (with_changes c r xs) ys) → IsTrue (all_fit fits c r (xs ++ ys))
unfolding all_fit
all_fit-append fits c r [] ys all more = more
all_fit-append fits c r (x ∷ xs) ys all more =
    both-true (fits c r x) _ (first-true (fits c r x) _ all) (all_fit-append fits c (applied c r x) xs ys (second-true (fits c r x) _ all) more)

-- and back
pub all_fit-first : (fits : Fitting) (c : DriveConfig) (r : Reading) (xs ys : List (Change × Totals)) → IsTrue (all_fit fits c r (xs ++ ys)) → IsTrue (all_fit fits c r xs)
unfolding all_fit
all_fit-first fits c r [] ys all = refl
all_fit-first fits c r (x ∷ xs) ys all = both-true (fits c r x) _ (first-true (fits c r x) _ all) (all_fit-first fits c (applied c r x) xs ys (second-true (fits c r x) _ all))

pub all_fit-rest : (fits : Fitting) (c : DriveConfig) (r : Reading) (xs ys : List (Change × Totals)) → IsTrue (all_fit fits c r (xs ++ ys)) → IsTrue (all_fit fits c (with_changes c r xs) ys)
unfolding all_fit
all_fit-rest fits c r [] ys all = all
all_fit-rest fits c r (x ∷ xs) ys all = all_fit-rest fits c (applied c r x) xs ys (second-true (fits c r x) _ all)

-- one change
pub fit_one : (fits : Fitting) (c : DriveConfig) (r : Reading) (x : Change × Totals) → IsTrue (fits c r x) → IsTrue (all_fit fits c r (x ∷ []))
unfolding all_fit
fit_one fits c r x one = both-true (fits c r x) true one refl

pub unfit_one : (fits : Fitting) (c : DriveConfig) (r : Reading) (x : Change × Totals) → fits c r x ≡ false → all_fit fits c r (x ∷ []) ≡ false
unfolding all_fit
unfit_one fits c r x none = ap (λ (b : Bool). b && true) none

-- whether a change fits does not depend on the totals of what is said
names-forget : (c : DriveConfig) (r : Reading) (totals : Totals) (change : Change) → names_what_is c (record r { totals = totals }) change ≡ names_what_is c r change
unfolding names_what_is
names-forget c r totals (changes.Write nsid slba pid pid_invalid pages) = refl
names-forget c r totals (changes.Clear nsid ranges) = refl
names-forget c r totals (changes.Update nsid closed pids) = refl
names-forget c r totals (changes.Create nsid size given handles) = refl
names-forget c r totals (changes.Delete nsid) = refl
names-forget c r totals (changes.SetFdp enabled index generation) = refl
names-forget c r totals (changes.SetEvents ruh on mask) = refl
names-forget c r totals (changes.Moved victim first second handles) = refl
names-forget c r totals (changes.Shut rg ruh) = refl

pub fits-forget : (c : DriveConfig) (r : Reading) (totals : Totals) (x : Change × Totals) → fits c (record r { totals = totals }) x ≡ fits c r x
fits-forget c r totals x = ap (λ (b : Bool). are_born r x.1.position && b) (names-forget c r totals x.0)

-- ---- what is said after them

-- they fit, and this is said with them
pub record IsSaidAfter (c : DriveConfig) (old : Reading) (changes : List (Change × Totals)) (new : Reading) : Type 0 where
  pub fit : IsTrue (all_fit fits c old changes)
  pub said : with_changes c old changes ≡ new

pub said_after-parts : (c : DriveConfig) (old : Reading) (changes : List (Change × Totals)) (new : Reading) → said_after c old changes ≡ Some new → IsSaidAfter c old changes new
unfolding said_after
said_after-parts c old changes new e = of_test (all_fit fits c old changes) refl e where
  of_test : (b : Bool) → all_fit fits c old changes ≡ b → (if b then Some (with_changes c old changes) else None) ≡ Some new → IsSaidAfter c old changes new
  of_test true is h = record { fit = is; said = cc }
  of_test false is h = absurd cc

pub said_after-made : (c : DriveConfig) (old : Reading) (changes : List (Change × Totals)) (new : Reading) → IsSaidAfter c old changes new → said_after c old changes ≡ Some new
unfolding said_after
said_after-made c old changes new h = ap (λ (b : Bool). if b then Some (with_changes c old changes) else None) h.fit ∙ ap Some h.said

-- ---- what an area says

-- its checkpoint is sound, and its journal tells changes that fit, with which this is said
pub record IsSaidBy (c : DriveConfig) (z : Sealed) (r : Reading) : Type 0 where
  pub sound : is_sound_checkpoint c z ≡ true
  pub changes : List (Change × Totals)
  pub told : changes_in z.journal ≡ Some changes
  pub after : IsSaidAfter c (said_by_checkpoint (concat z.checkpoint)) changes r

pub said_by-parts : (c : DriveConfig) (z : Sealed) (r : Reading) → said_by_area c z ≡ Some r → IsSaidBy c z r
unfolding said_by_area
said_by-parts c z r e = of_test (is_sound_checkpoint c z) refl e where
  of_changes : is_sound_checkpoint c z ≡ true → (o : Option (List (Change × Totals))) → changes_in z.journal ≡ o → option_and_then (said_after c (said_by_checkpoint (concat z.checkpoint))) o ≡ Some r → IsSaidBy c z r
  of_changes sound None is h = absurd cc
  of_changes sound (Some xs) is h = record { sound = sound; changes = xs; told = is; after = said_after-parts c (said_by_checkpoint (concat z.checkpoint)) xs r h }

  of_test : (b : Bool) → is_sound_checkpoint c z ≡ b → (if b then option_and_then (said_after c (said_by_checkpoint (concat z.checkpoint))) (changes_in z.journal) else None) ≡ Some r → IsSaidBy c z r
  of_test true is h = of_changes is (changes_in z.journal) refl h
  of_test false is h = absurd cc

pub said_by-made : (c : DriveConfig) (z : Sealed) (r : Reading) → IsSaidBy c z r → said_by_area c z ≡ Some r
unfolding said_by_area
said_by-made c z r h =
    let first = said_by_checkpoint (concat z.checkpoint) in
    ap (λ (b : Bool). if b then option_and_then (said_after c first) (changes_in z.journal) else None) h.sound
    ∙ ap (option_and_then (said_after c first)) h.told
    ∙ said_after-made c first h.changes r h.after

-- ---- a sound checkpoint

pub record IsSoundWhole (c : DriveConfig) (z : Sealed) : Type 0 where
  pub whole : IsTrue (is_checkpoint_of c z)
  pub fields : bad_field c (summary_in (concat z.checkpoint)) ≡ None

pub sound-parts : (c : DriveConfig) (z : Sealed) → is_sound_checkpoint c z ≡ true → IsSoundWhole c z
unfolding is_sound_checkpoint
sound-parts c z e =
    let o = bad_field c (summary_in (concat z.checkpoint)) in
    record { whole = first-true (is_checkpoint_of c z) (not (is_some o)) e; fields = none_of o (second-true (is_checkpoint_of c z) (not (is_some o)) e) }
  where
    none_of : (o : Option ℕ) → IsTrue (not (is_some o)) → o ≡ None
    none_of None h = refl
    none_of (Some x) h = absurd cc

pub sound-made : (c : DriveConfig) (z : Sealed) → IsSoundWhole c z → is_sound_checkpoint c z ≡ true
unfolding is_sound_checkpoint
sound-made c z h = both-true (is_checkpoint_of c z) (not (is_some (bad_field c (summary_in (concat z.checkpoint))))) h.whole (ap (λ (o : Option ℕ). not (is_some o)) h.fields)
