-- Firm entries: no stop loses them.
use Rattle.std.proofs.Common.{◌≡◌, ℕ, zero, suc, ◌<◌, ◌≤◌, ◌⊎◌, inl, inr, Bool, true, false, ◌&&◌, List, [], ◌∷◌, ◌++◌, length, Option, Some, None, refl, sym, ◌∙◌, ap, subst, arith}
use Rattle.std.specs.Prelude.{All, IsFalse, nat_lt, slice_get}
use Rattle.std.specs.Option.{option_map_or}
use Rattle.std.proofs.lemmas.Bool.Decides.{nat_tests}
use Rattle.std.proofs.lemmas.List.Elements.{All-cons, All-get_or, All-nil}
use Rattle.std.proofs.lemmas.Option.{get_or_from_slice_get, slice_get_within}
use Rattle.fdp_base.specs.declared.config.DriveConfig.{DriveConfig}
use Rattle.fdp_base.specs.declared.entry.Entry.{Entry}
use Rattle.fdp_base.specs.declared.entry.Entry.TheVariants as entries
use Rattle.fdp_base.specs.declared.entry.Host.{Host}
use Rattle.fdp_base.specs.EntryKinds.{host_of}
use Rattle.fdp_base.proofs.Entries.{by-host}
use Rattle.fdp_durability.specs.Firm.{completes}
use Rattle.fdp_flash.specs.declared.cell.Cell.{Cell}
use Rattle.fdp_flash.specs.FlashState.{FlashState}
use Rattle.fdp_flash.specs.Runs.{Runs}
use Rattle.fdp_flash.proofs.Runs.{runs_weakened}
use Rattle.fdp_image.specs.Kept.{AreFirm, StandsForBeginning, StandsForKept, is_completed, is_owed}
use Rattle.fdp_rules.specs.History.{Found}

-- ---- what is owed

abbrev completed_by : Option Host → Bool
completed_by o = option_map_or (λ (h : Host). is_completed h.command h.reply) o false

abbrev owed_by : ℕ → Option Host → Bool
owed_by m o = option_map_or (λ (h : Host). is_completed h.command h.reply && nat_lt h.moment m) o false

-- an entry that completes no change is not owed
pub unowed : (m : ℕ) (e : Entry) → IsFalse (completes e) → IsFalse (is_owed m e)
unowed m e is = of_host (host_of e) is where
  of_host : (o : Option Host) → completed_by o ≡ false → owed_by m o ≡ false
  of_host None is = refl
  of_host (Some h) is = ap (λ (b : Bool). b && nat_lt h.moment m) is

not_before : (a b : ℕ) → b ≤ a → nat_lt a b ≡ false
not_before a b is = grind (arith, nat_tests)

is_from : (a b : ℕ) → nat_lt a b ≡ false → b ≤ a
is_from a b is = grind (arith, nat_tests)

-- nor is one that was completed at this moment or later
pub unowed-late : (m : ℕ) (h : Host) → m ≤ h.moment → IsFalse (is_owed m (entries.Host h))
unowed-late m h late = no (is_completed h.command h.reply) where
  no : (b : Bool) → (b && nat_lt h.moment m) ≡ false
  no true = not_before h.moment m late
  no false = refl

-- what is not owed at a moment is not owed before
pub owed-later : (m n : ℕ) (e : Entry) → m ≤ n → IsFalse (is_owed n e) → IsFalse (is_owed m e)
owed-later m n e later is = of_host (host_of e) is where
  of_test : (b : Bool) (at : ℕ) → (b && nat_lt at n) ≡ false → (b && nat_lt at m) ≡ false
  of_test false at is = refl
  of_test true at is = let high = is_from at n is in not_before at m (omega (arith, high, later))

  of_host : (o : Option Host) → owed_by n o ≡ false → owed_by m o ≡ false
  of_host None is = refl
  of_host (Some h) is = of_test (is_completed h.command h.reply) h.moment is

-- ---- entries by their place

-- an entry of two lists is one of the first, or of the second
either : (es more : List Entry) (k : ℕ) (e : Entry) → slice_get (es ++ more) k ≡ Some e → (slice_get es k ≡ Some e) ⊎ ((j : ℕ) × (slice_get more j ≡ Some e))
either [] more k e at = inr (k, at)
either (x ∷ es) more zero e at = inl at
either (x ∷ es) more (suc k) e at = either es more k e at

-- what holds of each entry of a list, by its place
each-there : (P : Entry → Type 0) (xs : List Entry) → ((k : ℕ) (e : Entry) → slice_get xs k ≡ Some e → P e) → All P xs
each-there P [] h = All-nil P
each-there P (x ∷ xs) h = All-cons P x xs (h 0 x refl) (each-there P xs (λ k e at. h (suc k) e at))

-- and of each behind the first so many
each-behind : (P : Entry → Type 0) (kept lost : List Entry) → ((k : ℕ) (e : Entry) → slice_get (kept ++ lost) k ≡ Some e → length kept ≤ k → P e) → All P lost
each-behind P [] lost h = each-there P lost (λ k e at. h k e at (omega arith))
each-behind P (x ∷ kept) lost h = each-behind P kept lost (λ k e at least. h (suc k) e at (omega (arith, least)))

one-of : (P : Entry → Type 0) (xs : List Entry) (k : ℕ) (e : Entry) → All P xs → slice_get xs k ≡ Some e → P e
one-of P xs k e all at = subst P (get_or_from_slice_get xs k e e at) (All-get_or P xs k e (slice_get_within xs k e at) all)

-- ---- which are firm

-- an entry that completes a change is firm
firm-there : (es : List Entry) (firm : ℕ) → AreFirm es firm → (k : ℕ) (e : Entry) → slice_get es k ≡ Some e → completes e ≡ true → k < firm
firm-there es firm firmed k e at is =
    let P : Entry → Type 0 = λ x. slice_get es k ≡ Some x → completes x ≡ true → k < firm in
    by-host P (λ h at is. firmed k h.queue h.number h.command h.reply h.moment at is)
    (λ x none at is. absurd (never x none is)) e at is
  where
    never : (x : Entry) → host_of x ≡ None → completes x ≡ true → ⊥
    never x none is = let bad : false ≡ true = ap completed_by (sym none) ∙ is in cc

pub all-firm : (es : List Entry) → AreFirm es (length es)
all-firm es k queue number command reply moment at is = slice_get_within es k _ at

pub firm-on : (es more : List Entry) (firm : ℕ) → AreFirm es firm → All (λ e. IsFalse (completes e)) more → AreFirm (es ++ more) firm
firm-on es more firm firmed none k queue number command reply moment at is =
    let e : Entry = entries.Host (record { queue = queue; number = number; command = command; reply = reply; moment = moment }) in
    elim (either es more k e at) [
      | inl before ↦ firmed k queue number command reply moment before is
      | inr behind ↦
          let no : completes e ≡ false = one-of (λ x. IsFalse (completes x)) more behind.0 e none behind.1 in
          let bad : false ≡ true = sym no ∙ is in
          absurd cc
    ]

-- ---- what a stop may lose

-- of the entries behind a firm beginning none is owed, where none of those that were added is
none-owed : (es more kept lost : List Entry) (firm m : ℕ) → AreFirm es firm → All (λ e. IsFalse (is_owed m e)) more → es ++ more ≡ kept ++ lost → firm ≤ length kept → All (λ e. IsFalse (is_owed m e)) lost
none-owed es more kept lost firm m firmed none split enough =
    each-behind (λ e. IsFalse (is_owed m e)) kept lost
    (λ k e at least.
    elim (either es more k e (ap (λ (xs : List Entry). slice_get xs k) split ∙ at)) [
      | inl before ↦ unowed m e (not_completed k e before least)
      | inr behind ↦ one-of (λ x. IsFalse (is_owed m x)) more behind.0 e none behind.1
    ])
  where
    not_completed : (k : ℕ) (e : Entry) → slice_get es k ≡ Some e → length kept ≤ k → completes e ≡ false
    not_completed k e at least =
        (elim (completes e) as (λ b. completes e ≡ b → b ≡ false) [
          | true ↦ λ is. (let low = firm-there es firm firmed k e at is in absurd (omega (arith, low, least, enough)))
          | false ↦ λ is. refl
        ]) refl

pub stands-kept : (c : DriveConfig) (f : Found) (es more : List Entry) (firm m : ℕ) (image : List Cell) → AreFirm es firm → All (λ e. IsFalse (is_owed m e)) more
    → StandsForBeginning c f (es ++ more) firm image → StandsForKept c f (es ++ more) firm m image
stands-kept c f es more firm m image firmed none stands = record {
  beginning = stands;
  kept = record {
    beginning = stands.beginning;
    none_owed = none-owed es more stands.kept stands.lost firm m firmed none stands.beginning.split stands.enough;
  };
}

each-later : (m n : ℕ) (xs : List Entry) → m ≤ n → All (λ e. IsFalse (is_owed n e)) xs → All (λ e. IsFalse (is_owed m e)) xs
each-later m n xs later none = each-there (λ e. IsFalse (is_owed m e)) xs (λ k e at. owed-later m n e later (one-of (λ x. IsFalse (is_owed n x)) xs k e none at))

-- A run whose images stand for beginnings that hold what is firm loses nothing that is owed at any of its moments, where none of the
-- entries that were added is owed at its last one.
pub run-kept : (c : DriveConfig) (f : Found) (es more : List Entry) (firm : ℕ) (old new : FlashState) → AreFirm es firm → All (λ e. IsFalse (is_owed new.moment e)) more
    → Runs old new (λ m image. StandsForBeginning c f (es ++ more) firm image) → Runs old new (λ m image. StandsForKept c f (es ++ more) firm m image)
run-kept c f es more firm old new firmed none run =
    runs_weakened old new (λ m image. StandsForBeginning c f (es ++ more) firm image) (λ m image. StandsForKept c f (es ++ more) firm m image) run
    (λ told m image above most stands. stands-kept c f es more firm m image firmed (each-later m new.moment more most none) stands)
