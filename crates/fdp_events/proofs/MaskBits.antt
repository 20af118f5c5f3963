-- The bits of a mask by the kinds of event.
use Rattle.std.proofs.Common.{◌≡◌, ◌≢◌, ℕ, zero, suc, ◌-◌, ◌^◌, ◌<◌, ◌≤◌, Bool, true, false, List, length, set, get_or, refl, ap, sym, ◌∙◌, arith, min, max, replicate, ⊎_elim}
use Rattle.std.proofs.lemmas.List.{get_or-set_other, get_or-set_same}
use Rattle.std.specs.Prelude.{◌⊎◌, ◌==◌, ◌&&◌, ◌||◌, if◌then◌else◌, nat_lt}
use Rattle.std.proofs.lemmas.Bool.{lt-ltb}
use Rattle.std.proofs.lemmas.Bool.Decides.{eqb_tells, nat_tests}
use Rattle.fdp_image.specs.Checkpoint.{reports_in}
use Rattle.std.specs.Int.{bit_at, bit_not, w8}
use Rattle.std.specs.Int.Bits.{bit_and, bit_or}
use Rattle.std.proofs.lemmas.Nat.{and_le_l, or_lt}
use Rattle.std.proofs.lemmas.Nat.Bits.{bit_at-lt, bit_at_and, bit_at_not, bit_at_or}
use Rattle.fdp_base.specs.declared.event.EventKind.{EventKind}
use Rattle.fdp_base.specs.declared.event.EventKind.TheVariants as kinds
use Rattle.fdp_image.specs.BadFields.{AreKnownMasks}
use Rattle.fdp_image.specs.Bits.{has_bit}
use Rattle.fdp_image.specs.CheckpointRows.{has_kind}
use Rattle.fdp_events.specs.Kinds.{kind_bit}

or-false : (b : Bool) → (b || false) ≡ b
or-false true = refl
or-false false = refl

-- a mask has a kind where it has its bit
pub kind_is : (mask : ℕ) (kind : EventKind) → has_kind mask kind ≡ has_bit mask (kind_bit kind)
kind_is mask kinds.NotFullyWritten = or-false (has_bit mask 0)
kind_is mask kinds.TimeLimitExceeded = or-false (has_bit mask 1)
kind_is mask kinds.HandlesModified = or-false (has_bit mask 2)
kind_is mask kinds.InvalidPlacementIdentifier = or-false (has_bit mask 3)
kind_is mask kinds.MediaReallocated = or-false (has_bit mask 4)
kind_is mask kinds.ImplicitlyModified = or-false (has_bit mask 5)

-- the greater of two bits is set where either is, the lesser with the other turned where the one is and the other is not
bit_or_is : (x y : ℕ) → x < 2 → y < 2 → (max x y == 1) ≡ (if y == 1 then true else x == 1)
bit_or_is x y fx fy = grind (arith, nat_tests)

bit_without : (x y : ℕ) → x < 2 → y < 2 → (min x (1 - y) == 1) ≡ (if y == 1 then false else x == 1)
bit_without x y fx fy = grind (arith, nat_tests)

bit_below : (kind : EventKind) → kind_bit kind < 8
bit_below kinds.NotFullyWritten = omega arith
bit_below kinds.TimeLimitExceeded = omega arith
bit_below kinds.HandlesModified = omega arith
bit_below kinds.InvalidPlacementIdentifier = omega arith
bit_below kinds.MediaReallocated = omega arith
bit_below kinds.ImplicitlyModified = omega arith

-- a mask with the kinds of another, or without them
pub kinds_with : (old more : ℕ) (kind : EventKind) → has_kind (bit_or old more) kind ≡ (if has_kind more kind then true else has_kind old kind)
kinds_with old more kind =
    let k : ℕ = kind_bit kind in
    kind_is (bit_or old more) kind
    ∙ ap (λ n. n == 1) (bit_at_or old more k)
    ∙ bit_or_is (bit_at old k) (bit_at more k) (bit_at-lt old k) (bit_at-lt more k)
    ∙ sym (ap (λ (b : Bool). if b then true else has_kind old kind) (kind_is more kind) ∙ ap (λ (b : Bool). if has_bit more k then true else b) (kind_is old kind))

pub kinds_without : (old less : ℕ) (kind : EventKind) → less < 2 ^ 8 → has_kind (bit_and old (bit_not w8 less)) kind ≡ (if has_kind less kind then false else has_kind old kind)
kinds_without old less kind fits =
    let k : ℕ = kind_bit kind in
    kind_is (bit_and old (bit_not w8 less)) kind
    ∙ ap (λ n. n == 1) (bit_at_and old (bit_not w8 less) k ∙ ap (min (bit_at old k)) (bit_at_not w8 less k fits (bit_below kind)))
    ∙ bit_without (bit_at old k) (bit_at less k) (bit_at-lt old k) (bit_at-lt less k)
    ∙ sym (ap (λ (b : Bool). if b then false else has_kind old kind) (kind_is less kind) ∙ ap (λ (b : Bool). if has_bit less k then false else b) (kind_is old kind))

-- the masks with another one for a handle
pub reports_set : (masks : List ℕ) (ruh x kinds_of : ℕ) (on : Bool) → ruh < 16 → ruh < length masks
    → ((kind : EventKind) → has_kind x kind ≡ (if has_kind kinds_of kind then on else has_kind (get_or masks ruh 0) kind)) → (k : ℕ) (kind : EventKind)
    → reports_in (set masks ruh x) k kind ≡ (if k == ruh && has_kind kinds_of kind then on else reports_in masks k kind)
reports_set masks ruh x kinds_of on below there is k kind =
    ⊎_elim
    (λ (h : (k == ruh ≡ true) × (k ≡ ruh)).
    let small : nat_lt ruh 16 ≡ true = lt-ltb ruh 16 below in
    ap (λ n. reports_in (set masks ruh x) n kind) h.1
    ∙ ap (λ (b : Bool). b && has_kind (get_or (set masks ruh x) ruh 0) kind) small
    ∙ ap (λ n. has_kind n kind) (get_or-set_same masks ruh x 0 there)
    ∙ is kind
    ∙ sym
    (ap (λ (b : Bool). if b && has_kind kinds_of kind then on else reports_in masks k kind) h.0
    ∙ ap (λ n. if has_kind kinds_of kind then on else reports_in masks n kind) h.1
    ∙ ap (λ (b : Bool). if has_kind kinds_of kind then on else (b && has_kind (get_or masks ruh 0) kind)) small))
    (λ (h : (k == ruh ≡ false) × (k ≢ ruh)).
    ap (λ n. nat_lt k 16 && has_kind n kind) (get_or-set_other masks ruh k x 0 h.1)
    ∙ sym (ap (λ (b : Bool). if b && has_kind kinds_of kind then on else reports_in masks k kind) h.0))
    (eqb_tells k ruh)

pub zeros_read : (n k : ℕ) → ◌≡◌ {A = ℕ} (get_or (replicate n 0) k 0) 0
zeros_read zero k = refl
zeros_read (suc n) zero = refl
zeros_read (suc n) (suc k) = zeros_read n k

no_kind : (kind : EventKind) → has_kind 0 kind ≡ false
no_kind kinds.NotFullyWritten = refl
no_kind kinds.TimeLimitExceeded = refl
no_kind kinds.HandlesModified = refl
no_kind kinds.InvalidPlacementIdentifier = refl
no_kind kinds.MediaReallocated = refl
no_kind kinds.ImplicitlyModified = refl

and_false : (b : Bool) → (b && false) ≡ false
and_false true = refl
and_false false = refl

-- masks of zeros keep no kind
pub reports_none : (n k : ℕ) (kind : EventKind) → reports_in (replicate n 0) k kind ≡ false
reports_none n k kind = ap (λ m. nat_lt k 16 && has_kind m kind) (zeros_read n k) ∙ ap (λ (b : Bool). nat_lt k 16 && b) (no_kind kind) ∙ and_false (nat_lt k 16)

-- ---- masks without a bit that is that of no kind

pub known_with : (old more : ℕ) → old < 64 → more < 64 → bit_or old more < 64
known_with old more few few_too = or_lt 6 old more few few_too

pub known_without : (old other : ℕ) → old < 64 → bit_and old other < 64
known_without old other few = omega (arith, and_le_l old other, few)

-- another mask for a handle that there is
pub known_set : (count : ℕ) (masks : List ℕ) (ruh x : ℕ) → ruh < length masks → ruh < count → x < 64 → AreKnownMasks count masks → AreKnownMasks count (set masks ruh x)
known_set count masks ruh x there below few h = record { kinds = λ k. of_place k (eqb_tells k ruh); absent = behind } where
  of_place : (k : ℕ) → ((k == ruh ≡ true) × (k ≡ ruh)) ⊎ ((k == ruh ≡ false) × (k ≢ ruh)) → get_or (set masks ruh x) k 0 < 64
  of_place k = ⊎_elim
      (λ (e : (k == ruh ≡ true) × (k ≡ ruh)).
      let new : get_or (set masks ruh x) k 0 ≡ x = ap (λ n. get_or (set masks ruh x) n 0) e.1 ∙ get_or-set_same masks ruh x 0 there in
      omega (arith, new, few))
      (λ (e : (k == ruh ≡ false) × (k ≢ ruh)). omega (arith, get_or-set_other masks ruh k x 0 e.1, h.kinds k))

  behind : (k : ℕ) → count ≤ k → get_or (set masks ruh x) k 0 ≡ 0
  behind k past = let other : k ≢ ruh = omega (arith, past, below) in get_or-set_other masks ruh k x 0 other ∙ h.absent k past

-- masks of zeros
pub known_none : (n count : ℕ) → AreKnownMasks count (replicate n 0)
known_none n count = record { kinds = λ k. omega (arith, zeros_read n k); absent = λ k past. zeros_read n k }
