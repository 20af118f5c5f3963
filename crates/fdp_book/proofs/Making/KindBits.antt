-- The kinds of event of a setting, as a mask.
use Rattle.std.proofs.Common.{◌≡◌, ℕ, ◌<◌, Bool, true, false, List, [], ◌∷◌, refl, ap, sym, ◌∙◌}
use Rattle.std.specs.Prelude.{◌==◌, ◌||◌, if◌then◌else◌}
use Rattle.std.specs.List.{list_any}
use Rattle.std.specs.Int.Bits.{bit_or}
use Rattle.std.proofs.lemmas.Bool.{ne_eqb}
use Rattle.std.proofs.lemmas.Nat.{or_lt}
use Rattle.fdp_base.specs.declared.event.EventKind.{EventKind}
use Rattle.fdp_base.specs.declared.event.EventKind.TheVariants as kinds
use Rattle.fdp_base.specs.EventCodes.{kind_code}
use Rattle.fdp_image.specs.CheckpointRows.{has_kind}
use Rattle.fdp_events.proofs.MaskBits.{kinds_with}

either : (a b x y : Bool) → a ≡ x → b ≡ y → (if a then true else b) ≡ (x || y)
either true b x y same e = ap (λ (z : Bool). z || y) same
either false b x y same e = e ∙ ap (λ (z : Bool). z || y) same

-- one type more
pub kinds-more : (rest bit code : ℕ) (codes all : List ℕ) (kind : EventKind) → all ≡ code ∷ codes → has_kind rest kind ≡ list_any (λ x. x == kind_code kind) codes → has_kind bit kind ≡ (code == kind_code kind)
    → has_kind (bit_or rest bit) kind ≡ list_any (λ x. x == kind_code kind) all
kinds-more rest bit code codes all kind is below one =
    kinds_with rest bit kind
    ∙ either (has_kind bit kind) (has_kind rest kind) (code == kind_code kind) (list_any (λ x. x == kind_code kind) codes) one below
    ∙ ap (list_any (λ x. x == kind_code kind)) (sym is)

pub no-kinds : (all : List ℕ) (kind : EventKind) → all ≡ [] → has_kind 0 kind ≡ list_any (λ x. x == kind_code kind) all
no-kinds all kinds.NotFullyWritten is = ap (list_any (λ x. x == kind_code kinds.NotFullyWritten)) (sym is)
no-kinds all kinds.TimeLimitExceeded is = ap (list_any (λ x. x == kind_code kinds.TimeLimitExceeded)) (sym is)
no-kinds all kinds.HandlesModified is = ap (list_any (λ x. x == kind_code kinds.HandlesModified)) (sym is)
no-kinds all kinds.InvalidPlacementIdentifier is = ap (list_any (λ x. x == kind_code kinds.InvalidPlacementIdentifier)) (sym is)
no-kinds all kinds.MediaReallocated is = ap (list_any (λ x. x == kind_code kinds.MediaReallocated)) (sym is)
no-kinds all kinds.ImplicitlyModified is = ap (list_any (λ x. x == kind_code kinds.ImplicitlyModified)) (sym is)

pub mask-low : (rest bit : ℕ) → rest < 64 → bit < 64 → bit_or rest bit < 64
mask-low rest bit low small = or_lt 6 rest bit low small

-- the bit of each type, and of what is none
pub bit-0 : (kind : EventKind) → has_kind 1 kind ≡ (0x00 == kind_code kind)
bit-0 kinds.NotFullyWritten = refl
bit-0 kinds.TimeLimitExceeded = refl
bit-0 kinds.HandlesModified = refl
bit-0 kinds.InvalidPlacementIdentifier = refl
bit-0 kinds.MediaReallocated = refl
bit-0 kinds.ImplicitlyModified = refl

pub bit-1 : (kind : EventKind) → has_kind 2 kind ≡ (0x01 == kind_code kind)
bit-1 kinds.NotFullyWritten = refl
bit-1 kinds.TimeLimitExceeded = refl
bit-1 kinds.HandlesModified = refl
bit-1 kinds.InvalidPlacementIdentifier = refl
bit-1 kinds.MediaReallocated = refl
bit-1 kinds.ImplicitlyModified = refl

pub bit-2 : (kind : EventKind) → has_kind 4 kind ≡ (0x02 == kind_code kind)
bit-2 kinds.NotFullyWritten = refl
bit-2 kinds.TimeLimitExceeded = refl
bit-2 kinds.HandlesModified = refl
bit-2 kinds.InvalidPlacementIdentifier = refl
bit-2 kinds.MediaReallocated = refl
bit-2 kinds.ImplicitlyModified = refl

pub bit-3 : (kind : EventKind) → has_kind 8 kind ≡ (0x03 == kind_code kind)
bit-3 kinds.NotFullyWritten = refl
bit-3 kinds.TimeLimitExceeded = refl
bit-3 kinds.HandlesModified = refl
bit-3 kinds.InvalidPlacementIdentifier = refl
bit-3 kinds.MediaReallocated = refl
bit-3 kinds.ImplicitlyModified = refl

pub bit-80 : (kind : EventKind) → has_kind 16 kind ≡ (0x80 == kind_code kind)
bit-80 kinds.NotFullyWritten = refl
bit-80 kinds.TimeLimitExceeded = refl
bit-80 kinds.HandlesModified = refl
bit-80 kinds.InvalidPlacementIdentifier = refl
bit-80 kinds.MediaReallocated = refl
bit-80 kinds.ImplicitlyModified = refl

pub bit-81 : (kind : EventKind) → has_kind 32 kind ≡ (0x81 == kind_code kind)
bit-81 kinds.NotFullyWritten = refl
bit-81 kinds.TimeLimitExceeded = refl
bit-81 kinds.HandlesModified = refl
bit-81 kinds.InvalidPlacementIdentifier = refl
bit-81 kinds.MediaReallocated = refl
bit-81 kinds.ImplicitlyModified = refl

pub bit-none : (code : ℕ) (kind : EventKind) → (code ≡ 0x00 → ⊥) → (code ≡ 0x01 → ⊥) → (code ≡ 0x02 → ⊥) → (code ≡ 0x03 → ⊥) → (code ≡ 0x80 → ⊥) → (code ≡ 0x81 → ⊥) → has_kind 0 kind ≡ (code == kind_code kind)
bit-none code kinds.NotFullyWritten a b c d e f = sym (ne_eqb code 0x00 a)
bit-none code kinds.TimeLimitExceeded a b c d e f = sym (ne_eqb code 0x01 b)
bit-none code kinds.HandlesModified a b c d e f = sym (ne_eqb code 0x02 c)
bit-none code kinds.InvalidPlacementIdentifier a b c d e f = sym (ne_eqb code 0x03 d)
bit-none code kinds.MediaReallocated a b c d e f = sym (ne_eqb code 0x80 e)
bit-none code kinds.ImplicitlyModified a b c d e f = sym (ne_eqb code 0x81 f)
