-- The frames of the layouts, byte by byte.
use Rattle.std.proofs.Common.{◌≡◌, ℕ, zero, suc, ◌+◌, ◌<◌, List, length, [], ◌∷◌, ◌++◌, replicate, refl, ap, ◌∙◌, arith}
use Rattle.std.specs.Prelude.{◌==◌, if◌then◌else◌}
use Rattle.std.specs.Int.{byte_at, to_le_bytes, w16, w32, w64, w128}
use Rattle.fdp_base.specs.declared.config.Class.{Class}
use Rattle.fdp_base.specs.declared.config.Class.TheVariants as classes
use Rattle.fdp_base.specs.declared.event.Event.{Event}
use Rattle.fdp_base.specs.EventCodes.{flags_code, kind_code}
use Rattle.fdp_layouts.specs.Frame.{any, frame_of, packed, placed, Fits, PartsFit}
use Rattle.fdp_layouts.specs.Events.{described, event_desc, event_desc_numbers, event_head, reallocated_desc, specific_of}
use Rattle.fdp_layouts.specs.Statistics.{stats}
use Rattle.fdp_layouts.specs.HandleStatus.{ruh_status_head, ruh_status_desc}
use Rattle.fdp_layouts.specs.Usage.{ruh_use_head, ruh_use, usage_code, usage_numbers}
use Rattle.fdp_layouts.specs.declared.usage.Usage.{Usage}
use Rattle.fdp_layouts.specs.declared.usage.Usage.TheVariants as usages
use Rattle.fdp_layouts.proofs.Bytes.{IsBytes, bytes_of_parts}
use Rattle.fdp_layouts.specs.Configurations.{attributes_parts, config_head, config_desc, ruh_class, class_numbers}
use Rattle.fdp_base.specs.Codes.{class_code}
use Rattle.fdp_rules.specs.LogPages.{event_bytes, specific_bytes, zeros}

-- the lowest byte of a byte
pub byte_of_byte : (n : ℕ) → n < 256 → byte_at 0 n ≡ n
byte_of_byte n below = omega arith

pub events_head_bytes : (n : ℕ) → frame_of 64 event_head ((n ∷ []) ∷ []) ≡ to_le_bytes w32 n ++ zeros 60
unfolding placed
events_head_bytes n = refl

pub status_head_bytes : (n : ℕ) → frame_of 16 ruh_status_head ((n ∷ []) ∷ []) ≡ zeros 14 ++ to_le_bytes w16 n
unfolding placed
status_head_bytes n = refl

pub status_bytes : (pid ruh left : ℕ) → frame_of 32 ruh_status_desc ((pid ∷ []) ∷ (ruh ∷ []) ∷ (0 ∷ []) ∷ (left ∷ []) ∷ []) ≡ to_le_bytes w16 pid ++ to_le_bytes w16 ruh ++ zeros 4 ++ to_le_bytes w64 left ++ zeros 16
unfolding placed
status_bytes pid ruh left = refl

pub sums_bytes : (a b c : ℕ) → frame_of 64 stats ((a ∷ []) ∷ (b ∷ []) ∷ (c ∷ []) ∷ []) ≡ to_le_bytes w128 a ++ to_le_bytes w128 b ++ to_le_bytes w128 c ++ zeros 16
unfolding placed
sums_bytes a b c = refl

pub usage_head_bytes : (n : ℕ) → frame_of 8 ruh_use_head ((n ∷ []) ∷ []) ≡ to_le_bytes w16 n ++ zeros 6
unfolding placed
usage_head_bytes n = refl

pub usage_bytes : (u : Usage) → frame_of 8 ruh_use (usage_numbers u ∷ []) ≡ usage_code u ∷ zeros 7
unfolding placed
usage_bytes usages.Unused = refl
usage_bytes usages.HostSpecified = refl
usage_bytes usages.ControllerSpecified = refl

pub configurations_head_bytes : (last size : ℕ) → frame_of 16 config_head ((last ∷ []) ∷ (0 ∷ []) ∷ (size ∷ []) ∷ []) ≡ to_le_bytes w16 last ++ zeros 2 ++ to_le_bytes w32 size ++ zeros 8
unfolding placed
configurations_head_bytes last size = refl

pub class_bytes : (class : Class) → frame_of 4 ruh_class (class_numbers class ∷ []) ≡ class_code class ∷ zeros 3
unfolding placed
class_bytes classes.Initial = refl
class_bytes classes.Persistent = refl

pub descriptor_bytes : (size bits groups handles runs : ℕ) → bits < 16
    → frame_of 64 config_desc ((size ∷ []) ∷ (bits ∷ 0 ∷ 0 ∷ 1 ∷ []) ∷ (0 ∷ []) ∷ (groups ∷ []) ∷ (handles ∷ []) ∷ (63 ∷ []) ∷ (16 ∷ []) ∷ (runs ∷ []) ∷ (0 ∷ []) ∷ [])
    ≡ to_le_bytes w16 size ++ (128 + bits) ∷ 0 ∷ [] ++ to_le_bytes w32 groups ++ to_le_bytes w16 handles ++ to_le_bytes w16 63 ++ to_le_bytes w32 16 ++ to_le_bytes w64 runs ++ to_le_bytes w32 0 ++ zeros 36
unfolding placed
descriptor_bytes size bits groups handles runs few =
    let attributes : byte_at 0 (packed attributes_parts (bits ∷ 0 ∷ 0 ∷ 1 ∷ [])) ≡ 128 + bits = omega arith in
    ap (λ (b : ℕ). to_le_bytes w16 size ++ b ∷ 0 ∷ [] ++ to_le_bytes w32 groups ++ to_le_bytes w16 handles ++ to_le_bytes w16 63 ++ to_le_bytes w32 16 ++ to_le_bytes w64 runs ++ to_le_bytes w32 0 ++ zeros 36) attributes

-- ---- an event

reallocated_bytes : (moved lba : ℕ) → frame_of 16 reallocated_desc ((1 ∷ 0 ∷ []) ∷ (moved ∷ []) ∷ (lba ∷ []) ∷ []) ≡ 1 ∷ 0 ∷ to_le_bytes w16 moved ++ to_le_bytes w64 lba ++ zeros 4
unfolding placed
reallocated_bytes moved lba = refl

specific_same : (e : Event) → specific_of e ≡ specific_bytes e
specific_same e = ap (λ (bytes : List ℕ). if kind_code e.kind == 0x80 then bytes else zeros 16) (reallocated_bytes e.moved e.lba)

-- parts that are bytes and fit are so many bytes
fitted : (k : ℕ) (bs : List ℕ) → PartsFit (replicate k (any 8)) bs → (length bs ≡ k) × IsBytes bs
fitted zero [] fits = (refl, λ i. omega arith)
fitted zero (b ∷ bs) fits = absurd fits
fitted (suc k) [] fits = absurd fits
fitted (suc k) (b ∷ bs) fits =
    let rest = fitted k bs fits.2 in
    (omega (arith, rest.0), λ i. first b bs fits.0 rest.1 i)
  where
    first : (b : ℕ) (bs : List ℕ) → b < 256 → IsBytes bs → IsBytes (b ∷ bs)
    first b bs below h zero = below
    first b bs below h (suc i) = h i

pub event_frame_bytes : (e : Event) → Fits event_desc (event_desc_numbers (described e)) → frame_of 64 event_desc (event_desc_numbers (described e)) ≡ event_bytes e
unfolding placed
event_frame_bytes e fits =
    let kind = kind_code e.kind in
    let flags = flags_code e.flags in
    let own = fitted 16 (specific_of e) fits.1.1.1.1.1.0 in
    let bytes = bytes_of_parts 16 (specific_of e) own.0 own.1 ∙ specific_same e in
    ap (λ (s : List ℕ). byte_at 0 kind ∷ byte_at 0 flags ∷ to_le_bytes w16 e.pid ++ to_le_bytes w64 e.position ++ to_le_bytes w32 e.nsid ++ s ++ to_le_bytes w16 e.rg ++ byte_at 0 e.ruh ∷ zeros 29) bytes
    ∙ ap (λ (b : ℕ). b ∷ byte_at 0 flags ∷ to_le_bytes w16 e.pid ++ to_le_bytes w64 e.position ++ to_le_bytes w32 e.nsid ++ specific_bytes e ++ to_le_bytes w16 e.rg ++ byte_at 0 e.ruh ∷ zeros 29) (byte_of_byte kind fits.0.0)
    ∙ ap (λ (b : ℕ). kind ∷ b ∷ to_le_bytes w16 e.pid ++ to_le_bytes w64 e.position ++ to_le_bytes w32 e.nsid ++ specific_bytes e ++ to_le_bytes w16 e.rg ++ byte_at 0 e.ruh ∷ zeros 29) (byte_of_byte flags fits.1.0.0)
    ∙ ap (λ (b : ℕ). kind ∷ flags ∷ to_le_bytes w16 e.pid ++ to_le_bytes w64 e.position ++ to_le_bytes w32 e.nsid ++ specific_bytes e ++ to_le_bytes w16 e.rg ++ b ∷ zeros 29) (byte_of_byte e.ruh fits.1.1.1.1.1.1.1.0.0)
