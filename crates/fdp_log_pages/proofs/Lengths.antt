-- How long the pieces of the log pages are.
use Rattle.std.proofs.Common.{◌≡◌, ℕ, ◌+◌, ◌-◌, ◌*◌, ◌<◌, ◌≤◌, Bool, true, false, Option, List, [], ◌∷◌, ◌++◌, length, take, get_or, replicate, refl, sym, ap, ◌∙◌, arith}
use Rattle.std.specs.Prelude.{flat_map, ◌==◌, if◌then◌else◌}
use Rattle.std.specs.Int.{to_le_bytes, w16, w32, w64}
use Rattle.std.proofs.lemmas.List.{flat_map_more, length-append, length-replicate, take_more}
use Rattle.fdp_base.specs.Codes.{class_code}
use Rattle.fdp_base.specs.EventCodes.{flags_code, kind_code}
use Rattle.fdp_base.specs.Numbers.{numbers_below}
use Rattle.fdp_base.specs.Placement.{group_bits}
use Rattle.fdp_base.specs.declared.config.Class.{Class}
use Rattle.fdp_base.specs.declared.config.DriveConfig.{DriveConfig}
use Rattle.fdp_base.specs.declared.event.Event.{Event}
use Rattle.fdp_pieces.proofs.Putting.{even_length, numbers_length}
use Rattle.fdp_rules.specs.LogPages.{configurations_log, descriptor, descriptor_size, event_bytes, events_log, specific_bytes, zeros}
use Rattle.fdp_snapshot.specs.declared.space.Space.{Space}
use Rattle.fdp_log_pages.specs.Usages.{usage_in, usages_log}

-- ---- a configuration

pub class_length : (class : Class) → length (class_code class ∷ zeros 3) ≡ 4
class_length class = refl

pub descriptor_length : (c : DriveConfig) (handles : List Class) → length (descriptor c handles) ≡ descriptor_size (length handles)
descriptor_length c handles =
    let n = length handles in
    let head : List ℕ =
    to_le_bytes w16 (descriptor_size n) ++ (128 + group_bits c.groups) ∷ 0 ∷ []
    ++ to_le_bytes w32 c.groups ++ to_le_bytes w16 n ++ to_le_bytes w16 63 ++ to_le_bytes w32 16
    ++ to_le_bytes w64 (c.unit_pages * c.block) ++ to_le_bytes w32 0 ++ zeros 36 in
    let classes : List ℕ = flat_map (λ (class : Class). class_code class ∷ zeros 3) handles in
    let padding : List ℕ = zeros (descriptor_size n - (64 + 4 * n)) in
    let first : length head ≡ 64 = refl in
    let middle : length classes ≡ 4 * n = even_length (λ (class : Class). class_code class ∷ zeros 3) 4 handles class_length in
    let last : length padding ≡ descriptor_size n - (64 + 4 * n) = length-replicate (descriptor_size n - (64 + 4 * n)) 0 in
    let large : 64 + 4 * n ≤ descriptor_size n = omega arith in
    omega (arith, length-append (head ++ classes) padding, length-append head classes, first, middle, last, large)

pub descriptor_bound : (c : DriveConfig) (handles : List Class) → length handles ≤ 16 → length (descriptor c handles) ≤ 128
descriptor_bound c handles few = omega (arith, few, descriptor_length c handles)

pub configurations_log_length : (c : DriveConfig) → length (configurations_log c) ≡ 16 + length (flat_map (descriptor c) c.fdp)
configurations_log_length c = length-append (to_le_bytes w16 (length c.fdp - 1) ++ zeros 2 ++ to_le_bytes w32 (16 + length (flat_map (descriptor c) c.fdp)) ++ zeros 8) (flat_map (descriptor c) c.fdp)

-- ---- a usage

pub usages_log_length : (handles : ℕ) (places : List (Option Space)) → length (usages_log handles places) ≡ 8 + 8 * handles
usages_log_length handles places =
    let each : ℕ → List ℕ = λ ruh. usage_in places ruh ∷ zeros 7 in
    let rest : length (flat_map each (numbers_below handles)) ≡ 8 * handles =
    even_length each 8 (numbers_below handles) (λ ruh. refl) ∙ ap (λ (n : ℕ). 8 * n) (numbers_length 0 handles) in
    omega (arith, rest, length-append (to_le_bytes w16 handles ++ zeros 6) (flat_map each (numbers_below handles)))

-- ---- an event

own_length : (b : Bool) (moved lba : ℕ) → length (if b then 1 ∷ 0 ∷ to_le_bytes w16 moved ++ to_le_bytes w64 lba ++ zeros 4 else zeros 16) ≡ 16
own_length true moved lba = refl
own_length false moved lba = refl

pub event_length : (e : Event) → length (event_bytes e) ≡ 64
event_length e =
    let head : List ℕ = kind_code e.kind ∷ flags_code e.flags ∷ to_le_bytes w16 e.pid ++ to_le_bytes w64 e.position ++ to_le_bytes w32 e.nsid in
    let tail : List ℕ = e.ruh ∷ zeros 29 in
    let own = own_length (kind_code e.kind == 0x80) e.moved e.lba in
    let one : length (head ++ specific_bytes e) ≡ 32 = omega (arith, length-append head (specific_bytes e), own) in
    let two : length (head ++ specific_bytes e ++ to_le_bytes w16 e.rg) ≡ 34 = length-append (head ++ specific_bytes e) (to_le_bytes w16 e.rg) ∙ ap (λ (n : ℕ). n + 2) one in
    length-append (head ++ specific_bytes e ++ to_le_bytes w16 e.rg) tail ∙ ap (λ (n : ℕ). n + 30) two

pub events_log_length : (es : List Event) → length (events_log es) ≡ 64 + 64 * length es
events_log_length es =
    omega (arith, even_length event_bytes 64 es event_length, length-append (to_le_bytes w32 (length es) ++ zeros 60) (flat_map event_bytes es))

-- one configuration more
pub descriptors_next : (c : DriveConfig) (xs : List (List Class)) (i : ℕ) (d : List Class) → i < length xs → length (flat_map (descriptor c) (take (i + 1) xs)) ≡ length (flat_map (descriptor c) (take i xs)) + descriptor_size (length (get_or xs i d))
descriptors_next c xs i d below =
    let here = get_or xs i d in
    ap (λ (ys : List (List Class)). length (flat_map (descriptor c) ys)) (take_more xs i d below)
    ∙ ap (λ (ys : List ℕ). length ys) (sym (flat_map_more (descriptor c) [] (take i xs) here))
    ∙ length-append (flat_map (descriptor c) (take i xs)) (descriptor c here)
    ∙ ap (λ (n : ℕ). length (flat_map (descriptor c) (take i xs)) + n) (descriptor_length c here)
