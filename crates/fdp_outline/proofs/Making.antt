-- What a drive is made with, as a checkpoint says it.
use Rattle.std.proofs.Common.{◌≡◌, ℕ, zero, suc, ◌+◌, ◌-◌, ◌*◌, ◌^◌, ◌<◌, ◌≤◌, Bool, true, false, List, [], ◌∷◌, ◌++◌, length, map, Option, Some, None, refl, ap, sym, ◌∙◌, arith, subst, ⊎_elim, get_or, replicate, eq-eqb, ◌≢◌}
use Rattle.std.specs.Prelude.{All, IsTrue, not, ◌==◌, ◌&&◌, find, if◌then◌else◌, nat_le, nat_lt, option_map, slice_get, sum_by}
use Rattle.std.specs.List.{enumerate_from, list_all}
use Rattle.std.specs.Option.{option_and_then}
use Rattle.std.proofs.lemmas.Bool.{and_parts, cases_lt, le-leb, le-ltb, lt-leb}
use Rattle.std.proofs.lemmas.Bool.Decides.{eqb_tells}
use Rattle.std.proofs.lemmas.List.Elements.{All-nil}
use Rattle.std.proofs.lemmas.Nat.{pow_pos}
use Rattle.std.proofs.lemmas.Option.{slice_get-get_or, slice_get_past}
use Rattle.std.proofs.Math.Nat.{pow-suc}
use Rattle.std.proofs.Math.Pow.{pow_mono}
use Rattle.std.proofs.lemmas.List.Sums.{sum_by-cons}
use Rattle.fdp_base.specs.declared.config.Class.{Class}
use Rattle.fdp_base.specs.declared.config.DriveConfig.{DriveConfig}
use Rattle.fdp_base.specs.declared.config.NamespaceConfig.{NamespaceConfig}
use Rattle.fdp_base.specs.declared.event.Event.{Event}
use Rattle.fdp_base.specs.declared.event.EventKind.{EventKind}
use Rattle.fdp_base.specs.declared.event.EventKind.TheVariants as kinds
use Rattle.fdp_base.specs.Config.{IsValidConfig, IsValidNamespace}
use Rattle.fdp_base.specs.Placement.{handle_count}
use Rattle.fdp_events.proofs.MaskBits.{known_none}
use Rattle.fdp_history.proofs.Spaces.{in_force-within}
use Rattle.fdp_image.specs.BadFields.{StandByClass}
use Rattle.fdp_image.specs.Checkpoint.{in_place, namespace_of, reading_of_state, reports_in}
use Rattle.fdp_image.specs.CheckpointFields.{are_rows, is_persistent, is_row, same_keys}
use Rattle.fdp_image.specs.CheckpointRows.{has_kind, is_namespace_id}
use Rattle.fdp_image.specs.Reads.{fresh_reading}
use Rattle.fdp_rules.specs.Events.{is_host_event}
use Rattle.fdp_rules.specs.History.{FoundNamespace, first_state, fresh, made_namespace, namespace_in}
use Rattle.fdp_rules.specs.PlainState.{Namespace}
use Rattle.fdp_snapshot.specs.declared.keys.Keys.{Keys}
use Rattle.fdp_snapshot.specs.declared.space.Space.{Space}
use Rattle.fdp_snapshot.specs.declared.state.Summary.{Summary}
use Rattle.fdp_snapshot.specs.Events.{IsPlain}
use Rattle.fdp_outline.specs.Fresh.{ArePlaced, HasFewHandles, made_as}
use Rattle.fdp_outline.specs.Outline.{IsOutlineOf, IsWritable}
use Rattle.fdp_outline.proofs.Paging.{is-id}
use Rattle.fdp_snapshot.specs.declared.keys.HandleRow.{HandleRow}

-- the persistent handles of a list, one handle and those behind it
pub mask_more : (place : ℕ) (class : Class) (rest whole : List Class) → whole ≡ class ∷ rest
    → (if is_persistent class then 2 ^ place else 0) + sum_by (λ (x : ℕ × Class). if is_persistent x.1 then 2 ^ x.0 else 0) (enumerate_from (place + 1) rest)
    ≡ sum_by (λ (x : ℕ × Class). if is_persistent x.1 then 2 ^ x.0 else 0) (enumerate_from place whole)
mask_more place class rest whole is =
    sym (sum_by-cons (λ (x : ℕ × Class). if is_persistent x.1 then 2 ^ x.0 else 0) (place, class) (enumerate_from (place + 1) rest))
    ∙ ap (λ (xs : List Class). sum_by (λ (x : ℕ × Class). if is_persistent x.1 then 2 ^ x.0 else 0) (enumerate_from place xs)) (sym is)

-- one row more
pub rows-push : (xs : List (List Class)) (rows : List HandleRow) (x : List Class) (row : HandleRow) → are_rows xs rows ≡ true → is_row x row ≡ true → are_rows (xs ++ x ∷ []) (rows ++ row ∷ []) ≡ true
rows-push [] [] x row all is = ap (λ (b : Bool). b && true) is
rows-push [] (r ∷ rows) x row all is = absurd cc
rows-push (y ∷ ys) [] x row all is = absurd cc
rows-push (y ∷ ys) (r ∷ rows) x row all is =
    let parts = and_parts (is_row y r) (are_rows ys rows) all in
    ap (λ (b : Bool). b && are_rows (ys ++ x ∷ []) (rows ++ row ∷ [])) parts.0 ∙ rows-push ys rows x row parts.1 is

pub mask-small : (bit mask place more : ℕ) → bit ≤ 2 ^ place → mask + 2 ^ (place + 1) ≤ 2 ^ (place + 1 + more) → place + 1 + more ≤ 16 → bit + mask < 65536
mask-small bit mask place more few bound low =
    let next : place + 1 ≡ suc place = omega arith in
    let twice : 2 ^ (place + 1) ≡ 2 ^ place * 2 = ap (λ (n : ℕ). 2 ^ n) next ∙ pow-suc 2 place in
    let some : 0 < 2 ^ place = pow_pos place in
    let most : 2 ^ (place + 1 + more) ≤ 2 ^ 16 = pow_mono low in
    below (2 ^ place) (2 ^ (place + 1)) (2 ^ (place + 1 + more)) bit mask few bound twice some most
  where
    below : (one two all bit mask : ℕ) → bit ≤ one → mask + two ≤ all → two ≡ one * 2 → 0 < one → all ≤ 2 ^ 16 → bit + mask < 65536
    below one two all bit mask a b e p m = omega arith

same-number : (a b : ℕ) → a ≡ b → (a == b) ≡ true
same-number a b e = eq-eqb a b e

-- keys with these values are those of the drive
pub keys-same : (c : DriveConfig) (k : Keys) → k.block ≡ c.block → k.unit_pages ≡ c.unit_pages → k.groups ≡ c.groups → k.units ≡ c.units → k.area_units ≡ c.area_units → k.queues ≡ c.queues → k.blocks_per_command ≡ c.blocks_per_command → are_rows c.fdp k.configurations ≡ true → list_all (λ same. same) (same_keys c k) ≡ true
unfolding same_keys
keys-same c k block unit_pages groups units area_units queues blocks rows =
    all (same-number k.block c.block block) (same-number k.unit_pages c.unit_pages unit_pages) (same-number k.groups c.groups groups) (same-number k.units c.units units) (same-number k.area_units c.area_units area_units) (same-number k.queues c.queues queues) (same-number k.blocks_per_command c.blocks_per_command blocks) rows
  where
    all : {a b d e f g h i : Bool} → a ≡ true → b ≡ true → d ≡ true → e ≡ true → f ≡ true → g ≡ true → h ≡ true → i ≡ true → list_all (λ same. same) (a ∷ b ∷ d ∷ e ∷ f ∷ g ∷ h ∷ i ∷ []) ≡ true
    all a b d e f g h i = λ j. list_all (λ same. same) (a j ∷ b j ∷ d j ∷ e j ∷ f j ∷ g j ∷ h j ∷ i j ∷ [])

-- ---- namespaces

take-id : (k : ℕ) → suc k - 1 ≡ k
take-id k = omega arith

-- the namespace with an identifier, of those with identifiers from one on
found-from : (first nsid : ℕ) (xs : List NamespaceConfig) → namespace_in (map made_namespace (enumerate_from first xs)) nsid ≡ (if nat_le first nsid then option_map made_as (slice_get xs (nsid - first)) else None)
found-from first nsid [] = none (nat_le first nsid) where
  none : (b : Bool) → ◌≡◌ {A = Option Namespace} None (if b then None else None)
  none true = refl
  none false = refl
found-from first nsid (x ∷ xs) = ⊎_elim
    (λ (h : (first == nsid ≡ true) × (first ≡ nsid)).
    let here : nat_le first nsid ≡ true = le-leb first nsid (omega (arith, h.1)) in
    let none : nsid - first ≡ 0 = omega (arith, h.1) in
    ap (λ (b : Bool). option_map (λ (y : FoundNamespace). y.namespace) (if b then Some (made_namespace (first, x)) else find (λ (y : FoundNamespace). y.nsid == nsid) (map made_namespace (enumerate_from (first + 1) xs)))) h.0
    ∙ sym (ap (λ (b : Bool). if b then option_map made_as (slice_get (x ∷ xs) (nsid - first)) else None) here ∙ ap (λ (i : ℕ). option_map made_as (slice_get (x ∷ xs) i)) none))
    (λ (h : (first == nsid ≡ false) × (first ≢ nsid)).
    ap (λ (b : Bool). option_map (λ (y : FoundNamespace). y.namespace) (if b then Some (made_namespace (first, x)) else find (λ (y : FoundNamespace). y.nsid == nsid) (map made_namespace (enumerate_from (first + 1) xs)))) h.0
    ∙ found-from (first + 1) nsid xs
    ∙ behind first nsid x xs h.1)
    (eqb_tells first nsid)
  where
    behind : (first nsid : ℕ) (x : NamespaceConfig) (xs : List NamespaceConfig) → first ≢ nsid → (if nat_le (first + 1) nsid then option_map made_as (slice_get xs (nsid - (first + 1))) else None) ≡ (if nat_le first nsid then option_map made_as (slice_get (x ∷ xs) (nsid - first)) else None)
    behind first nsid x xs apart = ⊎_elim
        (λ (low : first < nsid).
        let more : nat_le (first + 1) nsid ≡ true = le-leb (first + 1) nsid (omega (arith, low)) in
        let here : nat_le first nsid ≡ true = le-leb first nsid (omega (arith, low)) in
        let next : nsid - first ≡ suc (nsid - (first + 1)) = omega (arith, low) in
        ap (λ (b : Bool). if b then option_map made_as (slice_get xs (nsid - (first + 1))) else None) more
        ∙ sym (ap (λ (b : Bool). if b then option_map made_as (slice_get (x ∷ xs) (nsid - first)) else None) here ∙ ap (λ (i : ℕ). option_map made_as (slice_get (x ∷ xs) i)) next))
        (λ (past : nsid ≤ first).
        let more : nat_le (first + 1) nsid ≡ false = lt-leb (first + 1) nsid (omega (arith, past)) in
        let here : nat_le first nsid ≡ false = lt-leb first nsid (omega (arith, past, apart)) in
        ap (λ (b : Bool). if b then option_map made_as (slice_get xs (nsid - (first + 1))) else None) more
        ∙ sym (ap (λ (b : Bool). if b then option_map made_as (slice_get (x ∷ xs) (nsid - first)) else None) here))
        (cases_lt first nsid)

-- the places say the namespaces
pub places-say : (xs : List NamespaceConfig) (rows : List (Option Space)) → ArePlaced xs 16 rows → length xs ≤ 16 → (nsid : ℕ) → option_map namespace_of (in_place rows nsid) ≡ namespace_in (map made_namespace (enumerate_from 1 xs)) nsid
places-say xs rows h few zero = sym (found-from 1 zero xs)
places-say xs rows h few (suc k) = ⊎_elim
    (λ (low : k < 16).
    ap (λ (b : Bool). option_map namespace_of (if b then option_and_then (λ (x : Option Space). x) (slice_get rows (suc k - 1)) else None)) (is-id k low)
    ∙ ap (λ (i : ℕ). option_map namespace_of (option_and_then (λ (x : Option Space). x) (slice_get rows i))) (take-id k)
    ∙ ap (λ (o : Option (Option Space)). option_map namespace_of (option_and_then (λ (x : Option Space). x) o)) (slice_get-get_or rows k None (omega (arith, low, h.size)))
    ∙ h.each k low
    ∙ sym (found-from 1 (suc k) xs ∙ ap (λ (b : Bool). if b then option_map made_as (slice_get xs (suc k - 1)) else None) (le-leb 1 (suc k) (omega arith)) ∙ ap (λ (i : ℕ). option_map made_as (slice_get xs i)) (take-id k)))
    (λ (past : 16 ≤ k).
    let out : is_namespace_id (suc k) ≡ false = ap (λ (b : Bool). b && nat_lt (suc k) 17) (le-leb 1 (suc k) (omega arith)) ∙ le-ltb (suc k) 17 (omega (arith, past)) in
    ap (λ (b : Bool). option_map namespace_of (if b then option_and_then (λ (x : Option Space). x) (slice_get rows (suc k - 1)) else None)) out
    ∙ sym (found-from 1 (suc k) xs ∙ ap (λ (b : Bool). if b then option_map made_as (slice_get xs (suc k - 1)) else None) (le-leb 1 (suc k) (omega arith)) ∙ ap (λ (i : ℕ). option_map made_as (slice_get xs i)) (take-id k) ∙ ap (option_map made_as) (slice_get_past xs k (omega (arith, past, few)))))
    (cases_lt k 16)

-- ---- masks of zeros

zeros-read : (n k : ℕ) → ◌≡◌ {A = ℕ} (get_or (replicate n 0) k 0) 0
zeros-read zero k = refl
zeros-read (suc n) zero = refl
zeros-read (suc n) (suc k) = zeros-read n k

no-kind : (kind : EventKind) → has_kind 0 kind ≡ false
no-kind kinds.NotFullyWritten = refl
no-kind kinds.TimeLimitExceeded = refl
no-kind kinds.HandlesModified = refl
no-kind kinds.InvalidPlacementIdentifier = refl
no-kind kinds.MediaReallocated = refl
no-kind kinds.ImplicitlyModified = refl

and-false : (b : Bool) → (b && false) ≡ false
and-false true = refl
and-false false = refl

none-reported : (ruh : ℕ) (kind : EventKind) → reports_in (replicate 16 0) ruh kind ≡ false
none-reported ruh kind = ap (λ m. nat_lt ruh 16 && has_kind m kind) (zeros-read 16 ruh) ∙ ap (λ (b : Bool). nat_lt ruh 16 && b) (no-kind kind) ∙ and-false (nat_lt ruh 16)

-- what a drive is made with, as a checkpoint says it
abbrev pub made : DriveConfig → Keys → List (Option Space) → List Event → List Event → Summary
made c keys spaces hosts controllers = record {
  keys = keys;
  totals = record { position = 0; host_blocks = 0; media_blocks = 0; erases = 0 };
  enabled = c.enabled;
  index = c.index;
  generation = 0;
  masks = replicate 16 0;
  spaces = spaces;
  host_events = hosts;
  controller_events = controllers;
}

no-events : (hosts controllers : List Event) → hosts ≡ [] → controllers ≡ [] → StandByClass hosts controllers
no-events hosts controllers none none_too = record {
  host = subst (λ (es : List Event). All (λ (e : Event). IsTrue (is_host_event e)) es) (sym none) (All-nil (λ (e : Event). IsTrue (is_host_event e)));
  controller = subst (λ (es : List Event). All (λ (e : Event). IsTrue (not (is_host_event e))) es) (sym none_too) (All-nil (λ (e : Event). IsTrue (not (is_host_event e))));
}

pub fresh-outline : (c : DriveConfig) (keys : Keys) (spaces : List (Option Space)) (hosts controllers : List Event) → list_all (λ same. same) (same_keys c keys) ≡ true → ArePlaced c.namespaces 16 spaces → length c.namespaces ≤ 16 → hosts ≡ [] → controllers ≡ [] → IsOutlineOf c (fresh_reading c) (made c keys spaces hosts controllers)
unfolding fresh_reading first_state fresh reading_of_state
fresh-outline c keys spaces hosts controllers same placed few none none_too = record {
  sizes = same;
  rows = record { masks = known_none 16 (handle_count c c.enabled c.index); events = no-events hosts controllers none none_too };
  says = λ i. record (fresh_reading c) {
    reports = λ ruh kind. none-reported ruh kind i;
    namespaces = λ nsid. places-say c.namespaces spaces placed few nsid i;
    host_events = none i;
    controller_events = none_too i;
  };
}

pub fresh-writable : (c : DriveConfig) (keys : Keys) (spaces : List (Option Space)) (hosts controllers : List Event) → length keys.configurations ≤ 4 → ArePlaced c.namespaces 16 spaces → hosts ≡ [] → controllers ≡ [] → IsWritable (made c keys spaces hosts controllers)
fresh-writable c keys spaces hosts controllers few placed none none_too = record {
  summary = record {
    configurations = few;
    places = placed.size;
    spaces = placed.fit;
    host_count = omega (arith, ap length none);
    controller_count = omega (arith, ap length none_too);
  };
  host_events = subst (λ (es : List Event). All IsPlain es) (sym none) (All-nil IsPlain);
  controller_events = subst (λ (es : List Event). All IsPlain es) (sym none_too) (All-nil IsPlain);
}

few-in_force : (c : DriveConfig) → IsValidConfig c → handle_count c c.enabled c.index ≤ 16
unfolding first_state fresh
few-in_force c valid = (in_force-within c (first_state c (fresh c)) valid valid.ranges.index).1

-- a configured namespace has few handles
few-of : (c : DriveConfig) → IsValidConfig c → (x : NamespaceConfig) → IsValidNamespace c x → HasFewHandles x
few-of c valid x v = record {
  blocks = v.blocks;
  few = λ list e. (v.handles list e).1.number.1;
  known = λ list e k d below. omega (arith, (v.handles list e).1.known k d below, (few-in_force c valid));
}

pub few-handles : (c : DriveConfig) → IsValidConfig c → All HasFewHandles c.namespaces
few-handles c valid i d below = few-of c valid (get_or c.namespaces i d) (valid.ranges.each_namespace i d below)
