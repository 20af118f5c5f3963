-- Rows of a summary that are known, and those of which none is bad.
use Rattle.std.proofs.Common.{◌≡◌, ℕ, zero, suc, ◌+◌, ◌-◌, ◌<◌, ◌≤◌, Bool, true, false, List, [], ◌∷◌, ◌++◌, length, get_or, take, drop, Option, Some, None, refl, ap, sym, ◌∙◌, arith, cond, not, filter, ⊎_elim}
use Rattle.std.specs.Prelude.{◌⊎◌, ◌==◌, IsTrue, nat_lt, position}
use Rattle.std.specs.List.{position_or_len}
use Rattle.std.proofs.lemmas.Bool.{cases_lt, le-ltb}
use Rattle.std.proofs.lemmas.Bool.Decides.{nat_tests}
use Rattle.std.proofs.lemmas.List.{get_or-drop, get_or-take, get_or_default, get_or_past, length-drop, length-take}
use Rattle.std.proofs.lemmas.List.Elements.{All-append, All-drop, filter_passes}
use Rattle.fdp_base.specs.declared.config.DriveConfig.{DriveConfig}
use Rattle.fdp_base.specs.declared.event.Event.{Event}
use Rattle.fdp_base.specs.Placement.{full_budget}
use Rattle.fdp_rules.specs.Events.{is_host_event, latest}
use Rattle.fdp_snapshot.specs.declared.state.Summary.{Summary}
use Rattle.fdp_image.specs.BadFields.{AreKnownMasks, HasKnownRows, StandByClass, bad_row, bad_space, has_any_bit, has_stray_bit, or_else, row_at}

-- ---- a list of which no element passes a test

none-from : {X : Type 0} → (p : X → Bool) (xs : List X) (d : X) → length xs ≤ position_or_len p xs → (k : ℕ) → k < length xs → p (get_or xs k d) ≡ false
none-from p [] d all k below = absurd (omega (arith, below))
none-from p (x ∷ xs) d all k below = of_test (none-from p xs d) (p x) refl all k below where
  of_test : (length xs ≤ position_or_len p xs → (k : ℕ) → k < length xs → p (get_or xs k d) ≡ false) → (b : Bool) → p x ≡ b → suc (length xs) ≤ cond (not b) (1 + position_or_len p xs) 0 → (k : ℕ) → k < suc (length xs) → p (get_or (x ∷ xs) k d) ≡ false
  of_test rest true is all k below = absurd (omega (arith, all))
  of_test rest false is all zero below = is
  of_test rest false is all (suc k) below = rest (omega (arith, all)) k (omega (arith, below))

none-at : {X : Type 0} → (p : X → Bool) (xs : List X) (d : X) → position p xs ≡ None → (k : ℕ) → k < length xs → p (get_or xs k d) ≡ false
none-at p xs d none = of_test (nat_lt (position_or_len p xs) (length xs)) refl none where
  of_test : (b : Bool) → nat_lt (position_or_len p xs) (length xs) ≡ b → cond b (Some (position_or_len p xs)) None ≡ None → (k : ℕ) → k < length xs → p (get_or xs k d) ≡ false
  of_test true is e = absurd cc
  of_test false is e = let past : length xs ≤ position_or_len p xs = grind (arith, nat_tests) in none-from p xs d past

no-first : {X : Type 0} → (p : X → Bool) (xs : List X) → ((k : ℕ) (d : X) → k < length xs → p (get_or xs k d) ≡ false) → length xs ≤ position_or_len p xs
no-first p [] each = omega arith
no-first p (x ∷ xs) each = of_test (each 0 x (omega arith)) (no-first p xs (λ k d below. each (suc k) d (omega (arith, below)))) (p x) refl where
  of_test : p x ≡ false → length xs ≤ position_or_len p xs → (b : Bool) → p x ≡ b → suc (length xs) ≤ cond (not b) (1 + position_or_len p xs) 0
  of_test none rest true is = absurd cc
  of_test none rest false is = omega (arith, rest)

none-of-all : {X : Type 0} → (p : X → Bool) (xs : List X) → ((k : ℕ) (d : X) → k < length xs → p (get_or xs k d) ≡ false) → position p xs ≡ None
none-of-all p xs each = ap (λ (b : Bool). cond b (Some (position_or_len p xs)) None) (le-ltb (position_or_len p xs) (length xs) (no-first p xs each))

-- ---- masks

-- masks of which none is bad are known
masks-known : (count : ℕ) (masks : List ℕ) → position has_stray_bit (take count masks) ≡ None → position has_any_bit (drop count masks) ≡ None → AreKnownMasks count masks
masks-known count masks stray any = record { kinds = λ ruh. of_place ruh (cases_lt ruh count); absent = behind } where
  behind : (ruh : ℕ) → count ≤ ruh → get_or masks ruh 0 ≡ 0
  behind ruh past = of_end (cases_lt ruh (length masks)) where
    empty : (mask : ℕ) → not (mask == 0) ≡ false → mask ≡ 0
    empty mask e = grind (arith, nat_tests)

    of_end : (ruh < length masks) ⊎ (length masks ≤ ruh) → get_or masks ruh 0 ≡ 0
    of_end = ⊎_elim
        (λ (low : ruh < length masks).
        let at : count + (ruh - count) ≡ ruh = omega (arith, past) in
        let read : get_or (drop count masks) (ruh - count) 0 ≡ get_or masks ruh 0 = get_or-drop count masks (ruh - count) 0 ∙ ap (λ n. get_or masks n 0) at in
        let none : has_any_bit (get_or (drop count masks) (ruh - count) 0) ≡ false = none-at has_any_bit (drop count masks) 0 any (ruh - count) (omega (arith, low, past, length-drop count masks)) in
        sym read ∙ empty (get_or (drop count masks) (ruh - count) 0) none)
        (λ (high : length masks ≤ ruh). get_or_past masks ruh 0 high)

  before : (ruh : ℕ) → ruh < count → get_or masks ruh 0 < 64
  before ruh low = of_end (cases_lt ruh (length masks)) where
    few : (mask : ℕ) → not (nat_lt mask 64) ≡ false → mask < 64
    few mask e = grind (arith, nat_tests)

    of_end : (ruh < length masks) ⊎ (length masks ≤ ruh) → get_or masks ruh 0 < 64
    of_end = ⊎_elim
        (λ (there : ruh < length masks).
        let none : has_stray_bit (get_or (take count masks) ruh 0) ≡ false = none-at has_stray_bit (take count masks) 0 stray ruh (omega (arith, low, there, length-take count masks)) in
        omega (arith, get_or-take count masks ruh 0 low, few (get_or (take count masks) ruh 0) none))
        (λ (high : length masks ≤ ruh). omega (arith, get_or_past masks ruh 0 high))

  of_place : (ruh : ℕ) → (ruh < count) ⊎ (count ≤ ruh) → get_or masks ruh 0 < 64
  of_place ruh = ⊎_elim (λ (low : ruh < count). before ruh low) (λ (past : count ≤ ruh). omega (arith, behind ruh past))

-- and none of known masks is bad
masks-good : (count : ℕ) (masks : List ℕ) → AreKnownMasks count masks → position has_stray_bit (take count masks) ≡ None
masks-good count masks h = none-of-all has_stray_bit (take count masks) each where
  few : (mask : ℕ) → mask < 64 → not (nat_lt mask 64) ≡ false
  few mask low = grind (arith, nat_tests)

  each : (k d : ℕ) → k < length (take count masks) → has_stray_bit (get_or (take count masks) k d) ≡ false
  each k d below = few (get_or (take count masks) k d) (omega (arith, h.kinds k, get_or-take count masks k d (omega (arith, below, length-take count masks)), get_or_default masks k d 0 (omega (arith, below, length-take count masks))))

masks-empty : (count : ℕ) (masks : List ℕ) → AreKnownMasks count masks → position has_any_bit (drop count masks) ≡ None
masks-empty count masks h = none-of-all has_any_bit (drop count masks) each where
  each : (k d : ℕ) → k < length (drop count masks) → has_any_bit (get_or (drop count masks) k d) ≡ false
  each k d below =
      let none : get_or (drop count masks) k d ≡ 0 = get_or-drop count masks k d ∙ get_or_default masks (count + k) d 0 (omega (arith, below, length-drop count masks)) ∙ h.absent (count + k) (omega arith) in
      ap (λ n. not (n == 0)) none

-- ---- events

-- the latest of some events and of those that are kept stand by class too
pub class-more : (host controller kept : List Event) → StandByClass host controller
    → StandByClass (latest (host ++ filter is_host_event kept)) (latest (controller ++ filter (λ (e : Event). not (is_host_event e)) kept))
class-more host controller kept h = record {
  host = All-drop (λ (e : Event). IsTrue (is_host_event e)) _ _ (All-append (λ (e : Event). IsTrue (is_host_event e)) host _ h.host (filter_passes is_host_event kept));
  controller = All-drop (λ (e : Event). IsTrue (not (is_host_event e))) _ _ (All-append (λ (e : Event). IsTrue (not (is_host_event e))) controller _ h.controller (filter_passes (λ (e : Event). not (is_host_event e)) kept));
}

not-false : (b : Bool) → not b ≡ false → b ≡ true
not-false true e = refl
not-false false e = absurd cc

false-not : (b : Bool) → b ≡ false → not b ≡ true
false-not true e = absurd cc
false-not false e = refl

not-true : (b : Bool) → not b ≡ true → b ≡ false
not-true true e = absurd cc
not-true false e = refl

-- events of which none stands with the other class stand by class, and conversely
classes-known : (host controller : List Event) → position (λ (e : Event). not (is_host_event e)) host ≡ None → position is_host_event controller ≡ None → StandByClass host controller
classes-known host controller none none_too = record {
  host = λ i d below. not-false (is_host_event (get_or host i d)) (none-at (λ (e : Event). not (is_host_event e)) host d none i below);
  controller = λ i d below. false-not (is_host_event (get_or controller i d)) (none-at is_host_event controller d none_too i below);
}

hosts-good : (host controller : List Event) → StandByClass host controller → position (λ (e : Event). not (is_host_event e)) host ≡ None
hosts-good host controller h = none-of-all (λ (e : Event). not (is_host_event e)) host (λ i d below. ap not (h.host i d below))

controllers-good : (host controller : List Event) → StandByClass host controller → position is_host_event controller ≡ None
controllers-good host controller h = none-of-all is_host_event controller (λ i d below. not-true (is_host_event (get_or controller i d)) (h.controller i d below))

-- ---- rows

none-first : (x y : Option ℕ) → or_else x y ≡ None → x ≡ None
none-first None y e = refl
none-first (Some x) y e = absurd cc

none-second : (x y : Option ℕ) → or_else x y ≡ None → y ≡ None
none-second None y e = e
none-second (Some x) y e = absurd cc

no-row : (first size : ℕ) (row : Option ℕ) → row_at first size row ≡ None → row ≡ None
no-row first size None e = refl
no-row first size (Some x) e = absurd cc

-- none of five is there
record AreNone (a b d e f : Option ℕ) : Type 0 where
  first : a ≡ None
  second : b ≡ None
  fourth : e ≡ None
  fifth : f ≡ None

none-each : (a b d e f : Option ℕ) → or_else a (or_else b (or_else d (or_else e f))) ≡ None → AreNone a b d e f
none-each a b d e f none =
    let behind = none-second a (or_else b (or_else d (or_else e f))) none in
    let last = none-second d (or_else e f) (none-second b (or_else d (or_else e f)) behind) in
    record { first = none-first a (or_else b (or_else d (or_else e f))) none; second = none-first b (or_else d (or_else e f)) behind; fourth = none-first e f last; fifth = none-second e f last }

-- rows of which none is bad are known
pub rows-known : (c : DriveConfig) (count : ℕ) (s : Summary) → bad_row c count s ≡ None → HasKnownRows count s
unfolding bad_row
rows-known c count s none =
    let stray : Option ℕ = position has_stray_bit (take count s.masks) in
    let any : Option ℕ = position has_any_bit (drop count s.masks) in
    let space : Option ℕ = bad_space count s.totals.position (full_budget c count) s.spaces in
    let host : Option ℕ = position (λ (e : Event). not (is_host_event e)) s.host_events in
    let controller : Option ℕ = position is_host_event s.controller_events in
    let h = none-each (row_at 112 1 stray) (row_at (112 + count) 1 any) (row_at 128 40 space) (row_at 832 64 host) (row_at 2880 64 controller) none in
    record {
      masks = masks-known count s.masks (no-row 112 1 stray h.first) (no-row (112 + count) 1 any h.second);
      events = classes-known s.host_events s.controller_events (no-row 832 64 host h.fourth) (no-row 2880 64 controller h.fifth);
    }

-- and of known rows none is bad but for a namespace
pub known-rows : (c : DriveConfig) (count : ℕ) (s : Summary) → HasKnownRows count s → bad_space count s.totals.position (full_budget c count) s.spaces ≡ None → bad_row c count s ≡ None
unfolding bad_row
known-rows c count s h none =
    all (masks-good count s.masks h.masks) (masks-empty count s.masks h.masks) none (hosts-good s.host_events s.controller_events h.events) (controllers-good s.host_events s.controller_events h.events)
  where
    all : {stray any space host controller : Option ℕ} → stray ≡ None → any ≡ None → space ≡ None → host ≡ None → controller ≡ None
        → or_else (row_at 112 1 stray) (or_else (row_at (112 + count) 1 any) (or_else (row_at 128 40 space) (or_else (row_at 832 64 host) (row_at 2880 64 controller)))) ≡ None
    all a b d e f = λ i. or_else (row_at 112 1 (a i)) (or_else (row_at (112 + count) 1 (b i)) (or_else (row_at 128 40 (d i)) (or_else (row_at 832 64 (e i)) (row_at 2880 64 (f i)))))
