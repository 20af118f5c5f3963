-- Events put behind those of an outline.
use Rattle.std.proofs.Common.{◌≡◌, ℕ, zero, suc, ◌+◌, Bool, true, false, not, List, [], ◌∷◌, ◌++◌, length, refl, sym, ◌∙◌, ap, arith, append_assoc, add-one, zero-add, filter, flat_map, map}
use Rattle.std.specs.Prelude.{All, None, Some, if◌then◌else◌, slice_get}
use Rattle.std.proofs.lemmas.List.{append-nil}
use Rattle.std.proofs.lemmas.Grind.{flat_map-append}
use Rattle.std.proofs.lemmas.List.Elements.{All-append, All-cons, All-drop, All-filter, All-nil, filter-append}
use Rattle.fdp_base.specs.declared.event.Event.{Event}
use Rattle.fdp_events.proofs.Latest.{few-latest, latest-few}
use Rattle.fdp_base.specs.Numbers.{numbers_below, numbers_from}
use Rattle.fdp_base.specs.declared.entry.BlockName.{BlockName}
use Rattle.fdp_base.specs.declared.event.EventKind.TheVariants as kinds
use Rattle.fdp_rules.specs.Events.{is_host_event, latest, nsid_and_location_valid, reallocated, told_moved}
use Rattle.fdp_rules.specs.PlainState.{PlainState}
use Rattle.fdp_rules.proofs.Pushes.{latest-append}
use Rattle.fdp_image.specs.Checkpoint.{reports_in}
use Rattle.fdp_snapshot.specs.declared.state.Summary.{Summary}
use Rattle.fdp_snapshot.specs.Events.{IsPlain}
use Rattle.fdp_snapshot.specs.Fixed.{IsSummary}
use Rattle.fdp_outline.specs.Events.{kept_by, with_events, with_kept}
use Rattle.fdp_outline.specs.Outline.{IsWritable}

-- ---- events of an outline

none-kept : (s : Summary) → IsSummary s → s ≡ with_kept s []
unfolding with_kept
none-kept s fits =
    let host : s.host_events ≡ latest (s.host_events ++ []) = latest-few s.host_events fits.host_count in
    let controller : s.controller_events ≡ latest (s.controller_events ++ []) = latest-few s.controller_events fits.controller_count in
    ap (λ (xs : List Event). record s { host_events = xs }) host
    ∙ ap (λ (xs : List Event). record s { host_events = latest (s.host_events ++ []); controller_events = xs }) controller

-- no event
pub none-more : (s : Summary) → IsSummary s → s ≡ with_events s []
none-more s fits = none-kept s fits

kept-one : (s : Summary) (e : Event) (b : Bool) → reports_in s.masks e.ruh e.kind ≡ b → kept_by s (e ∷ []) ≡ (if b then e ∷ [] else [])
kept-one s e b is = ap (λ (x : Bool). if x then e ∷ [] else []) is

-- an event whose kind is not kept
pub not-kept : (s : Summary) → IsSummary s → (e : Event) → reports_in s.masks e.ruh e.kind ≡ false → s ≡ with_events s (e ∷ [])
not-kept s fits e is = none-kept s fits ∙ ap (with_kept s) (sym (kept-one s e false is))

-- an event of each class
host-kept : (s : Summary) → IsSummary s → (e : Event) → is_host_event e ≡ true → record s { host_events = latest (s.host_events ++ e ∷ []) } ≡ with_kept s (e ∷ [])
unfolding with_kept
host-kept s fits e is =
    let mine : e ∷ [] ≡ filter is_host_event (e ∷ []) = sym (ap (λ (x : Bool). if x then e ∷ [] else []) is) in
    let other : [] ≡ filter (λ x. not (is_host_event x)) (e ∷ []) = sym (ap (λ (x : Bool). if not x then e ∷ [] else []) is) in
    let controller : s.controller_events ≡ latest (s.controller_events ++ filter (λ x. not (is_host_event x)) (e ∷ [])) = latest-few s.controller_events fits.controller_count ∙ ap (λ (xs : List Event). latest (s.controller_events ++ xs)) other in
    ap (λ (xs : List Event). record s { host_events = latest (s.host_events ++ xs) }) mine
    ∙ ap (λ (xs : List Event). record s { host_events = latest (s.host_events ++ filter is_host_event (e ∷ [])); controller_events = xs }) controller

controller-kept : (s : Summary) → IsSummary s → (e : Event) → is_host_event e ≡ false → record s { controller_events = latest (s.controller_events ++ e ∷ []) } ≡ with_kept s (e ∷ [])
unfolding with_kept
controller-kept s fits e is =
    let mine : e ∷ [] ≡ filter (λ x. not (is_host_event x)) (e ∷ []) = sym (ap (λ (x : Bool). if not x then e ∷ [] else []) is) in
    let other : [] ≡ filter is_host_event (e ∷ []) = sym (ap (λ (x : Bool). if x then e ∷ [] else []) is) in
    let host : s.host_events ≡ latest (s.host_events ++ filter is_host_event (e ∷ [])) = latest-few s.host_events fits.host_count ∙ ap (λ (xs : List Event). latest (s.host_events ++ xs)) other in
    ap (λ (xs : List Event). record s { controller_events = latest (s.controller_events ++ xs) }) mine
    ∙ ap (λ (xs : List Event). record s { host_events = xs; controller_events = latest (s.controller_events ++ filter (λ x. not (is_host_event x)) (e ∷ [])) }) host

pub host-more : (s : Summary) → IsSummary s → (e : Event) → reports_in s.masks e.ruh e.kind ≡ true → is_host_event e ≡ true → record s { host_events = latest (s.host_events ++ e ∷ []) } ≡ with_events s (e ∷ [])
host-more s fits e kept is = host-kept s fits e is ∙ ap (with_kept s) (sym (kept-one s e true kept))

pub controller-more : (s : Summary) → IsSummary s → (e : Event) → reports_in s.masks e.ruh e.kind ≡ true → is_host_event e ≡ false → record s { controller_events = latest (s.controller_events ++ e ∷ []) } ≡ with_events s (e ∷ [])
controller-more s fits e kept is = controller-kept s fits e is ∙ ap (with_kept s) (sym (kept-one s e true kept))

class-more : (test : Event → Bool) (old xs ys : List Event) → latest (latest (old ++ filter test xs) ++ filter test ys) ≡ latest (old ++ filter test (xs ++ ys))
class-more test old xs ys =
    sym (latest-append (old ++ filter test xs) (filter test ys))
    ∙ ap latest (append_assoc old (filter test xs) (filter test ys) ∙ ap (λ (zs : List Event). old ++ zs) (sym (filter-append test xs ys)))

kept-more : (s : Summary) (xs ys : List Event) → with_kept (with_kept s xs) ys ≡ with_kept s (xs ++ ys)
unfolding with_kept
kept-more s xs ys =
    ap (λ (zs : List Event). record s { host_events = zs; controller_events = latest (latest (s.controller_events ++ filter (λ x. not (is_host_event x)) xs) ++ filter (λ x. not (is_host_event x)) ys) }) (class-more is_host_event s.host_events xs ys)
    ∙ ap (λ (zs : List Event). record s { host_events = latest (s.host_events ++ filter is_host_event (xs ++ ys)); controller_events = zs }) (class-more (λ x. not (is_host_event x)) s.controller_events xs ys)

masks-stay : (s : Summary) (xs : List Event) → (with_kept s xs).masks ≡ s.masks
unfolding with_kept
masks-stay s xs = refl

-- events and then more
pub events-more : (s : Summary) (xs ys : List Event) → with_events (with_events s xs) ys ≡ with_events s (xs ++ ys)
events-more s xs ys =
    ap (λ (ms : List ℕ). with_kept (with_events s xs) (filter (λ (x : Event). reports_in ms x.ruh x.kind) ys)) (masks-stay s (kept_by s xs))
    ∙ kept-more s (kept_by s xs) (kept_by s ys)
    ∙ ap (with_kept s) (sym (filter-append (λ (x : Event). reports_in s.masks x.ruh x.kind) xs ys))

-- ---- events of numbers, one number after another

numbers-more : (first n : ℕ) → numbers_from first (suc n) ≡ numbers_from first n ++ (first + n) ∷ []
unfolding numbers_from
numbers-more first zero = let e : first ≡ first + 0 = omega arith in ap (λ (k : ℕ). k ∷ []) e
numbers-more first (suc n) =
    let e : first + 1 + n ≡ first + suc n = omega arith in
    ap (λ (xs : List ℕ). first ∷ xs) (numbers-more (first + 1) n ∙ ap (λ (k : ℕ). numbers_from (first + 1) n ++ k ∷ []) e)

pub below-more : (n : ℕ) → numbers_below (n + 1) ≡ numbers_below n ++ n ∷ []
below-more n = ap (numbers_from 0) (add-one n) ∙ numbers-more 0 n ∙ ap (λ (k : ℕ). numbers_below n ++ k ∷ []) (zero-add n)

-- the events of the numbers below one were kept
pub record AreKept (g : ℕ → List Event) (old : Summary) (n : ℕ) (now : Summary) : Type 0 where
  pub is : now ≡ with_events old (flat_map g (numbers_below n))

pub kept-none : (g : ℕ → List Event) (s : Summary) → IsSummary s → AreKept g s 0 s
unfolding numbers_from
kept-none g s fits = record { is = none-more s fits }

pub kept-next : (g : ℕ → List Event) (old now new : Summary) (n : ℕ) → new ≡ with_events now (g n) → AreKept g old n now → AreKept g old (n + 1) new
kept-next g old now new n more before = record {
  is =
      more
      ∙ ap (λ (s : Summary). with_events s (g n)) before.is
      ∙ events-more old (flat_map g (numbers_below n)) (g n)
      ∙ ap (with_events old)
      (sym (ap (flat_map g) (below-more n) ∙ flat_map-append g (numbers_below n) (n ∷ []) ∙ ap (λ (xs : List Event). flat_map g (numbers_below n) ++ xs) (append-nil (g n))));
}

-- one event for each number
pub flat-one : (f : ℕ → Event) (ns : List ℕ) → flat_map (λ n. f n ∷ []) ns ≡ map f ns
flat-one f [] = refl
flat-one f (n ∷ ns) = ap (λ (xs : List Event). f n ∷ xs) (flat-one f ns)

-- ---- what stays writable

pub writable-more : (s : Summary) (es : List Event) → IsWritable s → All IsPlain es → IsWritable (with_events s es)
unfolding with_kept
writable-more s es w plain =
    let mine = All-filter (λ (x : Event). reports_in s.masks x.ruh x.kind) IsPlain es plain in
    record {
      summary = record {
        configurations = w.summary.configurations;
        places = w.summary.places;
        spaces = w.summary.spaces;
        host_count = few-latest (s.host_events ++ filter is_host_event (kept_by s es));
        controller_count = few-latest (s.controller_events ++ filter (λ x. not (is_host_event x)) (kept_by s es));
      };
      host_events = All-drop IsPlain _ _ (All-append IsPlain s.host_events _ w.host_events (All-filter is_host_event IsPlain (kept_by s es) mine));
      controller_events = All-drop IsPlain _ _ (All-append IsPlain s.controller_events _ w.controller_events (All-filter (λ (x : Event). not (is_host_event x)) IsPlain (kept_by s es) mine));
    }

pub plain-one : (e : Event) → IsPlain e → All IsPlain (e ∷ [])
plain-one e plain = All-cons IsPlain e [] plain (All-nil IsPlain)

-- ---- events of moved blocks

-- the kind is not kept for the handle
pub unreported : (s : Summary) → IsSummary s → (p : PlainState) (rg ruh : ℕ) (bs : List BlockName) → reports_in s.masks ruh kinds.MediaReallocated ≡ false → s ≡ with_events s (reallocated p rg ruh bs)
unreported s fits p rg ruh [] is = none-more s fits
unreported s fits p rg ruh (b ∷ bs) is = not-kept s fits (record { kind = kinds.MediaReallocated; flags = nsid_and_location_valid; pid = 0; position = p.position + 1; nsid = b.nsid; moved = told_moved (length (b ∷ bs)); lba = b.lba; rg = rg; ruh = ruh }) is

-- no block was moved
pub unmoved : (s : Summary) → IsSummary s → (p : PlainState) (rg ruh : ℕ) (bs : List BlockName) → slice_get bs 0 ≡ None → s ≡ with_events s (reallocated p rg ruh bs)
unmoved s fits p rg ruh [] none = none-more s fits
unmoved s fits p rg ruh (b ∷ bs) none = absurd (some-none b none) where
  some-none : (x : BlockName) → Some x ≡ None → ⊥
  some-none x e = cc

abbrev told : ℕ → ℕ → ℕ → ℕ → BlockName → List Event
told rg ruh n position x = record { kind = kinds.MediaReallocated; flags = nsid_and_location_valid; pid = 0; position = position; nsid = x.nsid; moved = told_moved n; lba = x.lba; rg = rg; ruh = ruh } ∷ []

-- the event of moved blocks, of which this is the first
pub moved-event : (p : PlainState) (rg ruh : ℕ) (bs : List BlockName) (first : BlockName) (count : ℕ) → slice_get bs 0 ≡ Some first → count ≡ length bs → (position : ℕ) → p.position + 1 ≡ position
    → record { kind = kinds.MediaReallocated; flags = nsid_and_location_valid; pid = 0; position = position; nsid = first.nsid; moved = told_moved count; lba = first.lba; rg = rg; ruh = ruh } ∷ [] ≡ reallocated p rg ruh bs
moved-event p rg ruh [] first count is all position at = absurd (none-some first is) where
  none-some : (x : BlockName) → None ≡ Some x → ⊥
  none-some x e = cc
moved-event p rg ruh (b ∷ bs) first count is all position at =
    let same : b ≡ first = one is in
    ap (λ (n : ℕ). told rg ruh n position first) all ∙ ap (λ (n : ℕ). told rg ruh (length (b ∷ bs)) n first) (sym at) ∙ ap (told rg ruh (length (b ∷ bs)) (p.position + 1)) (sym same) where
      one : Some b ≡ Some first → b ≡ first
      one e = cc
