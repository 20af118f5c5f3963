-- An outline of what a drive may say is one that the drive saves.
use Rattle.std.proofs.Common.{◌≡◌, ◌≢◌, ℕ, suc, ◌-◌, ◌<◌, ◌≤◌, Bool, true, false, List, [], ◌∷◌, length, Option, Some, None, refl, ap, sym, ◌∙◌, arith, subst, not}
use Rattle.std.specs.Prelude.{◌==◌, ◌&&◌, ◌||◌, All, if◌then◌else◌, nat_lt, option_map, slice_get, slice_index}
use Rattle.std.specs.List.{list_all, list_any}
use Rattle.std.specs.Option.{option_and_then}
use Rattle.std.proofs.lemmas.Bool.{eqb-true, le-leb, lt-ltb}
use Rattle.std.proofs.lemmas.List.Elements.{All-head, All-tail}
use Rattle.std.proofs.lemmas.Option.{slice_get_within}
use Rattle.fdp_base.specs.declared.config.DriveConfig.{DriveConfig}
use Rattle.fdp_base.specs.declared.entry.Totals.{Totals}
use Rattle.fdp_base.specs.Config.{HasNoRepeat, IsHandleList}
use Rattle.fdp_base.specs.Numbers.{has_repeat}
use Rattle.fdp_base.specs.Placement.{full_budget, handle_count}
use Rattle.fdp_events.proofs.KnownRows.{known-rows}
use Rattle.fdp_image.specs.BadFields.{bad_field, bad_row, bad_space, may_stand}
use Rattle.fdp_image.specs.Checkpoint.{namespace_of, reading_of_state}
use Rattle.fdp_image.specs.Fits.{blocks_of_all, handles_in, is_handle_list}
use Rattle.fdp_image.specs.Reading.{Reading}
use Rattle.fdp_image.specs.Replacing.{IsSavedBy}
use Rattle.fdp_image.specs.Valid.{IsGoodNamespace}
use Rattle.fdp_rules.specs.PlainState.{Namespace}
use Rattle.fdp_snapshot.specs.declared.space.Space.{Space}
use Rattle.fdp_snapshot.specs.declared.state.Summary.{Summary}
use Rattle.fdp_snapshot.specs.Reading.{blocks_in}
use Rattle.fdp_outline.specs.Outline.{IsOutlineOf, IsWritable}
use Rattle.fdp_outline.proofs.Applying.{handles-said, namespaces-said}
use Rattle.fdp_outline.proofs.Paging.{is-id, one-less, outline-blocks}

-- ---- lists of handles

-- an element that differs from each of a list is not in it
none-equal : (x : ℕ) (xs : List ℕ) → ((k : ℕ) → k < length xs → x ≢ slice_index xs k) → list_any (λ y. y == x) xs ≡ false
none-equal x [] differ = refl
none-equal x (y ∷ ys) differ =
    both (y == x) (list_any (λ z. z == x) ys) (apart (y == x) refl) (none-equal x ys (λ k below. differ (suc k) (omega (arith, below))))
  where
    both : (a b : Bool) → a ≡ false → b ≡ false → (a || b) ≡ false
    both a b p q = ap (λ (d : Bool). d || b) p ∙ q

    apart : (b : Bool) → (y == x) ≡ b → (y == x) ≡ false
    apart false is = is
    apart true is = absurd (differ 0 (omega arith) (sym (eqb-true y x is)))

-- a list whose elements differ has no repeat
repeats-not : (xs : List ℕ) → HasNoRepeat xs → has_repeat xs ≡ false
unfolding has_repeat
repeats-not [] differ = refl
repeats-not (x ∷ xs) differ =
    ap (λ (b : Bool). b || has_repeat xs) (none-equal x xs (λ k below. differ 0 (suc k) (omega arith) (omega (arith, below))))
    ∙ repeats-not xs (λ i k less below. differ (suc i) (suc k) (omega (arith, less)) (omega (arith, below)))

all-below : (count : ℕ) (xs : List ℕ) → All (λ ruh. ruh < count) xs → list_all (λ ruh. nat_lt ruh count) xs ≡ true
all-below count [] all = refl
all-below count (x ∷ xs) all =
    ap (λ (b : Bool). b && list_all (λ ruh. nat_lt ruh count) xs) (lt-ltb x count (All-head (λ ruh. ruh < count) x xs all))
    ∙ all-below count xs (All-tail (λ ruh. ruh < count) x xs all)

-- a list of handles that a namespace may have passes its test
handles-good : (count : ℕ) (handles : List ℕ) → IsHandleList count handles → is_handle_list count handles ≡ true
handles-good count handles h =
    all-of (lt-ltb 0 (length handles) (omega (arith, h.number.0))) (le-leb (length handles) 16 h.number.1) (all-below count handles h.known) (ap not (repeats-not handles h.distinct))
  where
    all-of : {a b d e : Bool} → a ≡ true → b ≡ true → d ≡ true → e ≡ true → (a && b && d && e) ≡ true
    all-of a b d e = λ i. a i && b i && d i && e i

-- ---- namespaces

-- namespaces that there may be, and that have room together, are not bad
spaces-good : (count position room : ℕ) (xs : List (Option Space)) → ((k : ℕ) (x : Space) → slice_get xs k ≡ Some (Some x) → IsGoodNamespace count position (namespace_of x))
    → blocks_in xs ≤ room → bad_space count position room xs ≡ None
unfolding bad_space blocks_in
spaces-good count position room [] each few = refl
spaces-good count position room (None ∷ xs) each few = ap (option_map suc) (spaces-good count position room xs (λ k x at. each (suc k) x at) (omega (arith, few)))
spaces-good count position room (Some y ∷ xs) each few =
    let good = each 0 y refl in
    let rest : bad_space count position (room - y.size) xs ≡ None = spaces-good count position (room - y.size) xs (λ k x at. each (suc k) x at) (omega (arith, few)) in
    let stands : may_stand count position room y ≡ true = all-of (handles-good count y.handles good.list) (le-leb y.birth position good.born) (le-leb y.size room (omega (arith, few))) in
    ap (λ (b : Bool). if b then option_map suc (bad_space count position (room - y.size) xs) else Some 0) stands ∙ ap (option_map suc) rest
  where
    all-of : {a b d : Bool} → a ≡ true → b ≡ true → d ≡ true → (a && b && d) ≡ true
    all-of a b d = λ i. a i && b i && d i

-- a namespace in a place is one that is said
said-in-place : (c : DriveConfig) (r : Reading) (s : Summary) (k : ℕ) (x : Space) → IsOutlineOf c r s → length s.spaces ≡ 16 → slice_get s.spaces k ≡ Some (Some x) → r.namespaces (suc k) ≡ Some (namespace_of x)
said-in-place c r s k x h places at =
    let low : k < 16 = omega (arith, slice_get_within s.spaces k (Some x) at, places) in
    sym (namespaces-said c r s (suc k) h)
    ∙ ap (λ (b : Bool). option_map namespace_of (if b then option_and_then (λ (y : Option Space). y) (slice_get s.spaces (suc k - 1)) else None)) (is-id k low)
    ∙ ap (λ (i : ℕ). option_map namespace_of (option_and_then (λ (y : Option Space). y) (slice_get s.spaces i))) (one-less k)
    ∙ ap (λ (o : Option (Option Space)). option_map namespace_of (option_and_then (λ (y : Option Space). y) o)) at

-- ---- an outline

index-said : (c : DriveConfig) (r : Reading) (s : Summary) → IsOutlineOf c r s → s.index ≡ r.index
unfolding reading_of_state
index-said c r s h = ap (λ (x : Reading). x.index) h.says

field-none : (c : DriveConfig) (s : Summary) → s.index < length c.fdp → bad_row c (handle_count c s.enabled s.index) s ≡ None → bad_field c s ≡ None
unfolding bad_field
field-none c s index none = ap (λ (b : Bool). if b then bad_row c (handle_count c s.enabled s.index) s else Some 49) (lt-ltb s.index (length c.fdp) index) ∙ none

pub outline-saved : (c : DriveConfig) (r : Reading) (s : Summary) (lists : List (List (Option ℕ))) → IsOutlineOf c r s → IsWritable s → s.totals ≡ r.totals → r.index < length c.fdp
    → ((nsid : ℕ) (x : Namespace) → r.namespaces nsid ≡ Some x → IsGoodNamespace (handles_in c r) r.totals.position x) → blocks_of_all r ≤ full_budget c (handles_in c r)
    → IsSavedBy c (record { summary = s; pages = lists })
outline-saved c r s lists h w totals index namespaces room =
    let count : ℕ = handle_count c s.enabled s.index in
    let same : handles_in c r ≡ count = handles-said c r s h in
    let at : r.totals.position ≡ s.totals.position = ap (λ (t : Totals). t.position) (sym totals) in
    let good : (k : ℕ) (x : Space) → slice_get s.spaces k ≡ Some (Some x) → IsGoodNamespace count s.totals.position (namespace_of x) =
    λ k x there.
    subst (λ (n : ℕ). IsGoodNamespace n s.totals.position (namespace_of x)) same
    (subst (λ (n : ℕ). IsGoodNamespace (handles_in c r) n (namespace_of x)) at (namespaces (suc k) (namespace_of x) (said-in-place c r s k x h w.summary.places there))) in
    let few : blocks_in s.spaces ≤ full_budget c count = subst (λ (n : ℕ). blocks_in s.spaces ≤ full_budget c n) same (omega (arith, outline-blocks c r s h w.summary.places, room)) in
    record { sizes = h.sizes; fields = field-none c s (omega (arith, index, index-said c r s h)) (known-rows c count s h.rows (spaces-good count s.totals.position (full_budget c count) s.spaces good few)) }
