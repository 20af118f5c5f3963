-- What a drive tells of itself behind the completions.
use Rattle.std.proofs.Common.{◌≡◌, ◌⊎◌, ℕ, zero, suc, ◌+◌, ◌-◌, ◌<◌, ◌≤◌, Bool, true, false, if◌then◌else◌, get_or, take, List, [], ◌∷◌, ◌++◌, length, map, refl, ap, sym, ◌∙◌, arith, None, Some, inl, inr}
use Rattle.std.specs.Prelude.{Option, filter, not, slice_get}
use Rattle.std.proofs.lemmas.List.{length-drop, take_all, take_more}
use Rattle.std.proofs.lemmas.Option.{slice_get_cases}
use Rattle.fdp_base.specs.declared.config.DriveConfig.{DriveConfig}
use Rattle.fdp_base.specs.declared.entry.Entry.{Entry}
use Rattle.fdp_base.specs.declared.event.Event.{Event}
use Rattle.fdp_base.specs.Numbers.{numbers_from}
use Rattle.fdp_printing.specs.Closing.{events_of as kept_in}
use Rattle.fdp_rules.specs.Events.{is_host_event, latest}
use Rattle.fdp_rules.specs.History.{Found, controller_events_of, events_of, host_events_of, point_of, totals_of}

same_item : (x y : Event) (o : Option Event) → o ≡ Some x → o ≡ Some y → x ≡ y
same_item x y o p q = cc

not_both : (x : Event) (o : Option Event) → o ≡ None → o ≡ Some x → ⊥
not_both x o p q = cc

-- one event more
pub event_more : (xs got : List Event) (i : ℕ) (x : Event) → got ≡ take i xs → slice_get xs i ≡ Some x → got ++ x ∷ [] ≡ take (i + 1) xs
event_more xs got i x front at = by (slice_get_cases xs i).1 where
  by : ((y : Event) × (i < length xs) × (slice_get xs i ≡ Some y) × (get_or xs i y ≡ y)) ⊎ ((length xs ≤ i) × (slice_get xs i ≡ None)) → got ++ x ∷ [] ≡ take (i + 1) xs
  by (inl some) =
      let same = same_item x some.0 (slice_get xs i) at some.2 in
      ap (λ (ys : List Event). ys ++ x ∷ []) front ∙ ap (λ (y : Event). take i xs ++ y ∷ []) (same ∙ sym some.3) ∙ sym (take_more xs i some.0 some.1)
  by (inr none) = absurd (not_both x (slice_get xs i) none.1 at)

-- no event more
pub event_none : (xs got : List Event) (i : ℕ) → got ≡ take i xs → slice_get xs i ≡ None → got ≡ take (i + 1) xs
event_none xs got i front at = by (slice_get_cases xs i).1 where
  by : ((y : Event) × (i < length xs) × (slice_get xs i ≡ Some y) × (get_or xs i y ≡ y)) ⊎ ((length xs ≤ i) × (slice_get xs i ≡ None)) → got ≡ take (i + 1) xs
  by (inl some) = absurd (not_both some.0 (slice_get xs i) at some.2)
  by (inr none) = front ∙ take_all i xs none.0 ∙ sym (take_all (i + 1) xs (omega (arith, none.0)))

-- no more events are there
pub latest-ended : (xs got : List Event) (n : ℕ) → length xs ≤ n → got ≡ take n xs → got ≡ xs
latest-ended xs got n end front = front ∙ take_all n xs end

-- one number more
pub numbers_more : (f : ℕ → ℕ) (first n : ℕ) → map f (numbers_from first (n + 1)) ≡ map f (numbers_from first n) ++ f (first + n) ∷ []
unfolding numbers_from
numbers_more f first zero = let e : first ≡ first + 0 = omega arith in ap (λ (k : ℕ). f k ∷ []) e
numbers_more f first (suc n) =
    let e : first + 1 + n ≡ first + suc n = omega arith in
    let m : suc n + 1 ≡ suc (n + 1) = omega arith in
    ap (λ (k : ℕ). map f (numbers_from first k)) m
    ∙ ap (λ (ys : List ℕ). f first ∷ ys) (numbers_more f (first + 1) n ∙ ap (λ (k : ℕ). map f (numbers_from (first + 1) n) ++ f k ∷ []) e)

-- no number yet
pub numbers_none : (f : ℕ → ℕ) (got : List ℕ) → got ≡ [] → got ≡ map f (numbers_from 0 0)
unfolding numbers_from
numbers_none f got none = none

same_number : (x y : ℕ) → Some x ≡ Some y → x ≡ y
same_number x y p = cc

told_number : (b : Bool) (x y : ℕ) → Some x ≡ (if b then Some y else None) → x ≡ y
told_number true x y p = same_number x y p
told_number false x y p = absurd cc

-- the usage of one handle more
pub usage_more : (f : ℕ → ℕ) (n : ℕ) (b : Bool) (x : ℕ) (got more : List ℕ) → got ≡ map f (numbers_from 0 n) → Some x ≡ (if b then Some (f n) else None) → more ≡ got ++ x ∷ [] → more ≡ map f (numbers_from 0 (n + 1))
usage_more f n b x got more before told pushed =
    let start : n ≡ 0 + n = omega arith in
    pushed
    ∙ ap (λ (ys : List ℕ). ys ++ x ∷ []) before
    ∙ ap (λ (y : ℕ). map f (numbers_from 0 n) ++ y ∷ []) (told_number b x (f n) told)
    ∙ ap (λ (k : ℕ). map f (numbers_from 0 n) ++ f k ∷ []) start
    ∙ sym (numbers_more f 0 n)

few-latest : (xs : List Event) → length (latest xs) ≤ 32
few-latest xs = omega (arith, length-drop (length xs - 32) xs)

-- of the events that are kept there are at most 32 of each class
pub few-told : (host : Bool) (c : DriveConfig) (f : Found) (es : List Entry) → length (kept_in host (point_of c f es)) ≤ 32
unfolding point_of host_events_of controller_events_of
few-told true c f es = few-latest (f.host_events ++ filter is_host_event (events_of c f es))
few-told false c f es = few-latest (f.controller_events ++ filter (λ e. not (is_host_event e)) (events_of c f es))

-- the sums at the end of a history
pub totals-told : (c : DriveConfig) (f : Found) (es : List Entry) → totals_of f es ≡ (point_of c f es).totals
unfolding point_of
totals-told c f es = refl
