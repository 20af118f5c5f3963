-- Runs of copies whose old pages lie in one unit and ascend, and the last run of a list.
use Rattle.std.proofs.Common.{◌≡◌, ◌<◌, Bool, true, false, cond, List, [], ◌∷◌, ◌++◌, refl, sym, ◌∙◌, ap, subst, arith, append_assoc}
use Rattle.std.specs.Prelude.{◌==◌, ◌&&◌, All, nat_lt}
use Rattle.std.proofs.lemmas.Bool.{and_from, and_parts, cond-false, cond-true, eq-eqb, eqb-true, false_from_ne_true, lt-ltb, ltb-true, true≢false}
use Rattle.std.proofs.lemmas.List.Elements.{All-append, All-cons, All-head, All-nil, All-tail, All-weaker}
use Rattle.fdp_rules.specs.Point.{Copy}
use Rattle.fdp_rules.specs.Sites.{ascends, last_run}

-- the old page of a copy lies in the same unit as that of another, and before it
pub record IsBefore (x y : Copy) : Type 0 where
  pub unit : x.from.unit ≡ y.from.unit
  pub page : x.from.page < y.from.page

abbrev goes_before : Copy → Copy → Bool
goes_before x y = (x.from.unit == y.from.unit) && nat_lt x.from.page y.from.page

before-is : (x y : Copy) → goes_before x y ≡ true → IsBefore x y
before-is x y e =
    let both = and_parts (x.from.unit == y.from.unit) (nat_lt x.from.page y.from.page) e in
    record { unit = eqb-true x.from.unit y.from.unit both.0; page = ltb-true x.from.page y.from.page both.1 }

is-before : (x y : Copy) → IsBefore x y → goes_before x y ≡ true
is-before x y h = and_from (x.from.unit == y.from.unit) (nat_lt x.from.page y.from.page) (eq-eqb x.from.unit y.from.unit h.unit) (lt-ltb x.from.page y.from.page h.page)

before-joined : (x y z : Copy) → IsBefore x y → IsBefore y z → IsBefore x z
before-joined x y z h k = record { unit = h.unit ∙ k.unit; page = omega (arith, h.page, k.page) }

-- ---- a run by its first two

ascends-parts : (x y : Copy) (xs : List Copy) → ascends (x ∷ y ∷ xs) ≡ true → IsBefore x y × (ascends (y ∷ xs) ≡ true)
ascends-parts x y xs e = let both = and_parts (goes_before x y) (ascends (y ∷ xs)) e in (before-is x y both.0, both.1)

ascends-from : (x y : Copy) (xs : List Copy) → IsBefore x y → ascends (y ∷ xs) ≡ true → ascends (x ∷ y ∷ xs) ≡ true
ascends-from x y xs h e = and_from (goes_before x y) (ascends (y ∷ xs)) (is-before x y h) e

pub ascends-tail : (x : Copy) (xs : List Copy) → ascends (x ∷ xs) ≡ true → ascends xs ≡ true
ascends-tail x [] e = refl
ascends-tail x (y ∷ xs) e = (ascends-parts x y xs e).1

-- ---- the parts of a run

ascends-front : (xs ys : List Copy) → ascends (xs ++ ys) ≡ true → ascends xs ≡ true
ascends-front [] ys e = refl
ascends-front (x ∷ []) ys e = refl
ascends-front (x ∷ y ∷ xs) ys e = let parts = ascends-parts x y (xs ++ ys) e in ascends-from x y xs parts.0 (ascends-front (y ∷ xs) ys parts.1)

pub ascends-back : (xs ys : List Copy) → ascends (xs ++ ys) ≡ true → ascends ys ≡ true
ascends-back [] ys e = e
ascends-back (x ∷ xs) ys e = ascends-back xs ys (ascends-tail x (xs ++ ys) e)

-- each of a run goes before its last
pub all-before : (xs : List Copy) (z : Copy) → ascends (xs ++ z ∷ []) ≡ true → All (λ (x : Copy). IsBefore x z) xs
all-before [] z e = All-nil (λ (x : Copy). IsBefore x z)
all-before (x ∷ []) z e = All-cons (λ (w : Copy). IsBefore w z) x [] (ascends-parts x z [] e).0 (All-nil (λ (w : Copy). IsBefore w z))
all-before (x ∷ y ∷ xs) z e =
    let parts = ascends-parts x y (xs ++ z ∷ []) e in
    let rest = all-before (y ∷ xs) z parts.1 in
    All-cons (λ (w : Copy). IsBefore w z) x (y ∷ xs) (before-joined x y z parts.0 (All-head (λ (w : Copy). IsBefore w z) y xs rest)) rest

-- each of its front goes before the first of its back
pub front-before : (xs : List Copy) (z : Copy) (zs : List Copy) → ascends (xs ++ z ∷ zs) ≡ true → All (λ (x : Copy). IsBefore x z) xs
front-before xs z zs e = all-before xs z (ascends-front (xs ++ z ∷ []) zs (subst (λ (l : List Copy). ascends l ≡ true) (sym (append_assoc xs (z ∷ []) zs)) e))

-- each goes behind its first
pub first-before : (x : Copy) (xs : List Copy) → ascends (x ∷ xs) ≡ true → All (IsBefore x) xs
first-before x [] e = All-nil (IsBefore x)
first-before x (y ∷ xs) e =
    let parts = ascends-parts x y xs e in
    All-cons (IsBefore x) y xs parts.0 (All-weaker (IsBefore y) (IsBefore x) (λ z h. before-joined x y z parts.0 h) xs (first-before y xs parts.1))

-- ---- a copy more

ascends-more : (xs : List Copy) (z : Copy) → ascends xs ≡ true → All (λ (x : Copy). IsBefore x z) xs → ascends (xs ++ z ∷ []) ≡ true
ascends-more [] z e h = refl
ascends-more (x ∷ []) z e h = ascends-from x z [] (All-head (λ (w : Copy). IsBefore w z) x [] h) refl
ascends-more (x ∷ y ∷ xs) z e h = let parts = ascends-parts x y xs e in ascends-from x y (xs ++ z ∷ []) parts.0 (ascends-more (y ∷ xs) z parts.1 (All-tail (λ (w : Copy). IsBefore w z) x (y ∷ xs) h))

-- a run goes on with a copy behind all of its back
pub ascends-on : (xs : List Copy) (y : Copy) (ys : List Copy) (z : Copy) → ascends (xs ++ (y ∷ ys)) ≡ true → All (λ (x : Copy). IsBefore x z) (y ∷ ys) → ascends ((xs ++ (y ∷ ys)) ++ z ∷ []) ≡ true
ascends-on xs y ys z e h =
    ascends-more (xs ++ (y ∷ ys)) z e
    (All-append (λ (x : Copy). IsBefore x z) xs (y ∷ ys)
    (All-weaker (λ (x : Copy). IsBefore x y) (λ (x : Copy). IsBefore x z) (λ x b. before-joined x y z b (All-head (λ (w : Copy). IsBefore w z) y ys h)) xs (front-before xs y ys e))
    h)

-- ---- the last run

pub run-ascends : (xs : List Copy) → ascends (last_run xs) ≡ true
run-ascends [] = refl
run-ascends (x ∷ xs) = (elim (ascends (x ∷ xs)) as (λ b. ascends (x ∷ xs) ≡ b → ascends (cond b (x ∷ xs) (last_run xs)) ≡ true) [ true ↦ λ e. e | false ↦ λ e. run-ascends xs ]) refl

run-whole : (xs : List Copy) → ascends xs ≡ true → last_run xs ≡ xs
run-whole [] e = refl
run-whole (x ∷ xs) e = cond-true (ascends (x ∷ xs)) (x ∷ xs) (last_run xs) e

-- the last run goes on with a copy more, or begins with it
abbrev GoesOn : List Copy → Copy → List Copy → Type 0
GoesOn xs z run = last_run (xs ++ z ∷ []) ≡ cond (ascends (run ++ z ∷ [])) (run ++ z ∷ []) (z ∷ [])

-- a run that does not go on with a copy has no end that does
broken : (x : Copy) (xs : List Copy) (z : Copy) → GoesOn xs z (last_run xs) → ascends (x ∷ xs) ≡ true → ascends (x ∷ (xs ++ z ∷ [])) ≡ false → last_run (xs ++ z ∷ []) ≡ z ∷ []
broken x [] z more e f = refl
broken x (y ∷ ys) z more e f =
    let parts = ascends-parts x y ys e in
    let ends : ascends ((y ∷ ys) ++ z ∷ []) ≡ false = false_from_ne_true (ascends ((y ∷ ys) ++ z ∷ [])) (λ goes. true≢false (sym (ascends-from x y (ys ++ z ∷ []) parts.0 goes) ∙ f)) in
    more
    ∙ ap (λ (l : List Copy). cond (ascends (l ++ z ∷ [])) (l ++ z ∷ []) (z ∷ [])) (run-whole (y ∷ ys) parts.1)
    ∙ cond-false (ascends ((y ∷ ys) ++ z ∷ [])) ((y ∷ ys) ++ z ∷ []) (z ∷ []) ends

pub run-more : (xs : List Copy) (z : Copy) → last_run (xs ++ z ∷ []) ≡ cond (ascends (last_run xs ++ z ∷ [])) (last_run xs ++ z ∷ []) (z ∷ [])
run-more [] z = refl
run-more (x ∷ xs) z =
    let rest : GoesOn xs z (last_run xs) = run-more xs z in
    (elim (ascends (x ∷ xs)) as (λ b. ascends (x ∷ xs) ≡ b → GoesOn (x ∷ xs) z (cond b (x ∷ xs) (last_run xs))) [
      | true ↦ λ e. (elim (ascends (x ∷ (xs ++ z ∷ []))) as (λ b. ascends (x ∷ (xs ++ z ∷ [])) ≡ b → cond b (x ∷ (xs ++ z ∷ [])) (last_run (xs ++ z ∷ [])) ≡ cond b (x ∷ (xs ++ z ∷ [])) (z ∷ [])) [
        | true ↦ λ f. refl
        | false ↦ λ f. broken x xs z rest e f
      ]) refl
      | false ↦ λ e.
          let ends : ascends (x ∷ (xs ++ z ∷ [])) ≡ false = false_from_ne_true (ascends (x ∷ (xs ++ z ∷ []))) (λ goes. true≢false (sym (ascends-front (x ∷ xs) (z ∷ []) goes) ∙ e)) in
          cond-false (ascends (x ∷ (xs ++ z ∷ []))) (x ∷ (xs ++ z ∷ [])) (last_run (xs ++ z ∷ [])) ends ∙ rest
    ]) refl
