-- Something is looked for in each element of a list.
use mathlib.Core.Bool.{true≢false}
use Rattle.std.specs.Bool.{Decides}
use Rattle.std.proofs.Common.{true, false, refl, ◌≡◌, ℕ, ◌+◌, ◌<◌, ◌≤◌, List, Some, length, get_or, slice_get, subst, sym, ◌∙◌, ap, arith, ⊎_elim}
use Rattle.std.proofs.Math.Nat.{eq-or-lt_of_le}
use Rattle.fdp_plain_judge.specs.Judging.{EachIn}
use Rattle.std.proofs.lemmas.Option.{slice_get-get_or, slice_get_within}

module _ {X : Type 0} (P : X → Type 0) where
  -- it holds of each of the first n
  abbrev pub EachBefore : List X → ℕ → Type 0
  EachBefore xs n = (i : ℕ) (x : X) → i < n → slice_get xs i ≡ Some x → P x

  pub each_at_first : (xs : List X) → EachBefore xs 0
  each_at_first xs i x below e = absurd (omega arith)

  pub each_next : (xs : List X) (n : ℕ) (d : X) → n < length xs → P (get_or xs n d) → EachBefore xs n → EachBefore xs (n + 1)
  each_next xs n d within holds before i x below e =
      let within_now : i ≤ n = omega arith in
      ⊎_elim
      (λ (is : i ≡ n).
      let here : slice_get xs n ≡ Some x = ap (λ (k : ℕ). slice_get xs k) (sym is) ∙ e in
      let there : slice_get xs n ≡ Some (get_or xs n d) = slice_get-get_or xs n d within in
      let same : get_or xs n d ≡ x = cc in
      subst P same holds)
      (λ (lt : i < n). before i x lt e)
      (eq-or-lt_of_le within_now)

  pub each_at_last : (xs : List X) (n : ℕ) → length xs ≤ n → EachBefore xs n → EachIn P xs
  each_at_last xs n all before i x e = before i x (omega (arith, slice_get_within xs i x e)) e

  -- it holds of the element at a place
  pub at_place : (xs : List X) (n : ℕ) (d : X) → n < length xs → EachIn P xs → P (get_or xs n d)
  at_place xs n d within each = each n (get_or xs n d) (slice_get-get_or xs n d within)

  -- the answer of a search that ended at an element of which it does not hold, or behind the last
  pub not_each : (xs : List X) (n : ℕ) (d : X) → n < length xs → (P (get_or xs n d) → ⊥) → Decides false (EachIn P xs)
  not_each xs n d within fails = (λ (e : false ≡ true). absurd (true≢false (sym e)), λ (each : EachIn P xs). absurd (fails (at_place xs n d within each)))

  pub each : (xs : List X) (n : ℕ) → length xs ≤ n → EachBefore xs n → Decides true (EachIn P xs)
  each xs n all before = (λ _. each_at_last xs n all before, λ _. refl)

  -- the same of an element by its name
  pub each_next_item : (xs : List X) (n : ℕ) (x : X) → n < length xs → x ≡ get_or xs n x → P x → EachBefore xs n → EachBefore xs (n + 1)
  each_next_item xs n x within is holds before = each_next xs n x within (subst P is holds) before

  pub not_each_item : (xs : List X) (n : ℕ) (x : X) → n < length xs → x ≡ get_or xs n x → (P x → ⊥) → Decides false (EachIn P xs)
  not_each_item xs n x within is fails = not_each xs n x within (λ p. fails (subst P (sym is) p))
