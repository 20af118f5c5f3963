-- A page list without pages, one address after another.
use Rattle.std.proofs.Common.{◌≡◌, ℕ, zero, suc, [], ◌∷◌, ◌++◌, ◌+◌, List, length, Option, None, refl, ap, ◌∙◌, length-append}
use Rattle.fdp_state.specs.Parts.{row}

-- so many addresses, none of which has a page
pub record IsBlank (i : ℕ) (list : List (Option ℕ)) : Type 0 where
  pub size : length list ≡ i
  pub rows : (k : ℕ) → row list k ≡ None

pub blank_none : (list : List (Option ℕ)) → list ≡ [] → IsBlank 0 list
blank_none list e = record { size = ap length e; rows = λ k. ap (λ (xs : List (Option ℕ)). row xs k) e }

none-behind : (list : List (Option ℕ)) → ((k : ℕ) → row list k ≡ None) → (k : ℕ) → row (list ++ None ∷ []) k ≡ None
none-behind [] h zero = refl
none-behind [] h (suc k) = refl
none-behind (x ∷ xs) h zero = h 0
none-behind (x ∷ xs) h (suc k) = none-behind xs (λ j. h (suc j)) k

pub blank_more : (i : ℕ) (list more : List (Option ℕ)) → more ≡ list ++ None ∷ [] → IsBlank i list → IsBlank (i + 1) more
blank_more i list more e h = record {
  size = ap length e ∙ length-append list (None ∷ []) ∙ ap (λ n. n + 1) h.size;
  rows = λ k. ap (λ (xs : List (Option ℕ)). row xs k) e ∙ none-behind list h.rows k;
}
