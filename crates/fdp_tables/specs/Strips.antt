-- The places of a namespace in strips of sixteen, of which one without a block may be left out.
use Rattle.std.specs.Prelude.{ℕ, zero, suc, ◌/◌, ◌%◌, List, [], ◌∷◌, Option, option_and_then, slice_get}
use Rattle.std.specs.Option.{option_flatten}

-- what stands in a strip that may be left out
abbrev pub in_strip : {X : Type 0} → Option (List (Option X)) → ℕ → Option X
in_strip strip at = option_and_then (λ places. option_flatten (slice_get places at)) strip

-- what stands at a place of strips
abbrev pub in_strips : {X : Type 0} → List (Option (List (Option X))) → ℕ → Option X
in_strips strips place = in_strip (option_flatten (slice_get strips (place / 16))) (place % 16)

-- what a function says of the numbers below a bound, in a row
unfoldable pub table_of : {X : Type 0} → (ℕ → X) → ℕ → List X
table_of f zero = []
table_of f (suc n) = f 0 ∷ table_of (λ i. f (suc i)) n
