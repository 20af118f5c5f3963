-- The printer's own words: the contracts of its private steps cite them, and no public one does.
use Rattle.std.specs.Prelude.{◌≡◌, ◌++◌, ◌∷◌, ℕ, List, flat_map}

-- the new text begins with the old one
pub record Extends (old new : List ℕ) : Type 0 where
  pub more : List ℕ
  pub whole : new ≡ old ++ more

-- words with a space in front of each
abbrev pub spaced_behind : List (List ℕ) → List ℕ
spaced_behind words = flat_map (λ word. 32 ∷ word) words
