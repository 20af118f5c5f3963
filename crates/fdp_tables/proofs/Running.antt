-- Where the last run begins, and the entries of each.
use Rattle.std.proofs.Common.{◌≡◌, ℕ, zero, suc, ◌+◌, ◌-◌, List, [], ◌∷◌, length, get_or, drop, refl, arith}
use Rattle.std.proofs.lemmas.List.{length-drop}
use Rattle.fdp_tables.specs.Starts.{last_from, start_of}

last_at : (from x i d : ℕ) (xs : List ℕ) → i ≡ length xs → get_or (x ∷ xs) i d ≡ last_from from (x ∷ xs)
last_at from x zero d [] e = refl
last_at from x zero d (y ∷ xs) e = absurd (omega (arith, e))
last_at from x (suc i) d [] e = absurd (omega (arith, e))
last_at from x (suc i) d (y ∷ xs) e = last_at x y i d xs (omega (arith, e))

-- the last run begins where the last of the starts says
pub last_read : (xs : List ℕ) (i d : ℕ) → i + 1 ≡ length xs → get_or xs i d ≡ start_of xs
last_read [] i d e = absurd (omega (arith, e))
last_read (x ∷ xs) i d e = last_at 0 x i d xs (omega (arith, e))

-- as many entries are the last run's own as are left behind its start
pub own_count : {X : Type 0} (start : ℕ) (xs : List X) → length (drop start xs) ≡ length xs - start
own_count start xs = length-drop start xs
