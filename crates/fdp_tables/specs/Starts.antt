-- Where the runs on one image begin among their entries.
use Rattle.std.specs.Prelude.{ℕ, ◌-◌, ◌≤◌, List, [], ◌∷◌, drop, take}

-- where the last of these runs begins, the first of which begins here
abbrev pub last_from : ℕ → List ℕ → ℕ
last_from from [] = from
last_from from (to ∷ starts) = last_from to starts

-- where the last run begins
abbrev pub start_of : List ℕ → ℕ
start_of starts = last_from 0 starts

-- no run begins before the one that it follows, and none behind so many entries
abbrev pub AreStarts : ℕ → List ℕ → ℕ → Type 0
AreStarts from [] count = from ≤ count
AreStarts from (to ∷ starts) count = (from ≤ to) × AreStarts to starts count

-- the entries of each run but the last, of which the first begins here
abbrev pub cut : {X : Type 0} → ℕ → List ℕ → List X → List (List X)
cut from [] xs = []
cut from (to ∷ starts) xs = take (to - from) (drop from xs) ∷ cut to starts xs
