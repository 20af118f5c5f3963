-- The entries of the runs on one image, cut from all entries.
use Rattle.std.proofs.Common.{◌≡◌, ℕ, ◌-◌, ◌≤◌, List, [], ◌∷◌, ◌++◌, length, take, drop, refl, ap, ◌∙◌, arith}
use Rattle.std.proofs.lemmas.List.{drop-append-le, length-drop, take-append-le}
use Rattle.fdp_tables.specs.Starts.{AreStarts, cut, last_from}

-- a run begins behind no more entries than there are
pub starts_from : (from : ℕ) (starts : List ℕ) (n : ℕ) → AreStarts from starts n → from ≤ n
starts_from from [] n h = h
starts_from from (to ∷ starts) n h = omega (arith, h.0, starts_from to starts n h.1)

pub starts_below : (from : ℕ) (starts : List ℕ) (n : ℕ) → AreStarts from starts n → last_from from starts ≤ n
starts_below from [] n h = h
starts_below from (to ∷ starts) n h = starts_below to starts n h.1

-- with more entries
pub starts_still : (from : ℕ) (starts : List ℕ) (n m : ℕ) → n ≤ m → AreStarts from starts n → AreStarts from starts m
starts_still from [] n m more h = omega (arith, more, h)
starts_still from (to ∷ starts) n m more h = (h.0, starts_still to starts n m more h.1)

-- with a run more, which begins behind all entries
pub starts_more : (from : ℕ) (starts : List ℕ) (n : ℕ) → AreStarts from starts n → AreStarts from (starts ++ n ∷ []) n
starts_more from [] n h = (h, omega arith)
starts_more from (to ∷ starts) n h = (h.0, starts_more to starts n h.1)

pub last_more : (from : ℕ) (starts : List ℕ) (n : ℕ) → last_from from (starts ++ n ∷ []) ≡ n
last_more from [] n = refl
last_more from (to ∷ starts) n = last_more to starts n

module _ {X : Type 0} where
  piece_push : (from to : ℕ) (xs ys : List X) → from ≤ to → to ≤ length xs → take (to - from) (drop from (xs ++ ys)) ≡ take (to - from) (drop from xs)
  piece_push from to xs ys up below =
      ap (λ (zs : List X). take (to - from) zs) (drop-append-le from xs ys (omega (arith, up, below)))
      ∙ take-append-le (to - from) (drop from xs) ys (omega (arith, length-drop from xs, below))

  -- more entries are those of the last run
  pub cut_push : (from : ℕ) (starts : List ℕ) (xs ys : List X) → AreStarts from starts (length xs) → cut from starts (xs ++ ys) ≡ cut from starts xs
  cut_push from [] xs ys h = refl
  cut_push from (to ∷ starts) xs ys h =
      ap (λ (zs : List X). zs ∷ cut to starts (xs ++ ys)) (piece_push from to xs ys h.0 (starts_from to starts (length xs) h.1))
      ∙ ap (λ (zss : List (List X)). take (to - from) (drop from xs) ∷ zss) (cut_push to starts xs ys h.1)

  pub own_push : (starts : List ℕ) (xs ys : List X) → AreStarts 0 starts (length xs) → drop (last_from 0 starts) (xs ++ ys) ≡ drop (last_from 0 starts) xs ++ ys
  own_push starts xs ys h = drop-append-le (last_from 0 starts) xs ys (starts_below 0 starts (length xs) h)

  -- the entries of the last run become those of an earlier one
  pub cut_more : (from : ℕ) (starts : List ℕ) (n : ℕ) (xs : List X) → cut from (starts ++ n ∷ []) xs ≡ cut from starts xs ++ take (n - last_from from starts) (drop (last_from from starts) xs) ∷ []
  cut_more from [] n xs = refl
  cut_more from (to ∷ starts) n xs = ap (λ (zss : List (List X)). take (to - from) (drop from xs) ∷ zss) (cut_more to starts n xs)
