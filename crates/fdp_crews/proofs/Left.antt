-- What came back so far, and how those ended who came back.
use Rattle.std.proofs.Common.{◌≡◌, ◌≢◌, ◌⊎◌, inl, inr, ℕ, zero, suc, ◌<◌, List, [], ◌∷◌, ◌++◌, length, refl, sym, ◌∙◌, ap, append_assoc, length-append, arith}
use Rattle.std.specs.Prelude.{map, slice_index_or}
use mathlib.Core.List.{map-append}
use Rattle.fdp_workers.specs.declared.ends.End.{End}
use Rattle.fdp_workers.specs.declared.ends.End.TheVariants as ends
use Rattle.fdp_crews.specs.Leaving.{IsSomeNotWhole}

-- one more was put behind
pub put-more : {X Y : Type 0} (f : X → Y) (before now more : List Y) (ys : List X) (y : X) → now ≡ before ++ map f ys → more ≡ now ++ f y ∷ [] → more ≡ before ++ map f (ys ++ y ∷ [])
put-more f before now more ys y is pushed =
    pushed ∙ ap (λ zs. zs ++ f y ∷ []) is ∙ append_assoc before (map f ys) (f y ∷ []) ∙ ap (λ zs. before ++ zs) (sym (map-append f ys (y ∷ [])))

end-cases : (e : End) → (e ≡ ends.Whole) ⊎ (e ≢ ends.Whole)
end-cases ends.Whole = inl refl
end-cases ends.NoMemory = inr (λ same. absurd cc)
end-cases ends.Turns = inr (λ same. absurd cc)

earlier : (xs : List End) (x d : End) (i : ℕ) → i < length xs → slice_index_or (xs ++ x ∷ []) i d ≡ slice_index_or xs i d
earlier [] x d i low = absurd (omega (arith, low))
earlier (y ∷ ys) x d zero low = refl
earlier (y ∷ ys) x d (suc i) low = earlier ys x d i (omega (arith, low))

last : (xs : List End) (x d : End) → slice_index_or (xs ++ x ∷ []) (length xs) d ≡ x
last [] x d = refl
last (y ∷ ys) x d = last ys x d

some-earlier : (xs : List End) (x : End) → IsSomeNotWhole xs → IsSomeNotWhole (xs ++ x ∷ [])
some-earlier xs x s = record { at = s.at; low = omega (arith, s.low, length-append xs (x ∷ [])); not_whole = λ d same. s.not_whole d (sym (earlier xs x d s.at s.low) ∙ same) }

some-last : (xs : List End) (x : End) → x ≢ ends.Whole → IsSomeNotWhole (xs ++ x ∷ [])
some-last xs x not = record { at = length xs; low = omega (arith, length-append xs (x ∷ [])); not_whole = λ d same. not (sym (last xs x d) ∙ same) }

-- some of them did not end whole
pub some-more : (xs : List End) (x before : End) → (x ≡ ends.Whole → before ≢ ends.Whole) → (before ≢ ends.Whole → IsSomeNotWhole xs) → IsSomeNotWhole (xs ++ x ∷ [])
some-more xs x before first left = elim (end-cases x) [
  | inl whole ↦ some-earlier xs x (left (first whole))
  | inr not ↦ some-last xs x not
]
