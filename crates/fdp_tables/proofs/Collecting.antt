-- Pieces are put one behind another: what is done, and what is left, come to the whole.
use Rattle.std.proofs.Common.{◌≡◌, ℕ, ◌+◌, ◌<◌, ◌≤◌, Bool, true, false, cond, List, [], ◌∷◌, ◌++◌, length, drop, drop-cons, get_or, flat_map, map, filter, refl, sym, ◌∙◌, ap, add-one, append_assoc}
use mathlib.Core.List.{append-nil}
use Rattle.std.proofs.lemmas.List.{drop_all}
use Rattle.fdp_base.specs.Numbers.{numbers_below}
use Rattle.fdp_base.proofs.Sums.{rest_end, rest_next, rest_of}

-- the elements that pass a test, one piece an element
pub filtered : {X Y : Type 0} (f : X → Y) (test : X → Bool) (xs : List X) → map f (filter test xs) ≡ flat_map (λ (x : X). cond (test x) (f x ∷ []) []) xs
filtered f test [] = refl
filtered {X} {Y} f test (x ∷ xs) = of_test (test x) (filtered f test xs) where
  of_test : (b : Bool) → map f (filter test xs) ≡ flat_map (λ (y : X). cond (test y) (f y ∷ []) []) xs → map f (cond b (x ∷ filter test xs) (filter test xs)) ≡ cond b (f x ∷ []) [] ++ flat_map (λ (y : X). cond (test y) (f y ∷ []) []) xs
  of_test true e = ap (λ (ys : List Y). f x ∷ ys) e
  of_test false e = e

module _ {X : Type 0} (g : ℕ → List X) where
  -- the pieces of the numbers below one are done
  pub record IsCollecting (n i : ℕ) (old done : List X) : Type 0 where
    pub whole : done ++ flat_map g (rest_of i n) ≡ old ++ flat_map g (numbers_below n)

  pub collecting_next : (n i : ℕ) (old done more : List X) → i < n → more ≡ done ++ g i → IsCollecting n i old done → IsCollecting n (i + 1) old more
  collecting_next n i old done more below e h = record {
    whole =
        ap (λ (xs : List X). xs ++ flat_map g (rest_of (i + 1) n)) e
        ∙ append_assoc done (g i) (flat_map g (rest_of (i + 1) n))
        ∙ ap (λ (xs : List ℕ). done ++ flat_map g xs) (sym (rest_next i n below))
        ∙ h.whole;
  }

  pub collecting_end : (n i : ℕ) (old done : List X) → n ≤ i → IsCollecting n i old done → done ≡ old ++ flat_map g (numbers_below n)
  collecting_end n i old done past h = sym (append-nil done) ∙ ap (λ (xs : List ℕ). done ++ flat_map g xs) (sym (rest_end i n past)) ∙ h.whole

module _ {X Y : Type 0} (g : Y → List X) where
  -- the pieces of the first elements are done
  pub record IsCollectingIn (ys : List Y) (i : ℕ) (old done : List X) : Type 0 where
    pub whole : done ++ flat_map g (drop i ys) ≡ old ++ flat_map g ys

  pub collecting_in_next : (ys : List Y) (i : ℕ) (d : Y) (old done more : List X) → i < length ys → more ≡ done ++ g (get_or ys i d) → IsCollectingIn ys i old done → IsCollectingIn ys (i + 1) old more
  collecting_in_next ys i d old done more below e h =
      let rest : drop i ys ≡ get_or ys i d ∷ drop (i + 1) ys = rw (add-one, drop-cons ys i d) refl in
      record {
        whole =
            ap (λ (xs : List X). xs ++ flat_map g (drop (i + 1) ys)) e
            ∙ append_assoc done (g (get_or ys i d)) (flat_map g (drop (i + 1) ys))
            ∙ ap (λ (zs : List Y). done ++ flat_map g zs) (sym rest)
            ∙ h.whole;
      }

  pub collecting_in_end : (ys : List Y) (i : ℕ) (old done : List X) → length ys ≤ i → IsCollectingIn ys i old done → done ≡ old ++ flat_map g ys
  collecting_in_end ys i old done past h = sym (append-nil done) ∙ ap (λ (zs : List Y). done ++ flat_map g zs) (sym (drop_all i ys past)) ∙ h.whole

-- the pieces of images are the pieces of what they are images of
pub flat_map-map : {X Y Z : Type 0} (g : Y → List X) (f : Z → Y) (zs : List Z) → flat_map g (map f zs) ≡ flat_map (λ (z : Z). g (f z)) zs
flat_map-map g f [] = refl
flat_map-map {X} g f (z ∷ zs) = ap (λ (xs : List X). g (f z) ++ xs) (flat_map-map g f zs)
