-- A sum over a list, taken from the front.
use Rattle.std.proofs.Common.{◌≡◌, ℕ, ◌+◌, ◌*◌, ◌<◌, ◌≤◌, List, [], ◌∷◌, ◌++◌, drop, get_or, length, take, sym, ◌∙◌, ap, arith}
use Rattle.std.specs.Prelude.{sum_by}
use Rattle.std.proofs.lemmas.List.{drop_all, drop_more, take_all, take_more}
use Rattle.std.proofs.lemmas.List.Sums.{sum_by-append, sum_by-cons}
use Rattle.fdp_base.specs.declared.entry.Entry.{Entry}
use Rattle.fdp_make.specs.Summary.{Beginning, agreeing_after, agreeing_of}

module _ {X : Type 0} (f : X → ℕ) (most : ℕ) where
  -- the first elements are summed up; each counts so much at most
  pub record IsSum (xs : List X) (i total : ℕ) : Type 0 where
    pub value : total ≡ sum_by f (take i xs)
    pub bound : total ≤ i * most

  pub sum_first : (xs : List X) → IsSum xs 0 0
  sum_first xs = record { value = omega arith; bound = omega arith }

  pub sum_next : (xs : List X) (i total n : ℕ) (x : X) → i < length xs → x ≡ get_or xs i x → n ≡ f x → n ≤ most → IsSum xs i total → IsSum xs (i + 1) (total + n)
  sum_next xs i total n x below at is few h =
      let more : sum_by f (take (i + 1) xs) ≡ sum_by f (take i xs) + f (get_or xs i x) =
      ap (sum_by f) (take_more xs i x below) ∙ omega (arith, sum_by-append f (take i xs) (get_or xs i x ∷ []), sum_by-cons f (get_or xs i x) []) in
      record { value = omega (arith, h.value, more, is, ap f at); bound = omega (arith, h.bound, few) }

  pub sum_end : (xs : List X) (i total : ℕ) → length xs ≤ i → IsSum xs i total → total ≡ sum_by f xs
  sum_end xs i total past h = h.value ∙ ap (sum_by f) (take_all i xs past)

-- ---- the blocks of reads that are as wanted

pub record IsAgreeing (block : ℕ) (beginning : Beginning) (es : List Entry) (i total : ℕ) : Type 0 where
  pub whole : total + agreeing_after block beginning (take i es) (drop i es) ≡ agreeing_after block beginning [] es

pub agreeing_next : (block : ℕ) (beginning : Beginning) (es : List Entry) (i total n : ℕ) (e : Entry) → i < length es → e ≡ get_or es i e → n ≡ agreeing_of block beginning (take i es) e
    → IsAgreeing block beginning es i total → IsAgreeing block beginning es (i + 1) (total + n)
unfolding agreeing_after
agreeing_next block beginning es i total n e below at is h =
    let front : take i es ++ e ∷ [] ≡ take (i + 1) es = ap (λ (x : Entry). take i es ++ x ∷ []) at ∙ sym (take_more es i e below) in
    let rest : drop i es ≡ e ∷ drop (i + 1) es = drop_more es i e below ∙ ap (λ (x : Entry). x ∷ drop (i + 1) es) (sym at) in
    let one : agreeing_after block beginning (take i es) (drop i es) ≡ agreeing_of block beginning (take i es) e + agreeing_after block beginning (take (i + 1) es) (drop (i + 1) es) =
    ap (agreeing_after block beginning (take i es)) rest
    ∙ ap (λ (xs : List Entry). agreeing_of block beginning (take i es) e + agreeing_after block beginning xs (drop (i + 1) es)) front in
    record { whole = omega (arith, h.whole, one, is) }

pub agreeing_first : (block : ℕ) (beginning : Beginning) (es : List Entry) → IsAgreeing block beginning es 0 0
agreeing_first block beginning es = record { whole = omega arith }

pub agreeing_end : (block : ℕ) (beginning : Beginning) (es : List Entry) (i total : ℕ) → length es ≤ i → IsAgreeing block beginning es i total → total ≡ agreeing_after block beginning [] es
unfolding agreeing_after
agreeing_end block beginning es i total past h =
    let none : agreeing_after block beginning (take i es) (drop i es) ≡ 0 = ap (agreeing_after block beginning (take i es)) (drop_all i es past) in
    omega (arith, h.whole, none)
