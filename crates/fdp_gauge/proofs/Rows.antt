-- A record of entries that are all alike, as the tests have one.
use Rattle.std.proofs.Common.{◌≡◌, ℕ, zero, suc, ◌+◌, ◌*◌, List, ◌∷◌, length, map, replicate, sum_by, refl, sym, ◌∙◌, ap, subst, arith, add-one}
use mathlib.Core.List.{IsPrefix}
use Rattle.std.proofs.lemmas.List.Sums.{sum_by-cons}
use Rattle.fdp_base.specs.declared.recorded.Mark.{Mark}
use Rattle.fdp_base.proofs.Records.{nil-prefix}
use Rattle.fdp_gauge.specs.Passes.{snapshot_of}

module _ (m : Mark) where
  abbrev pub rows : ℕ → List Mark
  rows n = map (λ (x : ℕ). m) (replicate n 0)

  pub map-replicate : (n : ℕ) → rows n ≡ replicate n m
  map-replicate zero = refl
  map-replicate (suc n) = ap (λ (xs : List Mark). m ∷ xs) (map-replicate n)

  pub length-rows : (n : ℕ) → length (rows n) ≡ n
  length-rows zero = refl
  length-rows (suc n) = omega (arith, length-rows n)

  pub sum_by-rows : (f : Mark → ℕ) (n : ℕ) → sum_by f (rows n) ≡ n * f m
  sum_by-rows f zero = omega arith
  sum_by-rows f (suc n) = omega (arith, sum_by-cons f m (rows n), sum_by-rows f n)

  more : (n : ℕ) → IsPrefix (rows n) (rows (suc n))
  more zero = nil-prefix (rows 1)
  more (suc n) = let r = more n in (r.0, ap (λ (xs : List Mark). m ∷ xs) r.1)

  pub rows-prefix : (n : ℕ) → IsPrefix (rows n) (rows (n + 1))
  rows-prefix n = rw add-one (more n)

  -- what a record of one entry more begins with
  pub replicate-prefix : (n : ℕ) (told : List Mark) → told ≡ replicate n m → IsPrefix told (rows (n + 1))
  replicate-prefix n told e = subst (λ (xs : List Mark). IsPrefix xs (rows (n + 1))) (map-replicate n ∙ sym e) (rows-prefix n)

  pub snapshot-rows : (n h k e : ℕ) → h ≡ n * m.host_blocks → k ≡ n * m.media_blocks → e ≡ n * m.erases
      → record { length = n; host_blocks = h; media_blocks = k; erases = e } ≡ snapshot_of (rows n)
  snapshot-rows n h k e hosts media erases =
      let a : n ≡ length (rows n) = sym (length-rows n) in
      let b : h ≡ sum_by (λ (x : Mark). x.host_blocks) (rows n) = hosts ∙ sym (sum_by-rows (λ (x : Mark). x.host_blocks) n) in
      let c : k ≡ sum_by (λ (x : Mark). x.media_blocks) (rows n) = media ∙ sym (sum_by-rows (λ (x : Mark). x.media_blocks) n) in
      let d : e ≡ sum_by (λ (x : Mark). x.erases) (rows n) = erases ∙ sym (sum_by-rows (λ (x : Mark). x.erases) n) in
      λ i. record { length = a i; host_blocks = b i; media_blocks = c i; erases = d i }
