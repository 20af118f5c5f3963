-- How long entries and ranges are, and numbers in a row.
use Rattle.std.proofs.Common.{◌≡◌, ℕ, zero, suc, ◌+◌, List, [], ◌∷◌, ◌++◌, length, refl, ap, ◌∙◌, arith}
use Rattle.fdp_base.specs.Numbers.{numbers_below, numbers_from}
use Rattle.fdp_layouts.specs.declared.range.DsmRange.{DsmRange}
use Rattle.fdp_layouts.specs.declared.submission.Sqe.{Sqe}
use Rattle.fdp_layouts.specs.Frame.{placed}
use Rattle.fdp_queues.specs.Data.{range_bytes}
use Rattle.fdp_queues.specs.Entry.{entry_bytes}

pub length-entry : (e : Sqe) → length (entry_bytes e) ≡ 64
unfolding placed
length-entry e = refl

pub length-range : (r : DsmRange) → length (range_bytes r) ≡ 16
unfolding placed
length-range r = refl

pub length-numbers : (first n : ℕ) → length (numbers_from first n) ≡ n
unfolding numbers_from
length-numbers first zero = refl
length-numbers first (suc n) = ap suc (length-numbers (first + 1) n)

-- one number more
numbers-push : (first n : ℕ) → numbers_from first (n + 1) ≡ numbers_from first n ++ (first + n) ∷ []
unfolding numbers_from
numbers-push first zero = let e : first ≡ first + 0 = omega arith in ap (λ (k : ℕ). k ∷ []) e
numbers-push first (suc n) =
    let e : first + 1 + n ≡ first + suc n = omega arith in
    let m : suc n + 1 ≡ suc (n + 1) = omega arith in
    ap (numbers_from first) m ∙ ap (λ (xs : List ℕ). first ∷ xs) (numbers-push (first + 1) n ∙ ap (λ (k : ℕ). numbers_from (first + 1) n ++ k ∷ []) e)

pub numbers-next : (n : ℕ) → numbers_below (n + 1) ≡ numbers_below n ++ n ∷ []
numbers-next n = numbers-push 0 n ∙ ap (λ (k : ℕ). numbers_from 0 n ++ k ∷ []) (omega arith)
