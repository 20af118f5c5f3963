-- A reader that gave less than it was asked for gave all that it had left.
use Rattle.std.proofs.Common.{◌≡◌, ℕ, ◌<◌, ◌++◌, List, [], Option, Some, None, length, take, min, ap, ◌∙◌, subst, arith}
use Rattle.std.specs.Option.{IfSome, option_map}
use Rattle.std.specs.Io.Take.{take_inner, take_limit, take_remaining}
use Rattle.std.specs.declared.io.traits.Take.{Take}
use Rattle.std.proofs.lemmas.List.{length-take, take_all}

whole : (n : ℕ) (xs bytes : List ℕ) → bytes ≡ take n xs → length bytes < n → bytes ≡ xs
whole n xs bytes e less =
    let count : length bytes ≡ min n (length xs) = ap length e ∙ length-take n xs in
    e ∙ take_all n xs (omega (arith, count, less))

whole_left : (n : ℕ) (left : Option (List ℕ)) (before bytes : List ℕ) → before ≡ [] → length bytes < n → IfSome (option_map (take n) left) (λ xs. bytes ≡ before ++ xs) → IfSome left (λ rest. bytes ≡ rest)
whole_left n None before bytes empty less gave = gave
whole_left n (Some xs) before bytes empty less gave = whole n xs bytes (gave ∙ ap (λ old. old ++ take n xs) empty) less

pub rest_is : {R : Type 0} (remaining : R → Option (List ℕ)) (t : Take R) (file : R) (n : ℕ) (before bytes : List ℕ) → take_limit t ≡ n → take_inner t ≡ file → before ≡ [] → length bytes < n →
    IfSome (take_remaining remaining t) (λ xs. bytes ≡ before ++ xs) → IfSome (remaining file) (λ rest. bytes ≡ rest)
rest_is remaining t file n before bytes limit inner empty less gave =
    subst (λ f. IfSome (remaining f) (λ rest. bytes ≡ rest)) inner (whole_left t.limit (remaining t.inner) before bytes empty (omega (arith, less, limit)) gave)
