-- Lists that are read one item after the other, as a loop does.
use Rattle.std.proofs.Common.{◌≡◌, ℕ, IsOk, arith, length, List, [], ◌∷◌, ◌++◌, Result, Ok, Err, refl, sym, ap, ◌∙◌, append_assoc}
use Rattle.std.proofs.lemmas.List.{append-nil, length-append}
use Rattle.fdp_trace.specs.declared.fault.FaultKind.{FaultKind}
use Rattle.fdp_trace.specs.declared.fault.FaultKind.TheVariants as kinds
use Rattle.fdp_trace.specs.declared.fault.LineError.TheVariants as errors
use Rattle.fdp_base.specs.declared.command.Range.{Range}
use Rattle.fdp_trace.specs.Reader.Reading.{◌>>=◌, Fails, within}
use Rattle.fdp_trace.specs.Reader.Commands.{numbers_of, range_of, ranges_of}

-- what was read before, and what is still read
abbrev pub with_front : {A : Type 0} → List A → Result (List A) FaultKind → Result (List A) FaultKind
with_front front (Ok xs) = Ok (front ++ xs)
with_front front (Err kind) = Err kind

pub with_front-push : {A : Type 0} (front : List A) (x : A) (read : Result (List A) FaultKind)
    → with_front front (read >>= λ xs. Ok (x ∷ xs)) ≡ with_front (front ++ x ∷ []) read
with_front-push front x (Ok xs) = ap Ok (sym (append_assoc front (x ∷ []) xs))
with_front-push front x (Err kind) = refl

-- nothing was read before
pub with_front-none : {A : Type 0} (read : Result (List A) FaultKind) → with_front [] read ≡ read
with_front-none (Ok xs) = refl
with_front-none (Err kind) = refl

step_ok : {A : Type 0} (front : List A) (x : A) (r : Result A FaultKind) (others total : Result (List A) FaultKind) → r ≡ Ok x
    → with_front front (r >>= λ y. others >>= λ ys. Ok (y ∷ ys)) ≡ total → with_front (front ++ x ∷ []) others ≡ total
step_ok front x (Ok y) others total e so_far =
    let same : y ≡ x = cc in
    sym (with_front-push front x others) ∙ ap (λ z. with_front front (others >>= λ ys. Ok (z ∷ ys))) (sym same) ∙ so_far
step_ok front x (Err kind) others total e so_far = absurd cc

abbrev kind_in : {A : Type 0} → Result A FaultKind → FaultKind
kind_in (Ok x) = kinds.Count
kind_in (Err kind) = kind

step_err : {A : Type 0} (kind : FaultKind) (front : List A) (r : Result A FaultKind) (others total : Result (List A) FaultKind) → r ≡ Err kind
    → with_front front (r >>= λ y. others >>= λ ys. Ok (y ∷ ys)) ≡ total → total ≡ Err kind
step_err kind front (Ok y) others total fails so_far = absurd cc
step_err kind front (Err k) others total fails so_far =
    let same : k ≡ kind = ap kind_in fails in
    sym so_far ∙ ap Err same

-- memory is wanted for a list that is not empty
wanted : {A : Type 0} (front : List A) (x : A) (others total : Result (List A) FaultKind) → with_front (front ++ x ∷ []) others ≡ total → IsOk total → Fails length errors.Memory total
wanted front x (Ok xs) total so_far judged = ((front ++ x ∷ []) ++ xs, sym so_far, simp length-append (omega arith))
wanted front x (Err kind) total so_far judged = absurd cc

ends : {A : Type 0} (front : List A) (total : Result (List A) FaultKind) → with_front front (Ok []) ≡ total → total ≡ Ok front
ends front total so_far = sym so_far ∙ ap Ok (append-nil front)

-- ---- numbers

pub numbers_ok : (high : ℕ) (front : List ℕ) (words : List (List ℕ)) (w : List ℕ) (ws : List (List ℕ)) (n : ℕ) (total : Result (List ℕ) FaultKind) → words ≡ w ∷ ws → within 0 high w ≡ Ok n
    → with_front front (numbers_of high words) ≡ total → with_front (front ++ n ∷ []) (numbers_of high ws) ≡ total
unfolding numbers_of
numbers_ok high front words w ws n total cut read so_far =
    step_ok front n (within 0 high w) (numbers_of high ws) total read (sym (ap (λ (x : List (List ℕ)). with_front front (numbers_of high x)) cut) ∙ so_far)

pub numbers_err : (kind : FaultKind) (high : ℕ) (front : List ℕ) (words : List (List ℕ)) (w : List ℕ) (ws : List (List ℕ)) (total : Result (List ℕ) FaultKind) → words ≡ w ∷ ws → within 0 high w ≡ Err kind
    → with_front front (numbers_of high words) ≡ total → total ≡ Err kind
unfolding numbers_of
numbers_err kind high front words w ws total cut fails so_far =
    step_err kind front (within 0 high w) (numbers_of high ws) total fails (sym (ap (λ (x : List (List ℕ)). with_front front (numbers_of high x)) cut) ∙ so_far)

pub numbers_wanted : (high : ℕ) (front : List ℕ) (words : List (List ℕ)) (w : List ℕ) (ws : List (List ℕ)) (n : ℕ) (total : Result (List ℕ) FaultKind) → words ≡ w ∷ ws → within 0 high w ≡ Ok n
    → with_front front (numbers_of high words) ≡ total → IsOk total → Fails length errors.Memory total
numbers_wanted high front words w ws n total cut read so_far judged =
    wanted front n (numbers_of high ws) total (numbers_ok high front words w ws n total cut read so_far) judged

pub numbers_end : (high : ℕ) (front : List ℕ) (words : List (List ℕ)) (total : Result (List ℕ) FaultKind) → words ≡ []
    → with_front front (numbers_of high words) ≡ total → total ≡ Ok front
unfolding numbers_of
numbers_end high front words total none so_far =
    ends front total (sym (ap (λ (x : List (List ℕ)). with_front front (numbers_of high x)) none) ∙ so_far)

-- ---- ranges

pub ranges_ok : (front : List Range) (words : List (List ℕ)) (a b : List ℕ) (ws : List (List ℕ)) (r : Range) (total : Result (List Range) FaultKind) → words ≡ a ∷ b ∷ ws → range_of a b ≡ Ok r
    → with_front front (ranges_of words) ≡ total → with_front (front ++ r ∷ []) (ranges_of ws) ≡ total
unfolding ranges_of
ranges_ok front words a b ws r total cut read so_far =
    step_ok front r (range_of a b) (ranges_of ws) total read (sym (ap (λ (x : List (List ℕ)). with_front front (ranges_of x)) cut) ∙ so_far)

pub ranges_err : (kind : FaultKind) (front : List Range) (words : List (List ℕ)) (a b : List ℕ) (ws : List (List ℕ)) (total : Result (List Range) FaultKind) → words ≡ a ∷ b ∷ ws → range_of a b ≡ Err kind
    → with_front front (ranges_of words) ≡ total → total ≡ Err kind
unfolding ranges_of
ranges_err kind front words a b ws total cut fails so_far =
    step_err kind front (range_of a b) (ranges_of ws) total fails (sym (ap (λ (x : List (List ℕ)). with_front front (ranges_of x)) cut) ∙ so_far)

pub ranges_wanted : (front : List Range) (words : List (List ℕ)) (a b : List ℕ) (ws : List (List ℕ)) (r : Range) (total : Result (List Range) FaultKind) → words ≡ a ∷ b ∷ ws → range_of a b ≡ Ok r
    → with_front front (ranges_of words) ≡ total → IsOk total → Fails length errors.Memory total
ranges_wanted front words a b ws r total cut read so_far judged =
    wanted front r (ranges_of ws) total (ranges_ok front words a b ws r total cut read so_far) judged

pub ranges_odd : (front : List Range) (words : List (List ℕ)) (a : List ℕ) (total : Result (List Range) FaultKind) → words ≡ a ∷ []
    → with_front front (ranges_of words) ≡ total → total ≡ Err kinds.Count
unfolding ranges_of
ranges_odd front words a total cut so_far = sym so_far ∙ ap (λ (x : List (List ℕ)). with_front front (ranges_of x)) cut

pub ranges_end : (front : List Range) (words : List (List ℕ)) (total : Result (List Range) FaultKind) → words ≡ []
    → with_front front (ranges_of words) ≡ total → total ≡ Ok front
unfolding ranges_of
ranges_end front words total none so_far =
    ends front total (sym (ap (λ (x : List (List ℕ)). with_front front (ranges_of x)) none) ∙ so_far)
