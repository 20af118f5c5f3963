-- Runs that are taken again.
use Rattle.std.proofs.Common.{ℕ, zero, suc, ◌<◌, List, [], ◌∷◌, ◌++◌, get_or, length, take, true, sym, subst, append_assoc, append-nil, arith}
use Rattle.fdp_base.specs.declared.config.DriveConfig.{DriveConfig}
use Rattle.fdp_base.specs.declared.entry.Entry.{Entry}
use Rattle.fdp_rules.specs.History.{Found}
use Rattle.fdp_rules.specs.Legal.{IsLegal, IsLegalAfter}
use Rattle.fdp_rules.specs.Step.{IsStep}
use Rattle.fdp_plain.specs.Found.{found_in}
use Rattle.fdp_plain.specs.Run.{AreLegalBehind}

-- with a legal run behind them
pub legal-more : (c : DriveConfig) (before runs : List (List Entry)) (es : List Entry) → AreLegalBehind c before runs → IsLegal true c (found_in c (before ++ runs)) es → AreLegalBehind c before (runs ++ es ∷ [])
legal-more c before [] es h legal = (subst (λ (xs : List (List Entry)). IsLegal true c (found_in c xs) es) (append-nil before) legal, tt)
legal-more c before (r ∷ runs) es h legal = (h.0, legal-more c (before ++ r ∷ []) runs es h.1 (subst (λ (xs : List (List Entry)). IsLegal true c (found_in c xs) es) (sym (append_assoc before (r ∷ []) runs)) legal))

-- a beginning of a legal history is one
legal-beginning : (c : DriveConfig) (f : Found) (b xs : List Entry) (n : ℕ) → IsLegalAfter true c f b xs → IsLegalAfter true c f b (take n xs)
unfolding IsLegalAfter
legal-beginning c f b [] zero h = tt
legal-beginning c f b [] (suc n) h = tt
legal-beginning c f b (x ∷ xs) zero h = tt
legal-beginning c f b (x ∷ xs) (suc n) h = (h.0, legal-beginning c f (b ++ x ∷ []) xs n h.1)

pub legal-take : (c : DriveConfig) (f : Found) (es : List Entry) (n : ℕ) → IsLegal true c f es → IsLegal true c f (take n es)
legal-take c f es n h = legal-beginning c f [] es n h

-- each entry is a step after those before it
legal-step : (c : DriveConfig) (f : Found) (b xs : List Entry) (n : ℕ) (d : Entry) → n < length xs → IsLegalAfter true c f b xs → IsStep true c f (b ++ take n xs) (get_or xs n d)
unfolding IsLegalAfter
legal-step c f b [] n d low h = absurd (omega (arith, low))
legal-step c f b (x ∷ xs) zero d low h = subst (λ (zs : List Entry). IsStep true c f zs x) (sym (append-nil b)) h.0
legal-step c f b (x ∷ xs) (suc n) d low h =
    subst (λ (zs : List Entry). IsStep true c f zs (get_or xs n d)) (append_assoc b (x ∷ []) (take n xs)) (legal-step c f (b ++ x ∷ []) xs n d (omega (arith, low)) h.1)

pub step-at : (c : DriveConfig) (f : Found) (es : List Entry) (n : ℕ) (d : Entry) → n < length es → IsLegal true c f es → IsStep true c f (take n es) (get_or es n d)
step-at c f es n d low h = legal-step c f [] es n d low h
