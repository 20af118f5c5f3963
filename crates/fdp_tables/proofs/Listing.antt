-- Numbers that are listed under keys.
use Rattle.std.proofs.Common.{◌≡◌, ◌≢◌, ℕ, zero, suc, ◌<◌, List, [], ◌∷◌, ◌++◌, length, set, get_or, refl, ap, sym, ◌∙◌, subst, ⊎_elim}
use Rattle.std.specs.Prelude.{IsTrue, OnOk}
use Rattle.std.specs.declared.result.Result.{Result}
use Rattle.std.proofs.lemmas.Bool.{cases_eq}
use Rattle.std.proofs.lemmas.List.{get_or-set_other, get_or-set_same}
use Rattle.fdp_tables.specs.Index.{is_listed}

-- an empty list more is what stands behind all lists
pub one_empty_more : (lists : List (List ℕ)) (k : ℕ) → get_or (lists ++ [] ∷ []) k [] ≡ get_or lists k []
one_empty_more [] zero = refl
one_empty_more [] (suc k) = refl
one_empty_more (list ∷ lists) zero = refl
one_empty_more (list ∷ lists) (suc k) = one_empty_more lists k

-- the lists are as they were, and so many are there
pub record IsReached (old new : List (List ℕ)) (count : ℕ) : Type 0 where
  pub same : (k : ℕ) → get_or new k [] ≡ get_or old k []
  pub there : length new ≡ count

-- what was listed is listed in a list that has more
pub put_kept : (lists : List (List ℕ)) (at : ℕ) (list : List ℕ) → at < length lists → ((v : ℕ) → IsTrue (is_listed v (get_or lists at [])) → IsTrue (is_listed v list))
    → (k v : ℕ) → IsTrue (is_listed v (get_or lists k [])) → IsTrue (is_listed v (get_or (set lists at list) k []))
put_kept lists at list below more k v there =
    let here : k ≡ at → IsTrue (is_listed v (get_or (set lists at list) k [])) = λ same.
    subst (λ xs. IsTrue (is_listed v xs)) (sym (ap (λ n. get_or (set lists at list) n []) same ∙ get_or-set_same lists at list [] below)) (more v (subst (λ n. IsTrue (is_listed v (get_or lists n []))) same there)) in
    let other : k ≢ at → IsTrue (is_listed v (get_or (set lists at list) k [])) = λ ne. subst (λ xs. IsTrue (is_listed v xs)) (sym (get_or-set_other lists at k list [] ne)) there in
    ⊎_elim here other (cases_eq k at)

pub put_added : {E : Type 0} (result : Result Unit E) (lists : List (List ℕ)) (at value : ℕ) (list : List ℕ) (new : List (List ℕ)) → new ≡ set lists at list → at < length lists → OnOk result (IsTrue (is_listed value list)) → OnOk result (IsTrue (is_listed value (get_or new at [])))
put_added result lists at value list new is below added = subst (λ xs. OnOk result (IsTrue (is_listed value xs))) (sym (ap (λ xs. get_or xs at []) is ∙ get_or-set_same lists at list [] below)) added
