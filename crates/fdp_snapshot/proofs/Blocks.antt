-- The blocks of namespaces, counted one namespace after another, and their pages, read so.
use Rattle.std.proofs.Common.{◌≡◌, ℕ, zero, suc, ◌+◌, ◌*◌, ◌<◌, ◌≤◌, List, [], ◌∷◌, ◌++◌, length, get_or, drop, Option, sym, ap, ◌∙◌, arith, append_assoc}
use Rattle.std.specs.Prelude.{map}
use Rattle.std.proofs.lemmas.List.{drop-drop, drop_all, append-nil}
use Rattle.fdp_records.specs.Bytes.{items}
use Rattle.fdp_snapshot.specs.declared.space.Space.{Space}
use Rattle.fdp_snapshot.specs.Reading.{blocks_in, page_lists, size_of_row}
use Rattle.fdp_snapshot.specs.Rows.{page_in}

drop_suc : {X : Type 0} (n : ℕ) (xs : List X) (x : X) → n < length xs → x ≡ get_or xs n x → drop n xs ≡ x ∷ drop (suc n) xs
drop_suc zero [] x lt is = absurd (omega arith)
drop_suc {X} zero (y ∷ ys) x lt is = ap (λ (z : X). z ∷ ys) (sym is)
drop_suc (suc n) [] x lt is = absurd (omega arith)
drop_suc (suc n) (y ∷ ys) x lt is = drop_suc n ys x (omega arith) is

pub drop_next : {X : Type 0} (n : ℕ) (xs : List X) (x : X) → n < length xs → x ≡ get_or xs n x → drop n xs ≡ x ∷ drop (n + 1) xs
drop_next n xs x lt is = let e : suc n ≡ n + 1 = omega arith in drop_suc n xs x lt is ∙ ap (λ k. x ∷ drop k xs) e

-- the blocks from a namespace on are its own and those behind it
pub blocks_next : (n : ℕ) (xs : List (Option Space)) (x : Option Space) → n < length xs → x ≡ get_or xs n x → blocks_in (drop n xs) ≡ size_of_row x + blocks_in (drop (n + 1) xs)
unfolding blocks_in
blocks_next n xs x lt is = ap blocks_in (drop_next n xs x lt is)

-- one list of pages more
pub lists_next : (n at next : ℕ) (bytes : List ℕ) (xs : List (Option Space)) (x : Option Space) (done : List (List (Option ℕ))) (list : List (Option ℕ)) (whole : List (List (Option ℕ)))
    → n < length xs → x ≡ get_or xs n x → next ≡ at + 4 * size_of_row x → list ≡ items 4 page_in (size_of_row x) (drop at bytes)
    → done ++ page_lists (map size_of_row (drop n xs)) (drop at bytes) ≡ whole
    → (done ++ list ∷ []) ++ page_lists (map size_of_row (drop (n + 1) xs)) (drop next bytes) ≡ whole
unfolding page_lists
lists_next n at next bytes xs x done list whole lt is place read so_far =
    let size = size_of_row x in
    let rest = map size_of_row (drop (n + 1) xs) in
    let moved : drop (4 * size) (drop at bytes) ≡ drop next bytes = drop-drop (4 * size) at bytes ∙ ap (λ (k : ℕ). drop k bytes) (sym place) in
    let step : page_lists (map size_of_row (drop n xs)) (drop at bytes) ≡ items 4 page_in size (drop at bytes) ∷ page_lists rest (drop (4 * size) (drop at bytes)) =
    ap (λ (ys : List (Option Space)). page_lists (map size_of_row ys) (drop at bytes)) (drop_next n xs x lt is) in
    append_assoc done (list ∷ []) (page_lists rest (drop next bytes))
    ∙ ap (λ (ls : List (List (Option ℕ))). done ++ ls) ((λ i. read i ∷ page_lists rest (sym moved i)) ∙ sym step) ∙ so_far

pub lists_end : (n at : ℕ) (bytes : List ℕ) (xs : List (Option Space)) (done whole : List (List (Option ℕ))) → length xs ≤ n
    → done ++ page_lists (map size_of_row (drop n xs)) (drop at bytes) ≡ whole → done ≡ whole
unfolding page_lists
lists_end n at bytes xs done whole past so_far =
    let none : drop n xs ≡ [] = drop_all n xs past in
    sym (append-nil done) ∙ sym (ap (λ (ys : List (Option Space)). done ++ page_lists (map size_of_row ys) (drop at bytes)) none) ∙ so_far

pub blocks_past : (n : ℕ) (xs : List (Option Space)) → length xs ≤ n → blocks_in (drop n xs) ≡ 0
unfolding blocks_in
blocks_past n xs past = ap blocks_in (drop_all n xs past)
