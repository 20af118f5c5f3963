-- Namespaces whose blocks are named by where they stand, one after another.
use Rattle.std.proofs.Common.{◌≡◌, ◌≢◌, ℕ, ◌+◌, ◌<◌, ◌≤◌, List, length, get_or, set, map, Option, None, refl, ap, sym, ◌∙◌, arith, subst, cond, eq-eqb, ne_eqb, ⊎_elim}
use Rattle.std.specs.Prelude.{option_map}
use Rattle.std.specs.Option.{option_flatten}
use Rattle.std.proofs.lemmas.Bool.{cases_eq, cases_lt}
use Rattle.std.proofs.lemmas.List.{length-set}
use Rattle.std.proofs.lemmas.Option.{slice_get-get_or, slice_get_past}
use Rattle.fdp_base.specs.Numbers.{with_at}
use Rattle.fdp_rules.specs.PlainState.{PageName, PageName.found, PageName.written}
use Rattle.fdp_tables.specs.declared.state.Kept.{Kept}
use Rattle.fdp_tables.specs.declared.state.KeptBlock.{KeptBlock}
use Rattle.fdp_tables.specs.declared.state.Space.{Space}
use Rattle.fdp_tables.specs.State.{row, table_site}
use Rattle.fdp_tables.proofs.Tables.{read-set}
use Rattle.fdp_tables.proofs.Walks.{row-map}
use Rattle.fdp_plain.specs.Reopening.{IsNamed, SiteTables, named_block, site_by, tables_of}

-- the first namespaces are named, and the others are as they were
pub record IsNaming (t : SiteTables) (old : List (Option Space)) (i : ℕ) (new : List (Option Space)) : Type 0 where
  pub count : length new ≡ length old
  pub before : (n : ℕ) → n < i → IsNamed t (row old n) (row new n)
  pub behind : (n : ℕ) → i ≤ n → row new n ≡ row old n

pub naming_start : (t : SiteTables) (old : List (Option Space)) → IsNaming t old 0 old
naming_start t old = record { count = refl; before = λ n below. absurd (omega (arith, below)); behind = λ n past. refl }

row_put : (xs : List (Option Space)) (i : ℕ) (y : Option Space) → i < length xs → (n : ℕ) → row (set xs i y) n ≡ with_at (row xs) i y n
row_put xs i y there n = read-set option_flatten xs i y there n

pub naming_next : (t : SiteTables) (old new : List (Option Space)) (i : ℕ) (d y : Option Space) → i < length new → IsNamed t (get_or new i d) y → IsNaming t old i new → IsNaming t old (i + 1) (set new i y)
naming_next t old new i d y there named h =
    let v : Option Space = get_or new i d in
    let now : row new i ≡ v = ap option_flatten (slice_get-get_or new i d there) in
    let was : v ≡ row old i = sym now ∙ h.behind i (omega arith) in
    let here : (n : ℕ) → n ≡ i → row (set new i y) n ≡ y = λ n same. row_put new i y there n ∙ ap (λ b. cond b y (row new n)) (eq-eqb n i same) in
    let other : (n : ℕ) → n ≢ i → row (set new i y) n ≡ row new n = λ n ne. row_put new i y there n ∙ ap (λ b. cond b y (row new n)) (ne_eqb n i ne) in
    record {
      count = length-set new i y ∙ h.count;
      before = λ n below.
          ⊎_elim
          (λ (same : n ≡ i). subst (λ o. IsNamed t o (row (set new i y) n)) (was ∙ ap (row old) (sym same)) (subst (IsNamed t v) (sym (here n same)) named))
          (λ (ne : n ≢ i). subst (IsNamed t (row old n)) (sym (other n ne)) (h.before n (omega (arith, below, ne))))
          (cases_eq n i);
      behind = λ n past. let ne : n ≢ i = λ same. omega (arith, past, same) in other n ne ∙ h.behind n (omega (arith, past));
    }

none_named : (t : SiteTables) (old new : Option Space) → old ≡ None → new ≡ None → IsNamed t old new
none_named t old new none gone = record {
  namespace = rw (none, gone) refl;
  blocks = λ lba. rw (none, gone) refl;
}

pub naming_end : (t : SiteTables) (old new : List (Option Space)) (i : ℕ) → length old ≤ i → IsNaming t old i new → (n : ℕ) → IsNamed t (row old n) (row new n)
naming_end t old new i past h n =
    ⊎_elim
    (λ (below : n < i). h.before n below)
    (λ (behind : i ≤ n). none_named t (row old n) (row new n) (ap option_flatten (slice_get_past old n (omega (arith, past, behind)))) (ap option_flatten (slice_get_past new n (omega (arith, past, behind, h.count)))))
    (cases_lt n i)

-- the blocks of a namespace that were all named
pub row_named : (t : SiteTables) (blocks : List (Option KeptBlock)) (lba : ℕ) → row (map (option_map (named_block t)) blocks) lba ≡ option_map (named_block t) (row blocks lba)
row_named t blocks lba = row-map (option_map (named_block t)) blocks lba refl

-- where a page stands by the tables of a drive
pub by_tables : (k : Kept) (name : PageName) → site_by (tables_of k) name ≡ table_site k name
by_tables k (written ticket index) = refl
by_tables k (found spot) = refl
