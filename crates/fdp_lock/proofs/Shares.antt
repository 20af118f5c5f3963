-- A view that is cut in two, and two views that are made one, keep the rule.
use Rattle.std.proofs.Common.{◌≡◌, ◌≢◌, ◌⊎◌, ◌==◌, ℕ, ◌+◌, ◌<◌, cond, eqb, List, [], ◌∷◌, ◌++◌, set, Option, sum_by, eq-eqb, ne_eqb, refl, sym, ◌∙◌, ap, subst, inl, inr, ⊎_elim, arith}
use mathlib.Core.Option.{some}
use mathlib.Core.Logic.{dite}
use native.Mathlib.Decide.{ℕ_discrete}
use lib.ListN.{get_elem?}
use Rattle.std.proofs.lemmas.List.Sums.{sum_by-append, sum_by_push}
use Rattle.atomic_table.specs.Table.{State, Splits, Joins}
use Rattle.atomic_table.proofs.Lists.{at_set, at_snoc, set_else}
use Rattle.fdp_base.specs.declared.recorded.Mark.{Mark}
use Rattle.fdp_base.proofs.Records.{sum_by-changed, nil-prefix}
use Rattle.fdp_lock.specs.declared.view.View.{View}
use Rattle.fdp_lock.specs.declared.view.Stage.TheVariants.{Idle}
use Rattle.fdp_lock.specs.Rule.{turn_in, parts, has_turn, has_number, AllMade, Fits, IsTied}
use Rattle.fdp_lock.specs.Steps.{naming, giver, newcomer, note, joined, spent}
use Rattle.fdp_lock.proofs.Moves.{one_if, times, Keeps, apart}
use Rattle.fdp_lock.proofs.Turns.{Idle-Holding, has_own}

pub times-append : {I : Type 0} (q : ℕ) (ms ns : List (ℕ × List I)) → times q (ms ++ ns) ≡ times q ms + times q ns
times-append q ms ns = sum_by-append (λ n. cond (eqb n.0 q) 1 0) ms ns

AllMade-append : {I : Type 0} (mark : I → Mark) (log : List I) (ms ns : List (ℕ × List I)) → AllMade mark log ms → AllMade mark log ns → AllMade mark log (ms ++ ns)
AllMade-append mark log [] ns first second = second
AllMade-append mark log (m ∷ ms) ns first second = (first.0, AllMade-append mark log ms ns first.1 second)

module _ {S O I : Type 0} (origin : S → O) (entries : S → List I) (mark : I → Mark) (org : O) (seats : ℕ) where
  -- the sum after a view was cut in two
  module _ (f : View O I → ℕ) (views : List (View O I)) (id : ℕ) (v left right : View O I) (at : get_elem? views id ≡ some v) where
    sum_by-cut : sum_by f (set views id left ++ right ∷ []) + f v ≡ sum_by f views + f left + f right
    sum_by-cut = omega (arith, sum_by_push f (set views id left) right, sum_by-changed f views id v left at)

  module _ (s : State (Option S) (View O I)) (id : ℕ) (left right : View O I) where
    -- which view stands at a place afterwards
    cut_cases : (j : ℕ) (u : View O I) → get_elem? (set s.views id left ++ right ∷ []) j ≡ some u → (left ≡ u) ⊎ ((right ≡ u) ⊎ ((j ≢ id) × (get_elem? s.views j ≡ some u)))
    cut_cases j u there =
        ⊎_elim
        (λ (was : get_elem? (set s.views id left) j ≡ some u).
        ⊎_elim (λ (here : (j ≡ id) × (left ≡ u)). inl here.1) (λ (else : (j ≢ id) × (get_elem? s.views j ≡ some u)). inr (inr else)) (at_set s.views id j left u was))
        (λ (new : right ≡ u). inr (inl new))
        (at_snoc (set s.views id left) right u j there)

  -- a seat tells what it has seen
  pub note_splits : (id : ℕ) (v : View O I) → v.stage ≡ Idle → Splits (Keeps origin entries mark org seats) id v v (note v)
  note_splits id v idle s k at =
      let views : List (View O I) = set s.views id v ++ note v ∷ [] in
      let f = k.each id v at in
      let same : (c : View O I → ℕ) → c (note v) ≡ 0 → sum_by c views ≡ sum_by c s.views = λ c none_there. omega (arith, sum_by-cut c s.views id v v (note v) at) in
      record {
        log = k.log;
        taken = k.taken;
        words = k.words;
        turn = same has_turn refl ∙ k.turn;
        one = k.one;
        whole = same parts refl ∙ k.whole;
        once = λ q. omega (arith, same (has_number q) refl, k.once q);
        unnamed = λ q nonzero none_there. k.unnamed q nonzero (sym (same (has_number q) refl) ∙ none_there);
        first = λ j u there has q above.
            same (has_number q) refl ∙ ⊎_elim
            (λ (e : v ≡ u). let P : View O I → Type 0 = λ z. 0 < has_number 0 z → z.given < q → sum_by (has_number q) s.views ≡ 0 in subst P e (λ h a. k.first id v at h q a) has above)
            (⊎_elim (λ (e : note v ≡ u). absurd (omega (arith, ap (has_number 0) e))) (λ (else : (j ≢ id) × (get_elem? s.views j ≡ some u)). k.first j u else.1 has q above))
            (cut_cases s id v (note v) j u there);
        each = λ j u there.
            let P : View O I → Type 0 = λ z. Fits mark k.log org z in
            ⊎_elim (λ (e : v ≡ u). subst P e f)
            (⊎_elim
            (λ (e : note v ≡ u). subst P e record {
              seen = f.seen;
              told = nil-prefix k.log;
              origin = λ some_part. absurd (omega arith);
              made = tt;
              idle = λ none_there. (refl, refl);
              holding = λ e. Idle-Holding e;
            })
            (λ (else : (j ≢ id) × (get_elem? s.views j ≡ some u)). k.each j u else.1))
            (cut_cases s id v (note v) j u there);
        home = k.home;
      }

  -- the first seat gives a part and the number that it named to a new seat
  pub part_splits : (id : ℕ) (v : View O I) → v.stage ≡ Idle → 1 < v.parts → 0 < has_number 0 v → v.given < v.next → Splits (Keeps origin entries mark org seats) id v (giver v) (newcomer v)
  part_splits id v idle two has_first fresh s k at =
      let views : List (View O I) = set s.views id (giver v) ++ newcomer v ∷ [] in
      let f = k.each id v at in
      let cut : (c : View O I → ℕ) → sum_by c views + c v ≡ sum_by c s.views + c (giver v) + c (newcomer v) = λ c. sum_by-cut c s.views id v (giver v) (newcomer v) at in
      let numbers : (q : ℕ) → sum_by (has_number q) views ≡ sum_by (has_number q) s.views + one_if (v.next == q) = λ q. omega (arith, cut (has_number q)) in
      let unused : (q : ℕ) → v.given < q → sum_by (has_number q) s.views ≡ 0 = λ q above. k.first id v at has_first q above in
      record {
        log = k.log;
        taken = k.taken;
        words = k.words;
        turn = omega (arith, cut has_turn, ap turn_in idle, k.turn);
        one = k.one;
        whole = omega (arith, cut parts, k.whole);
        once = λ q.
            dite (ℕ_discrete v.next q)
            (λ (e : v.next ≡ q). (let none_there : sum_by (has_number q) s.views ≡ 0 = unused q (omega arith) in omega (arith, numbers q, ap one_if (eq-eqb v.next q e))))
            (λ (ne : v.next ≢ q). omega (arith, numbers q, ap one_if (ne_eqb v.next q ne), k.once q));
        unnamed = λ q nonzero none_there. k.unnamed q nonzero (omega (arith, numbers q));
        first = λ j u there has q above.
            ⊎_elim
            (λ (e : giver v ≡ u).
            let P : View O I → Type 0 = λ z. z.given < q → sum_by (has_number q) views ≡ 0 in
            let here : P (giver v) = λ a.
            let ne : v.next ≢ q = λ (same : v.next ≡ q). absurd (omega arith) in
            omega (arith, numbers q, ap one_if (ne_eqb v.next q ne), unused q (omega arith)) in
            subst P e here above)
            (⊎_elim
            (λ (e : newcomer v ≡ u).
            let ne : v.next ≢ 0 = λ (same : v.next ≡ 0). absurd (omega arith) in
            absurd (omega (arith, ap (has_number 0) e, ap one_if (ne_eqb v.next 0 ne))))
            (λ (else : (j ≢ id) × (get_elem? s.views j ≡ some u)). absurd (omega (arith, apart origin entries mark org seats s k id v v at j u else.0 else.1 0 has))))
            (cut_cases s id (giver v) (newcomer v) j u there);
        each = λ j u there.
            let P : View O I → Type 0 = λ z. Fits mark k.log org z in
            ⊎_elim
            (λ (e : giver v ≡ u). subst P e record {
              seen = f.seen;
              told = f.told;
              origin = λ some_part. f.origin (omega arith);
              made = f.made;
              idle = λ none_there. absurd (omega arith);
              holding = λ h. Idle-Holding (sym idle ∙ h);
            })
            (⊎_elim
            (λ (e : newcomer v ≡ u). subst P e record {
              seen = f.seen;
              told = nil-prefix k.log;
              origin = λ some_part. f.origin (omega arith);
              made = (λ nonzero. k.unnamed v.next nonzero (unused v.next fresh), tt);
              idle = λ none_there. absurd (omega arith);
              holding = λ h. Idle-Holding h;
            })
            (λ (else : (j ≢ id) × (get_elem? s.views j ≡ some u)). k.each j u else.1))
            (cut_cases s id (giver v) (newcomer v) j u there);
        home = k.home;
      }

  -- a seat takes in another
  pub joins : (id : ℕ) (v : View O I) (other : ℕ) (w : View O I) → 0 < v.parts → v.stage ≡ Idle → w.stage ≡ Idle → Joins (Keeps origin entries mark org seats) id v other w (joined v w) spent
  joins id v other w some_part idle idle_other s k at ne at_other =
      let both : View O I = joined v w in
      let middle : List (View O I) = set s.views id both in
      let views : List (View O I) = set middle other spent in
      let was : get_elem? s.views other ≡ some w = sym (set_else s.views id other both ne) ∙ at_other in
      let f = k.each id v at in
      let h = k.each other w was in
      let same : (c : View O I → ℕ) → c both ≡ c v + c w → c spent ≡ 0 → sum_by c views ≡ sum_by c s.views = λ c adds_up none_there.
      omega (arith, sum_by-changed c middle other w spent at_other, sum_by-changed c s.views id v both at) in
      let numbers : (q : ℕ) → sum_by (has_number q) views ≡ sum_by (has_number q) s.views = λ q. same (has_number q) (omega (arith, times-append q w.made v.made)) refl in
      let cases : (j : ℕ) (u : View O I) → get_elem? views j ≡ some u → (spent ≡ u) ⊎ ((both ≡ u) ⊎ ((j ≢ id) × (get_elem? s.views j ≡ some u))) = λ j u there.
      ⊎_elim (λ (here : (j ≡ other) × (spent ≡ u)). inl here.1)
      (λ (else : (j ≢ other) × (get_elem? middle j ≡ some u)).
      ⊎_elim (λ (here : (j ≡ id) × (both ≡ u)). inr (inl here.1)) (λ (rest : (j ≢ id) × (get_elem? s.views j ≡ some u)). inr (inr rest)) (at_set s.views id j both u else.1))
      (at_set middle other j spent u there) in
      record {
        log = k.log;
        taken = k.taken;
        words = k.words;
        turn = same has_turn (omega (arith, ap turn_in idle_other)) refl ∙ k.turn;
        one = k.one;
        whole = same parts refl refl ∙ k.whole;
        once = λ q. omega (arith, numbers q, k.once q);
        unnamed = λ q nonzero none_there. k.unnamed q nonzero (sym (numbers q) ∙ none_there);
        first = λ j u there has q above.
            numbers q ∙ ⊎_elim (λ (e : spent ≡ u). absurd (omega (arith, ap (has_number 0) e)))
            (⊎_elim
            (λ (e : both ≡ u).
            let more : v.given + w.given < q = subst (λ (z : View O I). z.given < q) (sym e) above in
            let some_first : 0 < times 0 (w.made ++ v.made) = subst (λ (z : View O I). 0 < has_number 0 z) (sym e) has in
            dite (ℕ_discrete (has_number 0 v) 0)
            (λ (none_here : has_number 0 v ≡ 0). k.first other w was (omega (arith, times-append 0 w.made v.made)) q (omega arith))
            (λ (some_here : has_number 0 v ≢ 0). k.first id v at (omega arith) q (omega arith)))
            (λ (else : (j ≢ id) × (get_elem? s.views j ≡ some u)). k.first j u else.1 has q above))
            (cases j u there);
        each = λ j u there.
            let P : View O I → Type 0 = λ z. Fits mark k.log org z in
            ⊎_elim
            (λ (e : spent ≡ u). subst P e record {
              seen = nil-prefix k.log;
              told = nil-prefix k.log;
              origin = λ some. absurd (omega arith);
              made = tt;
              idle = λ none_there. (refl, refl);
              holding = λ g. Idle-Holding g;
            })
            (⊎_elim
            (λ (e : both ≡ u). subst P e record {
              seen = f.seen;
              told = h.seen;
              origin = λ some. f.origin some_part;
              made = AllMade-append mark k.log w.made v.made h.made f.made;
              idle = λ none_there. absurd (omega arith);
              holding = λ g. Idle-Holding (sym idle ∙ g);
            })
            (λ (else : (j ≢ id) × (get_elem? s.views j ≡ some u)). k.each j u else.1))
            (cases j u there);
        home = k.home;
      }

  -- the same, of a seat that has just said which number it gives next
  pub part_splits_after : (id : ℕ) (v named : View O I) (number parts given next : ℕ) → named ≡ naming next v → IsTied v number parts given → v.stage ≡ Idle → number ≡ 0 → 1 < parts → given < next
      → Splits (Keeps origin entries mark org seats) id named (giver named) (newcomer named)
  part_splits_after id v named number parts given next is tied idle zero_is two fresh =
      let P : View O I → Type 0 = λ z. Splits (Keeps origin entries mark org seats) id z (giver z) (newcomer z) in
      let mine : 0 < has_number 0 v = subst (λ (n : ℕ). 0 < has_number n v) zero_is (has_own number v.made tied.made) in
      subst P (sym is) (part_splits id (naming next v) idle (omega (arith, tied.parts_is)) mine (omega (arith, tied.given_is)))
