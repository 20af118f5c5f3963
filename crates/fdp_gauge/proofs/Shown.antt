-- A step of the teller or of a pass keeps the rule of the cell.
use Rattle.std.proofs.Common.{◌≡◌, ◌≢◌, ℕ, ◌+◌, Bool, true, cond, List, [], ◌∷◌, ◌++◌, length, set, refl, sym, ◌∙◌, ap, subst, ⊎_elim, arith}
use mathlib.Core.Option.{some}
use mathlib.Core.List.{IsPrefix}
use lib.ListN.{get_elem?}
use Rattle.std.proofs.lemmas.List.Sums.{sum_by_push}
use Rattle.atomic_table.proofs.Lists.{at_set, at_snoc, set_else}
use Rattle.crossbeam_utils.specs.Register.{Turns, Forks, Merges}
use Rattle.fdp_base.specs.declared.recorded.Mark.{Mark}
use Rattle.fdp_base.specs.Records.{longer}
use Rattle.fdp_base.proofs.Records.{sum_by-changed, two-le-sum_by, prefix_refl, prefix_trans, prefix_length, prefix_whole, nil-prefix, longer-prefix, prefix-longer, prefix-longer_second}
use Rattle.fdp_gauge.specs.declared.known.Known.{Known}
use Rattle.fdp_gauge.specs.Rule.{counts_of, known, note, nobody, informed, Fits, Shows, Stored, Looked, Learned}

-- 1 where the view is a teller's
abbrev one_teller : Known → ℕ
one_teller v = cond v.tells 1 0

module _ (id : ℕ) (v : Known) where
  -- a step that shows a list, by a view that tells as much as before
  module _ (x : List ℕ) (views : List Known) (k : Shows x views) (at : get_elem? views id ≡ some v) where
    shown_with : (y : List ℕ) (list : List Mark) (w : Known) → y ≡ counts_of list → w.tells ≡ v.tells → Fits list w → ((j : ℕ) (u : Known) → j ≢ id → get_elem? views j ≡ some u → Fits k.list u → Fits list u) → Shows y (set views id w)
    shown_with y list w shown tells fits others = record {
      list = list;
      shown = shown;
      each = λ j u there.
          ⊎_elim (λ (here : (j ≡ id) × (w ≡ u)). subst (Fits list) here.1 fits) (λ (else : (j ≢ id) × (get_elem? views j ≡ some u)). others j u else.0 else.1 (k.each j u else.1)) (at_set views id j w u there);
      one = omega (arith, sum_by-changed one_teller views id v w at, ap {B = ℕ} (λ (b : Bool). cond b 1 0) tells, k.one);
    }

    -- a view is cut in two, and one of the halves tells as much as the whole
    cut : (left right : Known) → cond left.tells 1 0 + cond right.tells 1 0 ≡ one_teller v → Fits k.list left → Fits k.list right → Shows x (set views id left ++ right ∷ [])
    cut left right tells fits_left fits_right = record {
      list = k.list;
      shown = k.shown;
      each = λ j u there.
          ⊎_elim
          (λ (was : get_elem? (set views id left) j ≡ some u).
          ⊎_elim (λ (here : (j ≡ id) × (left ≡ u)). subst (Fits k.list) here.1 fits_left) (λ (else : (j ≢ id) × (get_elem? views j ≡ some u)). k.each j u else.1) (at_set views id j left u was))
          (λ (new : right ≡ u). subst (Fits k.list) new fits_right)
          (at_snoc (set views id left) right u j there);
      one = omega (arith, sum_by_push one_teller (set views id left) right, sum_by-changed one_teller views id v left at, k.one);
    }

  -- the teller tells a list that goes on from the last
  pub stores : (words : List ℕ) (list : List Mark) → v.tells ≡ true → IsPrefix v.seen list → words ≡ counts_of list → Turns Shows id v (λ _. words) (Stored list)
  stores words list tells goes_on counts x views k at =
      let f = k.each id v at in
      let more : IsPrefix k.list list = subst (λ (xs : List Mark). IsPrefix xs list) (f.whole tells) goes_on in (
        known true list [],
        shown_with x views k at words list (known true list []) counts (sym tells) record { seen = prefix_refl list; told = nil-prefix list; whole = λ _. refl }
            (λ j u ne there g. record {
              seen = prefix_trans u.seen k.list list g.seen more;
              told = prefix_trans u.told k.list list g.told more;
              whole = λ theirs.
                  absurd (omega (arith, two-le-sum_by one_teller views j id u v ne there at, ap {B = ℕ} (λ (b : Bool). cond b 1 0) tells, ap {B = ℕ} (λ (b : Bool). cond b 1 0) theirs, k.one));
            }),
        refl,
      )

  -- a pass sees the list
  pub reads : Turns Shows id v (λ x. x) Looked
  reads x views k at =
      let w : Known = known v.tells k.list [] in (
        w,
        shown_with x views k at x k.list w k.shown refl record { seen = prefix_refl k.list; told = nil-prefix k.list; whole = λ _. refl } (λ j u ne there g. g),
        (k.shown, (k.each id v at).seen, refl, refl),
      )

  -- a pass compares what it has seen with what it was told
  pub learns : Turns Shows id v (λ x. x) Learned
  learns x views k at =
      let f = k.each id v at in
      let both : List Mark = longer v.seen v.told in
      let w : Known = known v.tells both [] in
      let begins : IsPrefix v.seen both = prefix-longer v.seen v.told k.list f.seen f.told in
      let whole : v.tells ≡ true → both ≡ k.list = λ tells.
      prefix_whole both k.list (longer-prefix v.seen v.told k.list f.seen f.told) (omega (arith, prefix_length v.seen both begins, ap (λ (xs : List Mark). length xs) (f.whole tells))) in (
        w,
        shown_with x views k at x k.list w k.shown refl record { seen = longer-prefix v.seen v.told k.list f.seen f.told; told = nil-prefix k.list; whole = whole } (λ j u ne there g. g),
        (refl, begins, prefix-longer_second v.seen v.told k.list f.seen f.told, λ tells. whole tells ∙ sym (f.whole tells)),
      )

  -- a pass says what it has seen
  pub notes : Forks Shows id v v (note v)
  notes x views k at =
      let f = k.each id v at in
      cut x views k at v (note v) (omega arith) f record { seen = f.seen; told = nil-prefix k.list; whole = λ tells. absurd (cc) }

  -- a pass is cut off whole
  pub goes_off : Forks Shows id v nobody v
  goes_off x views k at =
      cut x views k at nobody v (omega arith) record { seen = nil-prefix k.list; told = nil-prefix k.list; whole = λ tells. absurd (cc) } (k.each id v at)

  -- a pass is told what another has seen
  pub informs : (other : ℕ) (w : Known) → Merges Shows id v other w (informed v w) nobody
  informs other w x views k at ne at_other =
      let both : Known = informed v w in
      let middle : List Known = set views id both in
      let was : get_elem? views other ≡ some w = sym (set_else views id other both ne) ∙ at_other in
      let f = k.each id v at in
      record {
        list = k.list;
        shown = k.shown;
        each = λ j u there.
            ⊎_elim
            (λ (here : (j ≡ other) × (nobody ≡ u)). subst (Fits k.list) here.1 record { seen = nil-prefix k.list; told = nil-prefix k.list; whole = λ tells. absurd (cc) })
            (λ (else : (j ≢ other) × (get_elem? middle j ≡ some u)).
            ⊎_elim
            (λ (here : (j ≡ id) × (both ≡ u)). subst (Fits k.list) here.1 record { seen = f.seen; told = (k.each other w was).seen; whole = f.whole })
            (λ (rest : (j ≢ id) × (get_elem? views j ≡ some u)). k.each j u rest.1)
            (at_set views id j both u else.1))
            (at_set middle other j nobody u there);
        one = omega (arith, sum_by-changed one_teller middle other w nobody at_other, sum_by-changed one_teller views id v both at, k.one);
      }
