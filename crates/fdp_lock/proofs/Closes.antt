-- What the table has when all parts are in one view.
use Rattle.std.proofs.Common.{◌≡◌, ◌≢◌, ◌==◌, ℕ, zero, suc, ◌+◌, ◌<◌, ◌≤◌, Bool, true, false, ne_eqb, List, [], ◌∷◌, Option, Some, sum_by, refl, sym, ◌∙◌, ap, subst, arith}
use mathlib.Core.Option.{some, some-injective, some-ne-none}
use mathlib.Core.List.{IsPrefix}
use lib.ListN.{get_elem?}
use Rattle.std.proofs.lemmas.List.Sums.{sum_by-cons}
use Rattle.atomic_table.specs.Table.{Final, Seen, opening}
use Rattle.fdp_base.specs.declared.recorded.Mark.{Mark}
use Rattle.fdp_base.specs.Records.{carrying, CarriesNone}
use Rattle.fdp_base.proofs.Records.{two-le-sum_by, prefix_refl, nil-prefix, carrying-none}
use Rattle.fdp_lock.specs.declared.view.View.{View}
use Rattle.fdp_lock.specs.declared.view.Stage.TheVariants.{Idle}
use Rattle.fdp_lock.specs.Rule.{turn_in, parts, has_turn, has_number, AllMade, Fits, AtHome, first_view}
use Rattle.fdp_lock.specs.Gathers.{Ends}
use Rattle.fdp_lock.proofs.Moves.{one_if, times, Keeps}
use Rattle.fdp_lock.proofs.Turns.{Idle-Holding}

-- what only one view has is its own
sum_by-alone : {V : Type 0} (f : V → ℕ) (vs : List V) (i : ℕ) (v : V) → get_elem? vs i ≡ some v → ((j : ℕ) (u : V) → j ≢ i → get_elem? vs j ≡ some u → f u ≡ 0) → sum_by f vs ≡ f v
sum_by-alone f [] i v at others = absurd (some-ne-none v (sym at))
sum_by-alone f (x ∷ xs) zero v at others =
    omega (arith, sum_by-cons f x xs, ap f (some-injective x v at), sum_by-nothing f xs (λ j u there. others (suc j) u (λ e. absurd (omega arith)) there))
  where
    sum_by-nothing : {V : Type 0} (f : V → ℕ) (vs : List V) → ((j : ℕ) (u : V) → get_elem? vs j ≡ some u → f u ≡ 0) → sum_by f vs ≡ 0
    sum_by-nothing f [] nothing = refl
    sum_by-nothing f (x ∷ xs) nothing = omega (arith, sum_by-cons f x xs, nothing 0 x refl, sum_by-nothing f xs (λ j u there. nothing (suc j) u there))
sum_by-alone f (x ∷ xs) (suc i) v at others =
    omega (arith, sum_by-cons f x xs, others 0 x (λ e. absurd (omega arith)) refl, sum_by-alone f xs i v at (λ j u ne there. others (suc j) u (λ e. ne (omega arith)) there))

one_if-le : (b : Bool) → one_if b ≤ 1
one_if-le true = omega arith
one_if-le false = omega arith

at_single : {A : Type 0} (x u : A) (j : ℕ) → get_elem? (x ∷ []) j ≡ some u → x ≡ u
at_single x u zero e = some-injective x u e
at_single x u (suc j) e = absurd (some-ne-none u (sym e))

module _ {S O I : Type 0} (origin : S → O) (entries : S → List I) (mark : I → Mark) (org : O) (seats : ℕ) where
  -- the rule at the opening
  pub opens : (start : S) → origin start ≡ org → 0 < seats → CarriesNone mark (entries start) → Keeps origin entries mark org seats (opening (0 ∷ []) (Some start ∷ []) (first_view org (entries start) seats))
  opens start org_is some_seat none_marked =
      let v : View O I = first_view org (entries start) seats in
      record {
        log = entries start;
        taken = 0;
        words = refl;
        turn = refl;
        one = omega arith;
        whole = omega arith;
        once = λ q. omega (arith, one_if-le (0 == q));
        unnamed = λ q nonzero none_there. carrying-none mark q (entries start) none_marked nonzero;
        first = λ j u there has q above.
            let P : View O I → Type 0 = λ z. z.given < q → 0 + (0 + one_if (0 == q)) ≡ 0 in
            let here : P v = λ a. (let ne : 0 ≢ q = λ (e : 0 ≡ q). absurd (omega arith) in omega (arith, ap one_if (ne_eqb 0 q ne))) in
            subst P (at_single v u j there) here above;
        each = λ j u there.
            let P : View O I → Type 0 = λ z. Fits mark (entries start) org z in
            subst P (at_single v u j there) record {
              seen = prefix_refl (entries start);
              told = nil-prefix (entries start);
              origin = λ some_part. refl;
              made = (λ nonzero. absurd (nonzero refl), tt);
              idle = λ none_there. absurd (omega arith);
              holding = λ e. Idle-Holding e;
            };
        home = λ _. (start, refl, refl, org_is);
      }

  pub ends : (id : ℕ) (v : View O I) (words : List ℕ) (slots : List (Option S)) → v.stage ≡ Idle → v.parts ≡ seats → 0 < seats → Final (Seen (Keeps origin entries mark org seats) id v) words slots
      → (x : S) × (get_elem? slots 0 ≡ some (Some x)) × Ends origin entries mark v x
  ends id v words slots idle whole some_seat final =
      let s = final.0 in
      let k : Keeps origin entries mark org seats s = final.1.0 in
      let at : get_elem? s.views id ≡ some v = final.1.1 in
      let f = k.each id v at in
      let no_part : (j : ℕ) (u : View O I) → j ≢ id → get_elem? s.views j ≡ some u → u.parts ≡ 0 = λ j u ne there.
      omega (arith, two-le-sum_by (parts {O = O} {I = I}) s.views j id u v ne there at, k.whole) in
      let nothing : (j : ℕ) (u : View O I) → j ≢ id → get_elem? s.views j ≡ some u → (u.made ≡ []) × (u.stage ≡ Idle) = λ j u ne there. (k.each j u there).idle (no_part j u ne there) in
      let only : (q : ℕ) → sum_by (has_number q) s.views ≡ has_number q v = λ q.
      sum_by-alone (has_number {O = O} {I = I} q) s.views id v at (λ j u ne there. ap (times q) (nothing j u ne there).0) in
      let idle_alone : sum_by has_turn s.views ≡ 0 = sum_by-alone (has_turn {O = O} {I = I}) s.views id v at (λ j u ne there. ap turn_in (nothing j u ne there).1) ∙ ap turn_in idle in
      let home : AtHome {I = I} origin entries k.log org s.homes = k.home (sym k.turn ∙ idle_alone) in
      let x : S = home.0 in (
        x,
        final.4 0 (Some x) (ap (λ hs. get_elem? hs 0) home.1),
        record {
          origin_is = f.origin (omega arith) ∙ ap (λ (o : O). Some o) (sym home.3);
          seen = subst (λ (xs : List I). IsPrefix v.seen xs) (sym home.2) f.seen;
          made = subst (λ (xs : List I). AllMade mark xs v.made) (sym home.2) f.made;
          others = λ q nonzero none_here. ap (carrying mark q) home.2 ∙ k.unnamed q nonzero (only q ∙ none_here);
        },
      )

  -- the same of what was taken out of the slot
  pub ends_with : (id : ℕ) (v : View O I) (words : List ℕ) (slots : List (Option S)) (y : Option S) → v.stage ≡ Idle → v.parts ≡ seats → 0 < seats → Final (Seen (Keeps origin entries mark org seats) id v) words slots
      → get_elem? slots 0 ≡ some y → (x : S) × (y ≡ Some x) × Ends origin entries mark v x
  ends_with id v words slots y idle whole some_seat final taken =
      let e = ends id v words slots idle whole some_seat final in
      (e.0, some-injective y (Some e.0) (sym taken ∙ e.1), e.2)
