-- One seat after another is taken in.
use Rattle.std.proofs.Common.{◌≡◌, ◌≢◌, ℕ, zero, suc, List, [], ◌∷◌, ◌++◌, Option, All, slice_index_or, append_assoc, ne_eqb, sym, ◌∙◌, ap, subst, arith}
use mathlib.Core.List.{IsPrefix}
use Rattle.std.proofs.lemmas.List.Sums.{sum_by-cons}
use Rattle.atomic_table.specs.Seated.{TableId}
use Rattle.atomic_table.specs.declared.shared.Seat.{Seat as Token}
use Rattle.fdp_base.specs.declared.recorded.Mark.{Mark}
use Rattle.fdp_base.specs.Records.{carrying}
use Rattle.fdp_base.proofs.Records.{prefix_refl, prefix_trans}
use Rattle.fdp_lock.specs.declared.seat.Seat.{Seat}
use Rattle.fdp_lock.specs.declared.view.View.{View}
use Rattle.fdp_lock.specs.Gathers.{Ends, Gathered, takes_in}
use Rattle.fdp_lock.specs.Rule.{has_number, own, AllMade}
use Rattle.fdp_lock.specs.Seats.{number_of, parts_of, seen_of, made_of, HasOrigin, HoldsNoTurn, GoesOn}
use Rattle.fdp_lock.proofs.Moves.{one_if, times}
use Rattle.fdp_lock.proofs.Shares.{times-append}

module _ {X : Type 0} (P : X → Type 0) where
  pub All-pair : (x : X) (xs : List X) → P x → All P xs → All P (x ∷ xs)
  All-pair x xs here there zero d lt = here
  All-pair x xs here there (suc k) d lt = there k d (omega arith)

  pub All-head : (x : X) (xs : List X) → All P (x ∷ xs) → P x
  All-head x xs all = all 0 x (omega arith)

  pub All-tail : (x : X) (xs : List X) → All P (x ∷ xs) → All P xs
  All-tail x xs all k d lt = all (suc k) d (omega arith)

  pub All-middle : (front : List X) (x : X) (back : List X) → All P (front ++ x ∷ back) → P x
  All-middle [] x back all = All-head x back all
  All-middle (y ∷ ys) x back all = All-middle ys x back (All-tail y (ys ++ x ∷ back) all)

  -- the last of the elements that are left, where all are those and others behind
  pub All-last : (all left done rest : List X) (x : X) → all ≡ left ++ done → left ≡ rest ++ x ∷ [] → All P all → P x
  All-last all left done rest x split last holds = All-middle rest x done (subst (All P) (regrouped all left done rest x split last) holds)
    where
      regrouped : {Y : Type 0} (all left done rest : List Y) (x : Y) → all ≡ left ++ done → left ≡ rest ++ x ∷ [] → all ≡ rest ++ x ∷ done
      regrouped all left done rest x split last = split ∙ ap (λ (xs : List _). xs ++ done) last ∙ append_assoc rest (x ∷ []) done

module _ {S O I : Type 0} {g : _} where
  -- what the seats' own fields say
  one_number : (q : ℕ) (s : Seat S O I g) → number_of s ≢ q → has_number q s.token.me.0 ≡ 0
  one_number q s ne =
      let P : List (ℕ × List I) → Type 0 = λ ms. times q ms ≡ 0 in
      subst P (sym s.tied.made) (omega (arith, ap one_if (ne_eqb s.number q ne)))

  own_made : (mark : I → Mark) (log : List I) (s : Seat S O I g) → AllMade mark log s.token.me.0.made → number_of s ≢ 0 → carrying mark (number_of s) log ≡ made_of s
  own_made mark log s made = (subst (AllMade mark log) s.tied.made made).0

  module _ (mark : I → Mark) (table : TableId) (org : O) where
    pub gathered_first : (s : Seat S O I g) → s.token.table_id ≡ table → HasOrigin s org → HoldsNoTurn s → Gathered mark table org (s ∷ []) s.token
    gathered_first s of_table has_origin free = record {
      of_table = of_table;
      rests = free;
      origin_is = has_origin;
      some_part = omega (arith, s.tied.parts_is, s.tied.some_part);
      parts_are = omega (arith, s.tied.parts_is);
      seen = All-pair (λ (x : Seat S O I g). IsPrefix (seen_of x) s.token.me.0.seen) s [] (prefix_refl (seen_of s)) (λ k d lt. absurd (omega arith));
      made = λ log all. All-pair (λ (x : Seat S O I g). number_of x ≢ 0 → carrying mark (number_of x) log ≡ made_of x) s [] (own_made mark log s all) (λ k d lt. absurd (omega arith));
      others = λ q none_here. one_number q s (All-head (λ (x : Seat S O I g). number_of x ≢ q) s [] none_here);
    }

    pub gathered_more : (s : Seat S O I g) (done : List (Seat S O I g)) (t u : Token (Option S) (View O I)) → HoldsNoTurn s → Gathered mark table org done t → u.table_id ≡ t.table_id → u.me ≡ (takes_in t.me.0 s.token.me.0, [])
        → IsPrefix t.me.0.seen u.me.0.seen → IsPrefix (seen_of s) u.me.0.seen → Gathered mark table org (s ∷ done) u
    gathered_more s done t u free k same_table is theirs mine =
        let v : View O I = t.me.0 in
        let w : View O I = s.token.me.0 in
        let now : View O I = u.me.0 in
        let is_view : now ≡ takes_in v w = ap (λ m. m.0) is in
        record {
          of_table = same_table ∙ k.of_table;
          rests = (ap (λ (z : View O I). z.stage) is_view ∙ k.rests.0, ap (λ m. m.1) is);
          origin_is = ap (λ (z : View O I). z.origin) is_view ∙ k.origin_is;
          some_part = omega (arith, ap (λ (z : View O I). z.parts) is_view, k.some_part);
          parts_are = omega (arith, ap (λ (z : View O I). z.parts) is_view, k.parts_are, s.tied.parts_is, sum_by-cons (λ (x : Seat S O I g). parts_of x) s done);
          seen = All-pair (λ (x : Seat S O I g). IsPrefix (seen_of x) now.seen) s done mine (λ j d lt. (let x : Seat S O I g = slice_index_or done j d in prefix_trans (seen_of x) v.seen now.seen (k.seen j d lt) theirs));
          made = λ log all.
              let both : AllMade mark log (w.made ++ v.made) = subst (AllMade mark log) (ap (λ (z : View O I). z.made) is_view) all in
              let split : AllMade mark log ((s.number, own w.made) ∷ v.made) = subst (λ (ms : List (ℕ × List I)). AllMade mark log (ms ++ v.made)) s.tied.made both in
              All-pair (λ (x : Seat S O I g). number_of x ≢ 0 → carrying mark (number_of x) log ≡ made_of x) s done split.0 (k.made log split.1);
          others = λ q none_here.
              let P : Seat S O I g → Type 0 = λ x. number_of x ≢ q in
              omega (arith, ap (λ (z : View O I). has_number q z) is_view, times-append q w.made v.made, one_number q s (All-head P s done none_here), k.others q (All-tail P s done none_here));
        }

    -- the value that ends the lock goes on from each of the seats that were taken in
    pub all_go_on : (origin : S → O) (entries : S → List I) (seats : List (Seat S O I g)) (t : Token (Option S) (View O I)) (x : S) → Gathered mark table org seats t → Ends origin entries mark t.me.0 x → All (λ s. HasOrigin s org) seats
        → All (λ s. GoesOn origin entries mark s x) seats
    all_go_on origin entries seats t x k e has_origin j d lt =
        let s : Seat S O I g = slice_index_or seats j d in
        record {
          origin_is = has_origin j d lt ∙ (sym k.origin_is ∙ e.origin_is);
          seen = prefix_trans (seen_of s) t.me.0.seen (entries x) (k.seen j d lt) e.seen;
          made = k.made (entries x) e.made j d lt;
        }

    -- what a loop knows that takes the seats from the end
    abbrev pub GathersFrom : List (Seat S O I g) → List (Seat S O I g) → Token (Option S) (View O I) → Type 0
    GathersFrom all left t = (done : List (Seat S O I g)) × (all ≡ left ++ done) × Gathered mark table org done t
