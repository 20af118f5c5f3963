-- What a turn does on the table keeps the rule: take the value, and give it back.
use Rattle.std.proofs.Common.{◌≡◌, ◌≢◌, ◌==◌, ℕ, ◌<◌, cond, eqb, List, [], ◌∷◌, ◌++◌, length, drop, set, slice_index, slice_set, Option, Some, None, eq-eqb, refl, sym, ◌∙◌, ap, subst, arith}
use mathlib.Core.Option.{some, none}
use mathlib.Core.List.{IsPrefix, append-nil}
use mathlib.Core.Logic.{dite}
use native.Mathlib.Decide.{ℕ_discrete}
use prog.Atomic.{either}
use lib.ListN.{get_elem?}
use Rattle.std.proofs.lemmas.List.Sums.{sum_by-cons}
use Rattle.atomic_table.specs.Table.{State, Step, Act, Allows, Valid, keeps, takes, gives, homes_after, carried_after, rest}
use Rattle.atomic_table.proofs.Lists.{set_again, exchanged}
use Rattle.fdp_base.specs.declared.recorded.Mark.{Mark}
use Rattle.fdp_base.specs.Records.{carrying, CarriesOnly, longer}
use Rattle.fdp_base.proofs.Records.{at-le-sum_by, two-le-sum_by, prefix_refl, prefix_trans, prefix_rest, nil-prefix, longer-prefix, prefix-longer, prefix-longer_second, carrying-only, carrying-append}
use Rattle.fdp_lock.specs.declared.view.View.{View}
use Rattle.fdp_lock.specs.declared.view.Stage.TheVariants.{Idle, Holding}
use Rattle.fdp_lock.specs.Rule.{turn_in, parts, has_turn, has_number, AllMade, own}
use Rattle.fdp_lock.specs.Steps.{Place, adds, holding, telling, resting, naming, learning, Finds, Takes, Gives, Names, Learns}
use Rattle.fdp_lock.proofs.Moves.{one_if, times, Keeps, Homes, after, Moves, moved}

pub Idle-Holding : {A : Type 0} → Idle ≡ Holding → A
Idle-Holding e = cc

pub one_here : (n : ℕ) → one_if (n == n) ≡ 1
one_here n = ap one_if (eq-eqb n n refl)

-- a view with one number has it
pub has_own : {I : Type 0} (number : ℕ) (ms : List (ℕ × List I)) → ms ≡ (number, own ms) ∷ [] → 0 < times number ms
has_own {I} number ms e =
    let P : List (ℕ × List I) → Type 0 = λ ns. 0 < times number ns in
    subst P (sym e) (omega (arith, one_here number))

-- the value in the slot that was taken last
slot_value : {S : Type 0} → S → List (ℕ × S) → S
slot_value d [] = d
slot_value d (c ∷ cs) = c.1

same_value : {S : Type 0} (x y : S) (c : List (ℕ × Option S)) → c ≡ (0, Some x) ∷ [] → c ≡ (0, Some y) ∷ [] → x ≡ y
unfolding slot_value
same_value x y c e d = let both : Some x ≡ Some y = ap (slot_value None) (sym e ∙ d) in cc

-- the one slot that is out is the one that was taken last
pub taken_last : {S : Type 0} (y : S) (c : List (ℕ × S)) → c ≡ (0, y) ∷ [] → c ≡ (0, y) ∷ rest c
taken_last y c e = e ∙ ap (λ (d : List (ℕ × _)). (0, y) ∷ rest d) (sym e)

-- the one slot of a table
one_slot : {A : Type 0} (hs : List A) (a : A) → length hs ≡ 1 → slice_set hs 0 a ≡ a ∷ []
one_slot [] a e = absurd (omega arith)
one_slot (h ∷ []) a e = refl
one_slot (h ∷ g ∷ hs) a e = absurd (omega arith)

-- the new entries go under their numbers
module _ {I : Type 0} (mark : I → Mark) (new : List I) where
  times-adds : (q : ℕ) (ms : List (ℕ × List I)) → times q (adds mark new ms) ≡ times q ms
  times-adds q [] = refl
  times-adds q (m ∷ ms) =
      let f : ℕ × List I → ℕ = λ n. cond (eqb n.0 q) 1 0 in
      omega (arith, sum_by-cons f m ms, sum_by-cons f (m.0, m.1 ++ carrying mark m.0 new) (adds mark new ms), times-adds q ms)

  AllMade-adds : (log : List I) (ms : List (ℕ × List I)) → AllMade mark log ms → AllMade mark (log ++ new) (adds mark new ms)
  AllMade-adds log [] made = tt
  AllMade-adds log (m ∷ ms) made =
      (λ nonzero. carrying-append mark m.0 log new ∙ ap (λ (xs : List I). xs ++ carrying mark m.0 new) (made.0 nonzero), AllMade-adds log ms made.1)

module _ {S O I : Type 0} (origin : S → O) (entries : S → List I) (mark : I → Mark) (org : O) (seats : ℕ) where
  module _ (s : State (Option S) (View O I)) (k : Keeps origin entries mark org seats s) where
    unchanged : (id : ℕ) (v : View O I) → get_elem? s.views id ≡ some v → Keeps origin entries mark org seats (after origin entries mark org seats k.taken s.homes (set s.views id v))
    unchanged id v at =
        let back : s.views ≡ set s.views id v = sym (set_again s.views id v at) in
        let same : s ≡ after origin entries mark org seats k.taken s.homes (set s.views id v) = λ i. record { words = k.words i; homes = s.homes; views = back i } in
        subst (Keeps origin entries mark org seats) same k

    -- one view at most has the turn
    one_turn : (i j : ℕ) (v u : View O I) → i ≢ j → get_elem? s.views i ≡ some v → get_elem? s.views j ≡ some u → v.stage ≡ Holding → u.stage ≡ Holding → ⊥
    one_turn i j v u ne at there mine theirs =
        absurd (omega (arith, two-le-sum_by (has_turn {O = O} {I = I}) s.views i j v u ne at there, k.turn, k.one, ap turn_in mine, ap turn_in theirs))

    -- a step that changes no word and no slot, of a seat that has no turn
    idle_moves : (id : ℕ) (v w : View O I) → get_elem? s.views id ≡ some v → v.stage ≡ Idle → w.stage ≡ Idle → w.parts ≡ v.parts → w.given ≡ v.given → w.origin ≡ v.origin → w.made ≡ v.made → IsPrefix w.seen k.log → IsPrefix w.told k.log
        → Moves origin entries mark org seats s k id v w k.log k.taken s.homes
    idle_moves id v w at idle idle_after parts given origin_is made seen told =
        let f = k.each id v at in
        record {
          parts = parts;
          turn = omega (arith, ap turn_in idle, ap turn_in idle_after);
          one = k.one;
          numbers = λ q. ap (times q) made;
          given = given;
          goes_on = prefix_refl k.log;
          others = λ q nonzero none_there. refl;
          fits = record {
            seen = seen;
            told = told;
            origin = λ some_part. origin_is ∙ f.origin (omega arith);
            made = subst (AllMade mark k.log) (sym made) f.made;
            idle = λ none_there. (made ∙ (f.idle (sym parts ∙ none_there)).0, idle_after);
            holding = λ e. Idle-Holding (sym idle_after ∙ e);
          };
          quiet = λ j u ne there. (k.each j u there).holding;
          home = k.home;
        }

  -- what a step gives, of a state with these words
  abbrev Permits : (id : ℕ) (me : Place S O I) (f : ℕ → ℕ) (then : ℕ → Place S O I → Type 0) → State (Option S) (View O I) → List ℕ → Type 0
  Permits id me f then s ws = (x : View O I) × (a : Act (Option S)) × Valid s.homes me.1 a
      × Keeps origin entries mark org seats record { words = slice_set ws 0 (f (slice_index ws 0)); homes = homes_after s.homes me.1 a; views = slice_set s.views id x }
      × then (slice_index ws 0) (x, carried_after me.1 a)

  -- a seat takes the value where it is at home
  pub may_take : (slots id : ℕ) (me : Place S O I) (st : Step (Option S)) → me.0.stage ≡ Idle → 0 < me.0.parts → Allows (Keeps origin entries mark org seats) slots id me 0 (λ _. 1) (Takes origin entries mark st me)
  may_take slots id me st idle some_part s k slots_are at small =
      let v : View O I = me.0 in
      let f = k.each id v at in
      let P : List ℕ → Type 0 = Permits id me (λ _. 1) (Takes origin entries mark st me) s in
      subst P (sym k.words)
      (dite (ℕ_discrete k.taken 0)
      (λ (e : k.taken ≡ 0).
      let h = k.home e in
      let x : S = h.0 in
      let w : View O I = holding (entries x) v in
      let m : Moves origin entries mark org seats s k id v w k.log 1 (none ∷ []) = record {
        parts = refl;
        turn = omega (arith, e, ap turn_in idle);
        one = omega arith;
        numbers = λ q. refl;
        given = refl;
        goes_on = prefix_refl k.log;
        others = λ q nonzero none_there. refl;
        fits = record {
          seen = subst (λ (xs : List I). IsPrefix xs k.log) (sym h.2) (prefix_refl k.log);
          told = f.told;
          origin = f.origin;
          made = f.made;
          idle = λ none_there. absurd (omega arith);
          holding = λ _. h.2;
        };
        quiet = λ j u ne there. (k.each j u there).holding;
        home = λ out. absurd (omega arith);
      } in
      let done = moved origin entries mark org seats s k id v w at k.log 1 (none ∷ []) m in
      let taken : slice_set s.homes 0 none ≡ none ∷ [] = ap (λ hs. slice_set hs 0 none) h.1 in
      let R : Homes origin entries mark org seats → Type 0 = λ hs. Keeps origin entries mark org seats record { words = 1 ∷ []; homes = hs; views = set s.views id w } in
      let finds : Finds origin entries mark x v = record {
        seen = subst (λ (xs : List I). IsPrefix v.seen xs) (sym h.2) f.seen;
        made = subst (λ (xs : List I). AllMade mark xs v.made) (sym h.2) f.made;
        origin_is = f.origin some_part ∙ ap (λ (o : O). Some o) (sym h.3);
      } in (w, takes 0 (Some x), ap (λ hs. get_elem? hs 0) h.1, subst R (sym taken) done, (λ r. (x, refl, finds), λ ne. absurd (ne e))))
      (λ (ne : k.taken ≢ 0).
      let out : k.taken ≡ 1 = omega (arith, k.one) in
      let R : ℕ → Type 0 = λ n. Keeps origin entries mark org seats record { words = n ∷ []; homes = s.homes; views = set s.views id v } in
      (v, keeps, tt, subst R out (unchanged s k id v at), (λ r. absurd (ne r), λ r. refl))))

  -- a seat gives the value back, to which it added entries with its own number or 0
  pub may_give : (slots id : ℕ) (me : Place S O I) (st : Step (Option S)) (number : ℕ) (x : S) → slots ≡ 1 → me.0.stage ≡ Holding → me.1 ≡ (0, Some x) ∷ [] → me.0.made ≡ (number, own me.0.made) ∷ [] → 0 < me.0.parts
      → me.0.origin ≡ Some (origin x) → IsPrefix me.0.seen (entries x) → CarriesOnly mark number (drop (length me.0.seen) (entries x)) → Allows (Keeps origin entries mark org seats) slots id me 0 (λ _. 0) (λ _. Gives entries mark st me 0)
  may_give slots id me st number x one_is holds out numbered some_part same_origin longer only s k slots_are at small =
      let v : View O I = me.0 in
      let f = k.each id v at in
      let log : List I = entries x in
      let new : List I = drop (length v.seen) log in
      let w : View O I = resting (telling mark log v) in
      let whole : v.seen ++ new ≡ log = prefix_rest v.seen log longer in
      let split : k.log ++ new ≡ log = ap (λ (xs : List I). xs ++ new) (sym (f.holding holds)) ∙ whole in
      let mine : 0 < has_number number v = has_own number v.made numbered in
      let org_is : origin x ≡ org = (let both : Some (origin x) ≡ Some org = sym same_origin ∙ f.origin some_part in cc) in
      let home : Homes origin entries mark org seats = some (Some x) ∷ [] in
      let m : Moves origin entries mark org seats s k id v w log 0 home = record {
        parts = refl;
        turn = omega (arith, at-le-sum_by (has_turn {O = O} {I = I}) s.views id v at, k.turn, k.one, ap turn_in holds);
        one = omega arith;
        numbers = λ q. times-adds mark new q v.made;
        given = refl;
        goes_on = (new, split);
        others = λ q nonzero none_there.
            let ne : q ≢ number = λ (e : q ≡ number). absurd (omega (arith, ap (λ (n : ℕ). has_number n v) e)) in
            ap (carrying mark q) (sym split) ∙ carrying-append mark q k.log new ∙ ap (λ (ys : List I). carrying mark q k.log ++ ys) (carrying-only mark number q new only nonzero ne) ∙ append-nil (carrying mark q k.log);
        fits = record {
          seen = prefix_refl log;
          told = prefix_trans v.told k.log log f.told (new, split);
          origin = f.origin;
          made = subst (λ (xs : List I). AllMade mark xs (adds mark new v.made)) split (AllMade-adds mark new k.log v.made f.made);
          idle = λ none_there. absurd (omega arith);
          holding = λ e. Idle-Holding e;
        };
        quiet = λ j u ne there e. absurd (one_turn s k id j v u (λ (same : id ≡ j). ne (sym same)) at there holds e);
        home = λ _. (x, refl, refl, org_is);
      } in
      let done = moved origin entries mark org seats s k id v w at log 0 home m in
      let back : homes_after s.homes me.1 gives ≡ home = (λ i. homes_after s.homes (out i) gives) ∙ one_slot s.homes (some (Some x)) (slots_are ∙ one_is) in
      let R : Homes origin entries mark org seats → Type 0 = λ hs. Keeps origin entries mark org seats record { words = 0 ∷ []; homes = hs; views = set s.views id w } in
      let P : List ℕ → Type 0 = Permits id me (λ _. 0) (λ _. Gives entries mark st me 0) s in
      subst P (sym k.words) (
        w,
        gives,
        tt,
        subst R (sym back) done,
        λ y e. let same : x ≡ y = same_value x y me.1 out e in λ i. (resting (telling mark (entries (same i)) v), rest (out i)),
      )

  -- the same, of the seat that has just put the value back into its slot
  pub may_give_after : (slots id : ℕ) (v : View O I) (me : Place S O I) (st : Step (Option S)) (number : ℕ) (x : S) → slots ≡ 1 → me ≡ (v, (0, Some x) ∷ []) → v.stage ≡ Holding → v.made ≡ (number, own v.made) ∷ [] → 0 < v.parts
      → v.origin ≡ Some (origin x) → IsPrefix v.seen (entries x) → CarriesOnly mark number (drop (length v.seen) (entries x)) → Allows (Keeps origin entries mark org seats) slots id me 0 (λ _. 0) (λ _. Gives entries mark st me 0)
  may_give_after slots id v me st number x one_is put holds numbered some_part same_origin longer only =
      let P : Place S O I → Type 0 = λ m. Allows (Keeps origin entries mark org seats) slots id m 0 (λ _. 0) (λ _. Gives entries mark st m 0) in
      subst P (sym put) (may_give slots id (v, (0, Some x) ∷ []) st number x one_is holds refl numbered some_part same_origin longer only)

  -- a seat says which number it gives next
  pub names : (slots id : ℕ) (me : Place S O I) (st : Step (Option S)) (q : ℕ) → me.0.stage ≡ Idle → Allows (Keeps origin entries mark org seats) slots id me 0 (λ n. either (n == q) q n) (Names st me)
  names slots id me st q idle s k slots_are at small =
      let v : View O I = me.0 in
      let f = k.each id v at in
      let w : View O I = naming st.first v in
      let m = idle_moves s k id v w at idle idle refl refl refl refl f.seen f.told in
      let done = moved origin entries mark org seats s k id v w at k.log k.taken s.homes m in
      let same : (n : ℕ) → either (n == q) q n ≡ n = λ n. exchanged n q q (λ z. z ≡ n) (λ e. sym e) (λ _. refl) in
      let R : ℕ → Type 0 = λ n. Keeps origin entries mark org seats record { words = n ∷ []; homes = s.homes; views = set s.views id w } in
      let P : List ℕ → Type 0 = Permits id me (λ n. either (n == q) q n) (Names st me) s in
      subst P (sym k.words) (w, keeps, tt, subst R (sym (same k.taken)) done, refl)

  -- a seat compares what it has seen with what it was told
  pub learns : (slots id : ℕ) (me : Place S O I) (st : Step (Option S)) → me.0.stage ≡ Idle → Allows (Keeps origin entries mark org seats) slots id me 0 (λ n. n) (Learns st me)
  learns slots id me st idle s k slots_are at small =
      let v : View O I = me.0 in
      let f = k.each id v at in
      let w : View O I = learning v in
      let m = idle_moves s k id v w at idle idle refl refl refl refl (longer-prefix v.seen v.told k.log f.seen f.told) (nil-prefix k.log) in
      let done = moved origin entries mark org seats s k id v w at k.log k.taken s.homes m in
      let P : List ℕ → Type 0 = Permits id me (λ n. n) (Learns st me) s in
      subst P (sym k.words) (w, keeps, tt, done, (refl, prefix-longer v.seen v.told k.log f.seen f.told, prefix-longer_second v.seen v.told k.log f.seen f.told))
