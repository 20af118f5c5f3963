-- A step of one seat on the table keeps the rule.
use Rattle.std.proofs.Common.{◌≡◌, ◌≢◌, ◌==◌, ℕ, ◌+◌, ◌<◌, ◌≤◌, Bool, true, cond, eqb, List, [], ◌∷◌, set, Option, sum_by, count_by, eq-eqb, refl, ◌∙◌, ap, subst, ⊎_elim, arith}
use mathlib.Core.Option.{some}
use mathlib.Core.List.{IsPrefix}
use lib.ListN.{get_elem?}
use Rattle.std.proofs.lemmas.List.Sums.{sum_by-cons}
use Rattle.atomic_table.specs.Table.{State}
use Rattle.atomic_table.proofs.Lists.{at_set}
use Rattle.fdp_base.specs.declared.recorded.Mark.{Mark}
use Rattle.fdp_base.specs.Records.{carrying}
use Rattle.fdp_base.proofs.Records.{sum_by-changed, sum_by-kept, at-le-sum_by, two-le-sum_by, prefix_trans}
use Rattle.fdp_lock.specs.declared.view.View.{View}
use Rattle.fdp_lock.specs.declared.view.Stage.TheVariants.{Holding}
use Rattle.fdp_lock.specs.Rule.{parts, has_turn, has_number, AllMade, Fits, AtHome, Held}

abbrev pub times : {I : Type 0} → ℕ → List (ℕ × List I) → ℕ
times q ms = count_by (λ m. m.0 == q) ms

-- of a longer record the entries with these numbers are the same
pub AllMade-longer : {I : Type 0} (mark : I → Mark) (log more : List I) (ms : List (ℕ × List I)) → ((q : ℕ) → q ≢ 0 → 0 < times q ms → carrying mark q more ≡ carrying mark q log) → AllMade mark log ms → AllMade mark more ms
AllMade-longer mark log more [] same made = tt
AllMade-longer {I} mark log more (m ∷ ms) same made =
    let here : eqb m.0 m.0 ≡ true = eq-eqb m.0 m.0 refl in
    let once : 0 < times m.0 (m ∷ ms) = omega (arith, sum_by-cons (λ (n : ℕ × List I). cond (eqb n.0 m.0) 1 0) m ms, ap {B = ℕ} (λ (b : Bool). cond b 1 0) here) in (
      (λ nonzero. same m.0 nonzero once ∙ made.0 nonzero),
      AllMade-longer mark log more ms (λ q nonzero some_there. same q nonzero (omega (arith, sum_by-cons (λ (n : ℕ × List I). cond (eqb n.0 q) 1 0) m ms))) made.1,
    )

abbrev pub one_if : Bool → ℕ
one_if b = cond b 1 0

module _ {S O I : Type 0} (origin : S → O) (entries : S → List I) (mark : I → Mark) (org : O) (seats : ℕ) where
  abbrev pub Keeps : State (Option S) (View O I) → Type 0
  Keeps s = Held origin entries mark org seats s

  abbrev pub Homes : Type 0
  Homes = List (mathlib.Core.Option.Option (Option S))

  abbrev pub after : ℕ → Homes → List (View O I) → State (Option S) (View O I)
  after taken homes views = record { words = taken ∷ []; homes = homes; views = views }

  -- what is owed where one seat's view v becomes w
  pub record Moves (s : State (Option S) (View O I)) (k : Keeps s) (id : ℕ) (v w : View O I) (log : List I) (taken : ℕ) (homes : Homes) : Type 0 where
    pub parts : w.parts ≡ v.parts
    pub turn : taken + has_turn v ≡ k.taken + has_turn w
    pub one : taken ≤ 1
    pub numbers : (q : ℕ) → has_number q w ≡ has_number q v
    pub given : w.given ≡ v.given
    pub goes_on : IsPrefix k.log log
    pub others : (q : ℕ) → q ≢ 0 → has_number q v ≡ 0 → carrying mark q log ≡ carrying mark q k.log
    pub fits : Fits mark log org w
    pub quiet : (j : ℕ) (u : View O I) → j ≢ id → get_elem? s.views j ≡ some u → u.stage ≡ Holding → u.seen ≡ log
    pub home : taken ≡ 0 → AtHome {I = I} origin entries log org homes

  module _ (s : State (Option S) (View O I)) (k : Keeps s) (id : ℕ) (v w : View O I) (at : get_elem? s.views id ≡ some v) where
    -- another seat does not have a number of this one
    pub apart : (j : ℕ) (u : View O I) → j ≢ id → get_elem? s.views j ≡ some u → (q : ℕ) → 0 < has_number q u → has_number q v ≡ 0
    apart j u ne there q has = omega (arith, two-le-sum_by (has_number {O = O} {I = I} q) s.views j id u v ne there at, k.once q)

    pub moved : (log : List I) (taken : ℕ) (homes : Homes) → Moves s k id v w log taken homes → Keeps (after taken homes (set s.views id w))
    moved log taken homes m =
        let same_number : (q : ℕ) → sum_by (has_number q) (set s.views id w) ≡ sum_by (has_number q) s.views = λ q. sum_by-kept (has_number {O = O} {I = I} q) s.views id v w at (m.numbers q) in
        record {
          log = log;
          taken = taken;
          words = refl;
          turn = let change = m.turn in let was = k.turn in omega (arith, sum_by-changed (has_turn {O = O} {I = I}) s.views id v w at);
          one = m.one;
          whole = sum_by-kept (parts {O = O} {I = I}) s.views id v w at m.parts ∙ k.whole;
          once = λ q. omega (arith, same_number q, k.once q);
          unnamed = λ q nonzero none_there.
              let was : sum_by (has_number q) s.views ≡ 0 = omega (arith, same_number q) in
              m.others q nonzero (omega (arith, at-le-sum_by (has_number {O = O} {I = I} q) s.views id v at)) ∙ k.unnamed q nonzero was;
          first = λ j u there has q above.
              same_number q ∙ ⊎_elim
              (λ (here : (j ≡ id) × (w ≡ u)).
              let same : has_number 0 w ≡ has_number 0 u = ap (has_number {O = O} {I = I} 0) here.1 in
              let given : w.given ≡ u.given = ap (λ (z : View O I). z.given) here.1 in
              k.first id v at (omega (arith, m.numbers 0)) q (omega (arith, m.given)))
              (λ (else : (j ≢ id) × (get_elem? s.views j ≡ some u)). k.first j u else.1 has q above)
              (at_set s.views id j w u there);
          each = λ j u there.
              let P : View O I → Type 0 = λ z. Fits mark log org z in
              ⊎_elim (λ (here : (j ≡ id) × (w ≡ u)). subst P here.1 m.fits)
              (λ (else : (j ≢ id) × (get_elem? s.views j ≡ some u)).
              let f = k.each j u else.1 in
              record {
                seen = prefix_trans u.seen k.log log f.seen m.goes_on;
                told = prefix_trans u.told k.log log f.told m.goes_on;
                origin = f.origin;
                made = AllMade-longer mark k.log log u.made (λ q nonzero has. m.others q nonzero (apart j u else.0 else.1 q has)) f.made;
                idle = f.idle;
                holding = m.quiet j u else.0 else.1;
              })
              (at_set s.views id j w u there);
          home = m.home;
        }
