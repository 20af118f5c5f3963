-- Entries at the positions that are due.
use Rattle.std.proofs.Common.{◌≡◌, ℕ, zero, suc, ◌+◌, ◌<◌, ◌≤◌, Bool, List, get_or, take, drop, [], ◌∷◌, ◌++◌, length, refl, sym, ap, ap₂, subst, ◌∙◌, append_assoc, append-nil, arith, inl, inr, true}
use Rattle.fdp_base.specs.declared.config.DriveConfig.{DriveConfig}
use Rattle.fdp_base.specs.declared.entry.Entry.{Entry}
use Rattle.std.proofs.lemmas.List.{length-append, take_all, take_more}
use Rattle.fdp_plain.specs.Refusing.{IsNoStep}
use Rattle.fdp_plain.specs.Run.{Run, found_of, next_position}
use Rattle.fdp_rules.specs.History.{Found}
use Rattle.fdp_rules.specs.Legal.{IsLegal, IsLegalAfter}
use Rattle.fdp_rules.specs.Step.{IsStep}
use Rattle.fdp_rules.proofs.Pushes.{legal-push}
use Rattle.fdp_audit.specs.Audit.{IsIllegal, IsWrongNext, behind, first_position, placed_from}
use Rattle.fdp_audit.specs.declared.fault.RunFault.{RunFault}
use Rattle.fdp_audit.specs.declared.fault.RunFault.TheVariants as faults
use Rattle.fdp_audit.specs.Steps.{IsIllegalIn, IsRefusedNext}

-- one entry more
pub placed-more : (k : ℕ) (es : List Entry) (e : Entry) → placed_from k (es ++ e ∷ []) ≡ placed_from k es ++ (k + length es, e) ∷ []
placed-more k [] e = let n : k ≡ k + 0 = omega arith in ap (λ (p : ℕ). (p, e) ∷ []) n
placed-more k (d ∷ es) e =
    let n : k + 1 + length es ≡ k + suc (length es) = omega arith in
    ap (λ (xs : List (ℕ × Entry)). (k, d) ∷ xs) (placed-more (k + 1) es e ∙ ap (λ (p : ℕ). placed_from (k + 1) es ++ (p, e) ∷ []) n)

pub placed-length : (k : ℕ) (es : List Entry) → length (placed_from k es) ≡ length es
placed-length k [] = refl
placed-length k (e ∷ es) = ap suc (placed-length (k + 1) es)

pub some-head : {A : Type 0} (x y : A) (xs ys : List A) → x ∷ xs ≡ y ∷ ys → (x ≡ y) × (xs ≡ ys)
some-head x y xs ys e = (cc, cc)

some-pair : (p q : ℕ) (d e : Entry) → ◌≡◌ {A = ℕ × Entry} (p, d) (q, e) → (p ≡ q) × (d ≡ e)
some-pair p q d e same = (ap (λ (x : ℕ × Entry). x.0) same, ap (λ (x : ℕ × Entry). x.1) same)

pub placed-one : (k : ℕ) (es ds : List Entry) → placed_from k es ≡ placed_from k ds → es ≡ ds
placed-one k [] [] same = refl
placed-one k [] (d ∷ ds) same = absurd (cc)
placed-one k (e ∷ es) [] same = absurd (cc)
placed-one k (e ∷ es) (d ∷ ds) same =
    let h = some-head (k, e) (k, d) (placed_from (k + 1) es) (placed_from (k + 1) ds) same in
    ap₂ (λ (x : Entry) (xs : List Entry). x ∷ xs) (some-pair k k e d h.0).1 (placed-one (k + 1) es ds h.1)

-- ---- the entry behind some of them

pub record HasNext (k : ℕ) (es before : List Entry) (next : ℕ × Entry) : Type 0 where
  pub entry : Entry
  pub after : List Entry
  pub es_are : es ≡ before ++ entry ∷ after
  pub next_is : next ≡ (k + length before, entry)

pub placed-next : (k : ℕ) (es before : List Entry) (next : ℕ × Entry) (after : List (ℕ × Entry)) → placed_from k es ≡ placed_from k before ++ next ∷ after → HasNext k es before next
placed-next k [] [] next after same = absurd (cc)
placed-next k [] (b ∷ before) next after same = absurd (cc)
placed-next k (e ∷ es) [] next after same =
    let h = some-head (k, e) next (placed_from (k + 1) es) after same in
    let n : k ≡ k + 0 = omega arith in
    record { entry = e; after = es; es_are = refl; next_is = sym h.0 ∙ ap (λ (p : ℕ). (p, e)) n }
placed-next k (e ∷ es) (b ∷ before) next after same =
    let h = some-head (k, e) (k, b) (placed_from (k + 1) es) (placed_from (k + 1) before ++ next ∷ after) same in
    let rest = placed-next (k + 1) es before next after h.1 in
    let n : k + 1 + length before ≡ k + suc (length before) = omega arith in
    record {
      entry = rest.entry;
      after = rest.after;
      es_are = ap₂ (λ (x : Entry) (xs : List Entry). x ∷ xs) (some-pair k k e b h.0).1 rest.es_are;
      next_is = rest.next_is ∙ ap (λ (p : ℕ). (p, rest.entry)) n;
    }

-- in a legal history each entry is a step after those before it
legal-at : (told : Bool) (c : DriveConfig) (f : Found) (b xs : List Entry) (e : Entry) (ys : List Entry) → IsLegalAfter told c f b (xs ++ e ∷ ys) → IsStep told c f (b ++ xs) e
unfolding IsLegalAfter
legal-at told c f b [] e ys h = subst (λ (zs : List Entry). IsStep told c f zs e) (sym (append-nil b)) h.0
legal-at told c f b (x ∷ xs) e ys h = subst (λ (zs : List Entry). IsStep told c f zs e) (append_assoc b (x ∷ []) xs) (legal-at told c f (b ++ x ∷ []) xs e ys h.1)

-- no legal history at the positions that are due has a wrong entry
pub legal-not-wrong : (start : Run) (es : List Entry) (at why : ℕ) → IsLegal true start.config (found_of start) es → IsIllegal start (placed_from (first_position start) es) at why → ⊥
legal-not-wrong start es at why legal bad = by bad.wrong where
  c : DriveConfig
  c = start.config

  n : HasNext (first_position start) es bad.before bad.next
  n = placed-next (first_position start) es bad.before bad.next bad.after bad.entries_are

  place : bad.next.0 ≡ first_position start + length bad.before
  place = ap (λ (x : ℕ × Entry). x.0) n.next_is

  entry : bad.next.1 ≡ n.entry
  entry = ap (λ (x : ℕ × Entry). x.1) n.next_is

  step : IsStep true c (found_of start) bad.before bad.next.1
  step = subst (λ (e : Entry). IsStep true c (found_of start) bad.before e) (sym entry) (legal-at true c (found_of start) [] bad.before n.entry n.after (subst (λ (zs : List Entry). IsLegal true c (found_of start) zs) n.es_are legal))

  by : IsWrongNext (behind start bad.before) bad.next why → ⊥
  by (inl other) = other.0 (omega (arith, place))
  by (inr bad) = bad.1.no_step step

-- ---- entries that are taken one after another

-- so many of these were taken by a run that began here
pub record AreTaken (start : Run) (xs : List (ℕ × Entry)) (n : ℕ) (run : Run) (due : ℕ) : Type 0 where
  pub run_is : run ≡ behind start run.entries
  pub due_is : due ≡ first_position start + n
  pub count : length run.entries ≡ n
  pub taken : take n xs ≡ placed_from (first_position start) run.entries
  pub legal : IsLegal true start.config (found_of start) run.entries

pub none-taken : (start : Run) (xs : List (ℕ × Entry)) (due : ℕ) → start.entries ≡ [] → due ≡ next_position start → AreTaken start xs 0 start due
unfolding IsLegalAfter
none-taken start xs due none is = record {
  run_is = refl;
  due_is = omega (arith, is, ap (λ (es : List Entry). length es) none);
  count = ap (λ (es : List Entry). length es) none;
  taken = sym (ap (placed_from (first_position start)) none);
  legal = subst (λ (es : List Entry). IsLegal true start.config (found_of start) es) (sym none) tt;
}

-- a step of the run that has taken these is one behind them
pub step-behind : (start run : Run) (e : Entry) → run ≡ behind start run.entries → IsStep true run.config (found_of run) run.entries e → IsStep true start.config (found_of start) run.entries e
step-behind start run e is step = subst (λ (r : Run). IsStep true r.config (found_of r) run.entries e) is step

pub one-taken : (start : Run) (xs : List (ℕ × Entry)) (n : ℕ) (old new : Run) (due position : ℕ) (e : Entry) → AreTaken start xs n old due → n < length xs → ◌≡◌ {A = ℕ × Entry} (position, e) (get_or xs n (position, e)) → position ≡ due
    → IsStep true old.config (found_of old) old.entries e → new ≡ record old { entries = old.entries ++ e ∷ [] } → AreTaken start xs (n + 1) new (due + 1)
one-taken start xs n old new due position e h low is same step news =
    let first = first_position start in
    let place : first + length old.entries ≡ position = omega (arith, h.count, h.due_is, same) in
    let more : take (n + 1) xs ≡ placed_from first (old.entries ++ e ∷ []) =
    take_more xs n (position, e) low ∙ ap₂ (λ (ys : List (ℕ × Entry)) (x : ℕ × Entry). ys ++ x ∷ []) h.taken (sym is)
    ∙ ap (λ (p : ℕ). placed_from first old.entries ++ (p, e) ∷ []) (sym place) ∙ sym (placed-more first old.entries e) in
    let own : record old { entries = old.entries ++ e ∷ [] } ≡ behind start (old.entries ++ e ∷ []) = ap (λ (r : Run). record r { entries = old.entries ++ e ∷ [] }) h.run_is in
    subst (λ (r : Run). AreTaken start xs (n + 1) r (due + 1)) (sym news) (record {
      run_is = own;
      due_is = omega (arith, h.due_is);
      count = omega (arith, length-append old.entries (e ∷ []), h.count);
      taken = more;
      legal = legal-push true start.config (found_of start) old.entries e h.legal (step-behind start old e h.run_is step);
    })

pub list-cut : {A : Type 0} (xs : List A) (n : ℕ) (d : A) → n < length xs → xs ≡ take n xs ++ get_or xs n d ∷ drop (n + 1) xs
list-cut [] n d low = absurd (omega (arith, low))
list-cut (x ∷ xs) zero d low = refl
list-cut {A} (x ∷ xs) (suc n) d low =
    let one : suc n + 1 ≡ suc (n + 1) = omega arith in
    ap (λ (ys : List A). x ∷ ys) (list-cut xs n d (omega (arith, low))) ∙ ap (λ (k : ℕ). x ∷ (take n xs ++ get_or xs n d ∷ drop k (x ∷ xs))) (sym one)

-- the next one is wrong
wrong-here : (start : Run) (xs : List (ℕ × Entry)) (n : ℕ) (run : Run) (due : ℕ) (x : ℕ × Entry) (why : ℕ) → AreTaken start xs n run due → n < length xs → x ≡ get_or xs n x → IsWrongNext (behind start run.entries) x why → IsIllegal start xs due why
wrong-here start xs n run due x why h low is wrong = record {
  before = run.entries;
  next = x;
  after = drop (n + 1) xs;
  entries_are = list-cut xs n x low ∙ ap₂ (λ (ys : List (ℕ × Entry)) (y : ℕ × Entry). ys ++ y ∷ drop (n + 1) xs) h.taken (sym is);
  legal = h.legal;
  at_is = omega (arith, h.due_is, h.count);
  wrong = wrong;
}

pub wrong-next : (start : Run) (xs : List (ℕ × Entry)) (n : ℕ) (run : Run) (due position : ℕ) (e : Entry) (fault : RunFault) → AreTaken start xs n run due → n < length xs → ◌≡◌ {A = ℕ × Entry} (position, e) (get_or xs n (position, e))
    → IsRefusedNext run due position e fault → IsIllegalIn start xs fault
wrong-next start xs n run due position e (faults.Line line) h low is bad = absurd bad
wrong-next start xs n run due position e (faults.Illegal at why) h low is (inl other) =
    let place : at ≡ due = other.1 in
    subst (λ (k : ℕ). IsIllegal start xs k why) (sym place) (wrong-here start xs n run due (position, e) why h low is (inl (λ same. other.0 (omega (arith, same, h.due_is, h.count)), other.2)))
wrong-next start xs n run due position e (faults.Illegal at why) h low is (inr step) =
    let bad : IsNoStep (behind start run.entries) e at why = subst (λ (r : Run). IsNoStep r e at why) h.run_is step.1 in
    let place : at ≡ due = omega (arith, bad.position, h.due_is, h.count) in
    subst (λ (k : ℕ). IsIllegal start xs k why) (sym place)
    (wrong-here start xs n run due (position, e) why h low is (inr (omega (arith, step.0, h.due_is, h.count), subst (λ (k : ℕ). IsNoStep (behind start run.entries) e k why) bad.position bad)))
wrong-next start xs n run due position e (faults.Output line) h low is bad = absurd bad
wrong-next start xs n run due position e (faults.Lost at) h low is bad = absurd bad
wrong-next start xs n run due position e faults.NoMemory h low is bad = tt

pub all-taken : (start : Run) (xs : List (ℕ × Entry)) (n : ℕ) (run : Run) (due : ℕ) → start.entries ≡ [] → length xs ≤ n → AreTaken start xs n run due → xs ≡ placed_from (next_position start) run.entries
all-taken start xs n run due none high h =
    let first : first_position start ≡ next_position start = omega (arith, ap (λ (es : List Entry). length es) none) in
    sym (take_all n xs high) ∙ h.taken ∙ ap (λ (k : ℕ). placed_from k run.entries) first
