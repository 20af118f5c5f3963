-- Calls that are made as planned, one after another.
use Rattle.std.proofs.Common.{◌≡◌, ℕ, zero, suc, ◌+◌, ◌-◌, ◌<◌, true, false, IsTrue, List, [], ◌∷◌, ◌++◌, length, arith, refl, ap, sym, ◌∙◌, append_assoc, length-append}
use Rattle.std.proofs.lemmas.List.{append-nil}
use Rattle.fdp_flash.specs.declared.cell.Cell.{Cell}
use Rattle.fdp_flash.specs.FlashState.{Begins, Call, Ends, FlashState, IsWellFormed}
use Rattle.fdp_flash.specs.Planned.{Makes, StopsAt, calls_from}

-- no call
pub none_made : (s : FlashState) → IsWellFormed s → Makes s s []
none_made s w = record { moment = omega (arith, w.counts.moment_is); listed = λ t. sym (append-nil s.calls) }

-- one call more
pub one_made : (start now new : FlashState) (made : List Call) (call : Call) (MayLeave : List Cell → Type 0) → Makes start now made → Begins now new → Ends now new call MayLeave → Makes start new (made ++ call ∷ [])
one_made start now new made call MayLeave p b ended = record {
  moment = omega (arith, b.moment, p.moment, length-append made (call ∷ []));
  listed = λ t. ended.listed t ∙ ap (λ (calls : List Call). calls ++ call ∷ []) (p.listed (ended.listed_before t)) ∙ append_assoc start.calls made (call ∷ []);
}

-- some calls, and then others
pub made_joined : (a b c : FlashState) (first second : List Call) → (IsTrue c.tells_calls → IsTrue b.tells_calls) → Makes a b first → Makes b c second → Makes a c (first ++ second)
made_joined a b c first second before p q = record {
  moment = omega (arith, p.moment, q.moment, length-append first second);
  listed = λ t. q.listed t ∙ ap (λ (calls : List Call). calls ++ second) (p.listed (before t)) ∙ append_assoc a.calls first second;
}

-- the first of planned calls, and those behind them
pub calls_split : (call : ℕ → Call) (first n m : ℕ) → calls_from call first (n + m) ≡ calls_from call first n ++ calls_from call (first + n) m
unfolding calls_from
calls_split call first zero m =
    let none : zero + m ≡ m = omega arith in
    let e : first ≡ first + 0 = omega arith in
    ap (calls_from call first) none ∙ ap (λ (k : ℕ). calls_from call k m) e
calls_split call first (suc n) m =
    let more : suc n + m ≡ suc (n + m) = omega arith in
    let e : suc first + n ≡ first + suc n = omega arith in
    ap (calls_from call first) more
    ∙ ap (λ (calls : List Call). call first ∷ calls) (calls_split call (suc first) n m ∙ ap (λ (k : ℕ). calls_from call (suc first) n ++ calls_from call k m) e)

pub calls_one_more : (call : ℕ → Call) (first n : ℕ) → calls_from call first (n + 1) ≡ calls_from call first n ++ call (first + n) ∷ []
unfolding calls_from
calls_one_more call first n = calls_split call first n 1

calls_around : (call : ℕ → Call) (first n count : ℕ) → n < count → calls_from call first count ≡ calls_from call first n ++ call (first + n) ∷ calls_from call (suc (first + n)) (count - suc n)
unfolding calls_from
calls_around call first n count lt =
    let e : count ≡ n + suc (count - suc n) = omega arith in
    ap (calls_from call first) e ∙ calls_split call first n (suc (count - suc n))

-- the next of planned calls was made
pub next_made : (call : ℕ → Call) (first n : ℕ) (start now new : FlashState) (MayLeave : List Cell → Type 0) → Makes start now (calls_from call first n) → Begins now new → Ends now new (call (first + n)) MayLeave
    → Makes start new (calls_from call first (n + 1))
next_made call first n start now new MayLeave p b ended =
    rw (calls_one_more call first n) (one_made start now new (calls_from call first n) (call (first + n)) MayLeave p b ended)

-- the next of planned calls failed
pub next_stops : (call : ℕ → Call) (first n count : ℕ) (start now new : FlashState) (MayLeave : List Cell → Type 0) → n < count → Makes start now (calls_from call first n) → Begins now new
    → Ends now new (record (call (first + n)) { failed = true }) MayLeave → StopsAt start new (calls_from call first count)
next_stops call first n count start now new MayLeave lt p b ended = record {
  before = calls_from call first n;
  last = call (first + n);
  behind = calls_from call (suc (first + n)) (count - suc n);
  planned_is = calls_around call first n count lt;
  made = one_made start now new (calls_from call first n) (record (call (first + n)) { failed = true }) MayLeave p b ended;
}

-- planned calls that stop behind others, or before others
pub stops_behind : (a b c : FlashState) (first planned : List Call) → (IsTrue c.tells_calls → IsTrue b.tells_calls) → Makes a b first → StopsAt b c planned → StopsAt a c (first ++ planned)
stops_behind a b c first planned before p s = record {
  before = first ++ s.before;
  last = s.last;
  behind = s.behind;
  planned_is = ap (λ (calls : List Call). first ++ calls) s.planned_is ∙ sym (append_assoc first s.before (s.last ∷ s.behind));
  made = rw (append_assoc first s.before (record s.last { failed = true } ∷ [])) (made_joined a b c first (s.before ++ record s.last { failed = true } ∷ []) before p s.made);
}

pub stops_before : (a b : FlashState) (planned later : List Call) → StopsAt a b planned → StopsAt a b (planned ++ later)
stops_before a b planned later s = record {
  before = s.before;
  last = s.last;
  behind = s.behind ++ later;
  planned_is = ap (λ (calls : List Call). calls ++ later) s.planned_is ∙ append_assoc s.before (s.last ∷ s.behind) later;
  made = s.made;
}
