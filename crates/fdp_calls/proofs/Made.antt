-- Calls that follow one another, and the last of them.
use Rattle.std.proofs.Common.{◌≡◌, ℕ, zero, suc, ◌+◌, ◌-◌, Bool, true, false, ◌||◌, IsTrue, List, [], ◌∷◌, ◌++◌, length, refl, ap, sym, ◌∙◌, subst, arith, append_assoc, length-append, Some}
use Rattle.std.specs.List.{list_any, slice_get}
use Rattle.std.proofs.Math.Bool.{or-false}
use Rattle.std.proofs.lemmas.Bool.{false≢true}
use Rattle.std.proofs.lemmas.List.{append-nil}
use Rattle.std.proofs.lemmas.List.Folds.{list_any-append}
use Rattle.fdp_base.specs.Counts.{Rose, counted}
use Rattle.fdp_base.specs.declared.entry.Spot.{Spot}
use Rattle.fdp_flash.specs.declared.answer.Fetched.{Fetched}
use Rattle.fdp_flash.specs.declared.answer.Fetched.TheVariants as fetched
use Rattle.fdp_flash.specs.declared.answer.Wrote.TheVariants as wrote
use Rattle.fdp_flash.specs.declared.cell.Cell.{Cell}
use Rattle.fdp_flash.specs.Answers.{Erases, Fetches, Programs}
use Rattle.fdp_flash.specs.FlashState.{Begins, Call, Ends, Faulted, FlashState, IsWellFormed}
use Rattle.fdp_flash.specs.Runs.{Runs}
use Rattle.fdp_flash.proofs.Lists.{slice_get-append_last}
use Rattle.fdp_flash.proofs.Runs.{fault_after_run, fault_before_run, no_run, run_of_call, runs_joined}
use Rattle.fdp_calls.specs.Calls.{FailedAt, IsKept, IsWholeAt, MakesCalls, counted_more, erase_at, fetch_at, has_failed, program_at}

-- ---- counts

pub counted_more-add : (p a b : ℕ) → counted_more (counted_more p a) b ≡ counted_more p (a + b)
unfolding counted_more
counted_more-add p a zero = let e : a ≡ a + 0 = omega arith in ap (counted_more p) e
counted_more-add p a (suc b) = let e : suc (a + b) ≡ a + suc b = omega arith in ap counted (counted_more-add p a b) ∙ ap (counted_more p) e

pub counted_more-none : (p : ℕ) → counted_more p 0 ≡ p
unfolding counted_more
counted_more-none p = refl

pub counted_more-one : (p : ℕ) → counted_more p 1 ≡ counted p
unfolding counted_more
counted_more-one p = refl

-- after one or more the count rose, or stands at its last value
pub rose-more : (p n : ℕ) → Rose p (counted_more p (suc n))
unfolding counted_more
rose-more p zero = omega arith
rose-more p (suc n) = let below : Rose p (counted_more p (suc n)) = rose-more p n in omega (arith, below)

-- ---- calls

-- no call
pub calls-none : (s : FlashState) → MakesCalls s s []
calls-none s = record {
  run = no_run s (λ moment image. Unit {0});
  moment = sym (counted_more-none s.moment);
  listed = λ _. sym (append-nil s.calls);
  fault = λ wrong. absurd (false≢true wrong);
  no_fault = λ _. refl;
}

-- no call, of an equal flash
pub calls-same : {F : Type 0} (state : F → FlashState) (old new : F) → new ≡ old → MakesCalls (state old) (state new) []
calls-same {F} state old new same = subst (λ (x : F). MakesCalls (state x) (state new) []) same (calls-none (state new))

-- one call
pub calls-one : (old new : FlashState) (call : Call) (MayLeave : List Cell → Type 0) → Begins old new → Ends old new call MayLeave → MakesCalls old new (call ∷ [])
calls-one old new call MayLeave begins ends = record {
  run = run_of_call old new call MayLeave (λ moment image. Unit {0}) begins ends (λ told later image left. tt);
  moment = begins.moment ∙ sym (counted_more-one old.moment);
  listed = ends.listed;
  fault = λ failed. ends.fault (sym (or-false call.failed) ∙ failed);
  no_fault = λ well. ends.no_fault (sym (or-false call.failed) ∙ well);
}

pub any-first : (a b : Bool) → a || b ≡ false → a ≡ false
any-first true b e = e
any-first false b e = refl

pub any-second : (a b : Bool) → a || b ≡ false → b ≡ false
any-second true b e = absurd (false≢true (sym e))
any-second false b e = e

fault-joined : (a b c : FlashState) (x y : Bool) → Runs a b (λ moment image. Unit {0}) → Runs b c (λ moment image. Unit {0}) → (IsTrue x → Faulted a b) → (IsTrue y → Faulted b c) → x || y ≡ true → Faulted a c
fault-joined a b c true y p q first second e = fault_before_run a b c (λ moment image. Unit {0}) (first refl) q
fault-joined a b c false y p q first second e = fault_after_run a b c (λ moment image. Unit {0}) p (second e)

-- calls, and more calls
pub calls-joined : (a b c : FlashState) (xs ys : List Call) → MakesCalls a b xs → MakesCalls b c ys → MakesCalls a c (xs ++ ys)
calls-joined a b c xs ys p q =
    let size : length xs + length ys ≡ length (xs ++ ys) = sym (length-append xs ys) in
    record {
      run = runs_joined a b c (λ moment image. Unit {0}) p.run q.run;
      moment = q.moment ∙ ap (λ n. counted_more n (length ys)) p.moment ∙ counted_more-add a.moment (length xs) (length ys) ∙ ap (counted_more a.moment) size;
      listed = λ tells. q.listed tells ∙ ap (λ zs. zs ++ ys) (p.listed (q.run.listed_before tells)) ∙ append_assoc a.calls xs ys;
      fault = λ failed. fault-joined a b c (list_any has_failed xs) (list_any has_failed ys) p.run q.run p.fault q.fault (sym (list_any-append has_failed xs ys) ∙ failed);
      no_fault = λ well.
          let none = sym (list_any-append has_failed xs ys) ∙ well in
          q.no_fault (any-second (list_any has_failed xs) (list_any has_failed ys) none) ∙ p.no_fault (any-first (list_any has_failed xs) (list_any has_failed ys) none);
    }

-- the flash is the same one
pub kept-made : (old new : FlashState) (calls : List Call) → MakesCalls old new calls → IsKept old new
kept-made old new calls made = record { geometry = made.run.geometry; told = made.run.told; reliable = made.run.reliable; moment = made.run.later; faults = made.run.faults }

-- the last of the calls failed
pub failed-last : (old new : FlashState) (before : List Call) (call : Call) → IsWellFormed new → MakesCalls old new (before ++ call ∷ []) → call.failed ≡ true → FailedAt old new new.moment
failed-last old new before call well made failed =
    let size : length (before ++ call ∷ []) ≡ suc (length before) = length-append before (call ∷ []) ∙ (let e : length before + 1 ≡ suc (length before) = omega arith in e) in
    record {
      since = subst (λ n. Rose old.moment n) (sym (made.moment ∙ ap (counted_more old.moment) size)) (rose-more old.moment (length before));
      until = omega arith;
      failed = λ tells. (call, at-last tells, failed);
    }
  where
    at-last : IsTrue new.tells_calls → slice_get new.calls (new.moment - 1) ≡ Some call
    at-last tells =
        let listed : new.calls ≡ (old.calls ++ before) ++ call ∷ [] = made.listed tells ∙ sym (append_assoc old.calls before (call ∷ [])) in
        let count : new.moment - 1 ≡ length (old.calls ++ before) = omega (arith, well.calls tells, ap length listed, length-append (old.calls ++ before) (call ∷ [])) in
        ap (λ n. slice_get new.calls n) count ∙ ap (λ xs. slice_get xs (length (old.calls ++ before))) listed ∙ slice_get-append_last (old.calls ++ before) call

-- ---- what each answer of the flash tells

fetched-so : (old new : FlashState) (at : Spot) (spare bytes : List ℕ) (result : Fetched) (b : Bool) → Begins old new → (a : Fetches old new at spare bytes result) → a.failed ≡ b → MakesCalls old new (fetch_at at b ∷ [])
fetched-so old new at spare bytes result b begins a is =
    subst (λ (x : Bool). MakesCalls old new (fetch_at at x ∷ [])) is (calls-one old new (fetch_at at a.failed) (λ image. image ≡ old.cells) begins a.ended)

pub fetched-whole : (old new : FlashState) (at : Spot) (spare bytes : List ℕ) → Begins old new → Fetches old new at spare bytes fetched.Whole → MakesCalls old new (fetch_at at false ∷ [])
fetched-whole old new at spare bytes begins a = fetched-so old new at spare bytes fetched.Whole false begins a (a.is_whole refl)

pub fetched-failed : (old new : FlashState) (at : Spot) (spare bytes : List ℕ) → Begins old new → Fetches old new at spare bytes fetched.Failed → MakesCalls old new (fetch_at at true ∷ [])
fetched-failed old new at spare bytes begins a = fetched-so old new at spare bytes fetched.Failed true begins a (a.is_failed refl)

-- a page that is whole, as far as the cells are told, is answered Other only by a call that failed
pub fetched-other : (old new : FlashState) (at : Spot) (spare bytes : List ℕ) → Begins old new → Fetches old new at spare bytes fetched.Other → (IsTrue old.told → IsWholeAt old at spare) → MakesCalls old new (fetch_at at true ∷ [])
fetched-other old new at spare bytes begins a there = fetched-so old new at spare bytes fetched.Other true begins a (of-test a.failed refl)
  where
    of-test : (b : Bool) → a.failed ≡ b → a.failed ≡ true
    of-test true is = is
    of-test false is = let whole = there (a.told refl is) in absurd (a.other refl is whole.0 whole.1)

pub programmed-done : (old new : FlashState) (at : Spot) (spare bytes : List ℕ) → Begins old new → Programs old new at spare bytes wrote.Done → MakesCalls old new (program_at at false ∷ [])
programmed-done old new at spare bytes begins a = calls-one old new (program_at at false) _ begins a.ended

pub programmed-failed : (old new : FlashState) (at : Spot) (spare bytes : List ℕ) → Begins old new → Programs old new at spare bytes wrote.Failed → MakesCalls old new (program_at at true ∷ [])
programmed-failed old new at spare bytes begins a = calls-one old new (program_at at true) _ begins a.ended

pub erased-done : (old new : FlashState) (unit : ℕ) → Begins old new → Erases old new unit wrote.Done → MakesCalls old new (erase_at unit false ∷ [])
erased-done old new unit begins a = calls-one old new (erase_at unit false) _ begins a.ended

pub erased-failed : (old new : FlashState) (unit : ℕ) → Begins old new → Erases old new unit wrote.Failed → MakesCalls old new (erase_at unit true ∷ [])
erased-failed old new unit begins a = calls-one old new (erase_at unit true) _ begins a.ended
