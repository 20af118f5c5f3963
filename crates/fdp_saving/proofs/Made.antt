-- Planned calls of system units that were made.
use Rattle.std.proofs.Common.{◌≡◌, ℕ, zero, suc, ◌+◌, ◌-◌, ◌^◌, ◌≤◌, ◌<◌, min, Bool, true, false, ◌||◌, IsTrue, List, [], ◌∷◌, ◌++◌, length, refl, sym, ap, ◌∙◌, subst, arith}
use Rattle.std.specs.Prelude.{All}
use Rattle.std.specs.List.{list_any}
use Rattle.std.proofs.lemmas.Bool.{false≢true}
use Rattle.std.proofs.lemmas.List.Elements.{All-append, All-cons, All-head, All-nil, All-push, All-tail}
use Rattle.std.proofs.lemmas.List.Folds.{list_any-append}
use Rattle.fdp_base.specs.declared.config.Geometry.{Geometry}
use Rattle.fdp_base.specs.Geometry.{data_units}
use Rattle.fdp_calls.specs.Calls.{MakesCalls, counted_more, has_failed}
use Rattle.fdp_calls.proofs.Made.{calls-joined, calls-none}
use Rattle.fdp_checkpoint.specs.Writing.{checkpoint_calls, page_call}
use Rattle.fdp_flash.specs.declared.cell.Cell.{Cell}
use Rattle.fdp_flash.specs.Failing.{FailsLast}
use Rattle.fdp_flash.specs.FlashState.{Call, Faulted, FlashState, IsWellFormed}
use Rattle.fdp_flash.specs.Planned.{Makes, StopsAt, calls_from, erase_of}
use Rattle.fdp_flash.specs.Runs.{Runs}
use Rattle.fdp_flash.proofs.Runs.{runs_weakened}
use Rattle.fdp_image.specs.Areas.{area_unit}
use Rattle.fdp_saving.specs.Calls.{AreUpToFailed, MakesSystemCalls}

-- ---- calls

counted_more-is : (p n : ℕ) → p < 2 ^ 64 → counted_more p n ≡ min (p + n) (2 ^ 64 - 1)
unfolding counted_more
counted_more-is p zero most = omega (arith, most)
counted_more-is p (suc n) most = let before : counted_more p n ≡ min (p + n) (2 ^ 64 - 1) = counted_more-is p n most in omega (arith, before)

-- calls that were made, and how they ended
made_calls : (old new : FlashState) (calls : List Call) (Image : ℕ → List Cell → Type 0) → IsWellFormed old → Runs old new Image → Makes old new calls
    → (IsTrue (list_any has_failed calls) → Faulted old new) → (list_any has_failed calls ≡ false → new.faults ≡ old.faults) → MakesCalls old new calls
made_calls old new calls Image w run made fault no_fault = record {
  run = runs_weakened old new Image (λ m image. Unit {0}) run (λ told m image above most fact. tt);
  moment = made.moment ∙ sym (counted_more-is old.moment (length calls) w.counts.moment_is);
  listed = made.listed;
  fault = fault;
  no_fault = no_fault;
}

-- ---- plans

-- calls as they are planned in system units: none is one that failed
pub record IsPlan (g : Geometry) (planned : List Call) : Type 0 where
  pub well : list_any has_failed planned ≡ false
  pub system : All (λ (call : Call). data_units g ≤ call.at.unit) planned

both_false : (a b : Bool) → a ≡ false → b ≡ false → (a || b) ≡ false
both_false true b x y = absurd (false≢true (sym x))
both_false false b x y = y

pub no_plan : (g : Geometry) → IsPlan g []
no_plan g = record { well = refl; system = All-nil (λ (call : Call). data_units g ≤ call.at.unit) }

pub plan_more : (g : Geometry) (call : Call) (planned : List Call) → call.failed ≡ false → data_units g ≤ call.at.unit → IsPlan g planned → IsPlan g (call ∷ planned)
plan_more g call planned well system p = record {
  well = both_false call.failed (list_any has_failed planned) well p.well;
  system = All-cons (λ (x : Call). data_units g ≤ x.at.unit) call planned system p.system;
}

plan_from : (g : Geometry) (call : ℕ → Call) (first count : ℕ) → ((n : ℕ) → (call n).failed ≡ false) → ((n : ℕ) → first ≤ n → data_units g ≤ (call n).at.unit) → IsPlan g (calls_from call first count)
unfolding calls_from
plan_from g call first zero well system = no_plan g
plan_from g call first (suc count) well system =
    plan_more g (call first) (calls_from call (suc first) count) (well first) (system first (omega arith))
    (plan_from g call (suc first) count well (λ n least. system n (omega arith)))

pub plans_joined : (g : Geometry) (first second : List Call) → IsPlan g first → IsPlan g second → IsPlan g (first ++ second)
plans_joined g first second p q = record {
  well = list_any-append has_failed first second ∙ both_false (list_any has_failed first) (list_any has_failed second) p.well q.well;
  system = All-append (λ (call : Call). data_units g ≤ call.at.unit) first second p.system q.system;
}

-- the calls of a checkpoint are in the units of its area
pub checkpoint_planned : (g : Geometry) (area count : ℕ) → IsPlan g (checkpoint_calls g area count)
checkpoint_planned g area count =
    plans_joined g (calls_from erase_of (area_unit g area) g.area_units) (calls_from (page_call g area) 0 (count + 1))
    (plan_from g erase_of (area_unit g area) g.area_units (λ n. refl) (λ n least. omega (arith, least)))
    (plan_from g (page_call g area) 0 (count + 1) (λ n. refl) (λ n least. omega arith))

-- ---- what was made of a plan

-- all of it
pub all_made : (old new : FlashState) (planned : List Call) (Image : ℕ → List Cell → Type 0) → IsWellFormed old → Runs old new Image → Makes old new planned → IsPlan old.geometry planned
    → new.faults ≡ old.faults → new.programs ≡ old.programs → MakesSystemCalls old new (λ calls. calls ≡ planned)
all_made old new planned Image w run made plan faultless programs = record {
  calls = planned;
  are = refl;
  made = made_calls old new planned Image w run made (λ wrong. absurd (false≢true (sym plan.well ∙ wrong))) (λ well. faultless);
  system = plan.system;
  programs = programs;
}

front : (P : Call → Type 0) (before : List Call) (last : Call) (behind : List Call) → All P (before ++ last ∷ behind) → All P before × P last
front P [] last behind all = (All-nil P, All-head P last behind all)
front P (x ∷ xs) last behind all =
    let rest = front P xs last behind (All-tail P x (xs ++ last ∷ behind) all) in
    (All-cons P x xs (All-head P x (xs ++ last ∷ behind) all) rest.0, rest.1)

last_failed : (before : List Call) (last : Call) → last.failed ≡ true → list_any has_failed (before ++ last ∷ []) ≡ true
last_failed before last failed =
    list_any-append has_failed before (last ∷ []) ∙ ap (λ (b : Bool). list_any has_failed before || (b || false)) failed ∙ or_end (list_any has_failed before)
  where
    or_end : (a : Bool) → (a || (true || false)) ≡ true
    or_end true = refl
    or_end false = refl

-- those before the call that failed, and that one
abbrev pub stopped_calls : (old new : FlashState) (planned : List Call) → StopsAt old new planned → List Call
stopped_calls old new planned stop = stop.before ++ record stop.last { failed = true } ∷ []

pub stop_made : (old new : FlashState) (planned : List Call) (Image : ℕ → List Cell → Type 0) (moment : ℕ) → IsWellFormed old → Runs old new Image → (stop : StopsAt old new planned) → IsPlan old.geometry planned
    → FailsLast old new moment → new.programs ≡ old.programs → MakesSystemCalls old new (λ calls. calls ≡ stopped_calls old new planned stop)
stop_made old new planned Image moment w run stop plan fails programs =
    let P : Call → Type 0 = λ (call : Call). data_units old.geometry ≤ call.at.unit in
    let last = record stop.last { failed = true } in
    let parts = front P stop.before stop.last stop.behind (subst (λ (calls : List Call). All P calls) stop.planned_is plan.system) in
    record {
      calls = stop.before ++ last ∷ [];
      are = refl;
      made =
          made_calls old new (stop.before ++ last ∷ []) Image w run stop.made (λ failed. fails.faulted)
          (λ wrong. absurd (false≢true (sym wrong ∙ last_failed stop.before last refl)));
      system = All-push P stop.before last parts.0 parts.1;
      programs = programs;
    }

-- calls that are such are also these
pub made_so : (old new : FlashState) (Are Also : List Call → Type 0) → MakesSystemCalls old new Are → ((calls : List Call) → Are calls → Also calls) → MakesSystemCalls old new Also
made_so old new Are Also p so = record {
  calls = p.calls;
  are = so p.calls p.are;
  made = p.made;
  system = p.system;
  programs = p.programs;
}

-- up to a call that failed
pub part_made : (old new : FlashState) (planned : List Call) (Image : ℕ → List Cell → Type 0) → IsWellFormed old → Runs old new Image → StopsAt old new planned → IsPlan old.geometry planned
    → FailsLast old new new.moment → new.programs ≡ old.programs → MakesSystemCalls old new (AreUpToFailed planned)
part_made old new planned Image w run stop plan fails programs =
    made_so old new (λ calls. calls ≡ stopped_calls old new planned stop) (AreUpToFailed planned) (stop_made old new planned Image new.moment w run stop plan fails programs)
    (λ calls is. record { before = stop.before; last = stop.last; behind = stop.behind; planned_are = stop.planned_is; calls_are = is })

-- no call
pub none_made : (s : FlashState) → MakesSystemCalls s s (λ calls. calls ≡ [])
none_made s = record {
  calls = [];
  are = refl;
  made = calls-none s;
  system = All-nil (λ (call : Call). data_units s.geometry ≤ call.at.unit);
  programs = refl;
}

-- calls, and those behind them
pub made_behind : (a b d : FlashState) (first second : List Call) → MakesSystemCalls a b (λ calls. calls ≡ first) → MakesSystemCalls b d (λ calls. calls ≡ second) → MakesSystemCalls a d (λ calls. calls ≡ first ++ second)
made_behind a b d first second p q =
    let same = p.made.run.geometry in
    record {
      calls = p.calls ++ q.calls;
      are = λ i. p.are i ++ q.are i;
      made = calls-joined a b d p.calls q.calls p.made q.made;
      system =
          All-append (λ (call : Call). data_units a.geometry ≤ call.at.unit) p.calls q.calls p.system
          (subst (λ (g : Geometry). All (λ (call : Call). data_units g ≤ call.at.unit) q.calls) same q.system);
      programs = q.programs ∙ p.programs;
    }
