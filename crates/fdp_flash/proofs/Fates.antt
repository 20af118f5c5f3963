-- Plans in which no call fails.
use Rattle.std.proofs.Common.{◌≡◌, ℕ, ◌<◌, ◌&&◌, not, Bool, true, false, List, [], ◌∷◌, Option, Some, None, refl, ap}
use Rattle.std.proofs.lemmas.Bool.{and_parts, false_from_ne_true, lt-ltb}
use Rattle.fdp_flash.specs.declared.plan.Fate.TheVariants.{Done, Refused}
use Rattle.fdp_flash.specs.declared.plan.Outcome.{Outcome}
use Rattle.fdp_flash.specs.declared.plan.Plan.{Plan}
use Rattle.fdp_flash.specs.Plan.{keeps_calls, is_no_failure, is_no_stop, plan_is_empty, planned_failure, fate_by_stop, fate_of, fails}

no_failure_planned : (failing : List (ℕ × Outcome)) (moment : ℕ) → is_no_failure failing ≡ true → planned_failure failing moment ≡ Done
no_failure_planned [] moment e = refl
no_failure_planned (failure ∷ failing) moment e = cc

no_stop_planned : (stop : Option (ℕ × Outcome)) (moment : ℕ) → is_no_stop stop ≡ true → fate_by_stop stop moment Done ≡ Done
no_stop_planned None moment e = refl
no_stop_planned (Some stop) moment e = cc

not_kept : (b : Bool) → not b ≡ true → b ≡ false
not_kept true e = cc
not_kept false e = refl

-- an empty plan lets each call be done
pub empty_plan_does : (plan : Plan) (moment : ℕ) → plan_is_empty plan ≡ true → fate_of plan moment ≡ Done
empty_plan_does plan moment e =
    let parts = and_parts (not (keeps_calls plan) && is_no_failure plan.failing) (is_no_stop plan.stop) e in
    let more = and_parts (not (keeps_calls plan)) (is_no_failure plan.failing) parts.0 in
    let free : keeps_calls plan ≡ false = not_kept (keeps_calls plan) more.0 in
    rw (free, no_failure_planned plan.failing moment more.1) (no_stop_planned plan.stop moment parts.1)

-- a plan in which a call fails is not empty
pub failure_is_planned : (plan : Plan) (moment : ℕ) → fails (fate_of plan moment) ≡ true → plan_is_empty plan ≡ false
failure_is_planned plan moment f = false_from_ne_true (plan_is_empty plan) (λ e. let d = empty_plan_does plan moment e in let no : fails (fate_of plan moment) ≡ false = ap fails d in cc)

-- a call behind a full list is refused
pub full_list_refuses : (plan : Plan) (moment : ℕ) → keeps_calls plan ≡ true → plan.calls < moment → fate_of plan moment ≡ Refused
full_list_refuses plan moment keeps full = rw (keeps, lt-ltb plan.calls moment full) refl
