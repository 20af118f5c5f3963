-- Which calls of a flash in memory fail.
use Rattle.std.specs.Prelude.{ℕ, Bool, true, false, ◌&&◌, not, nat_eq, nat_lt, if◌then◌else◌, List, [], ◌∷◌, Option, Some, None}
use Rattle.fdp_flash.specs.declared.plan.Fate.{Fate}
use Rattle.fdp_flash.specs.declared.plan.Fate.TheVariants.{Done, Fails, Refused}
use Rattle.fdp_flash.specs.declared.plan.Outcome.{Outcome}
use Rattle.fdp_flash.specs.declared.plan.Plan.{Plan}

-- whether a list of the calls is kept
abbrev pub keeps_calls : Plan → Bool
keeps_calls plan = nat_lt 0 plan.calls

-- whether the list of calls is full before the call of this moment
abbrev pub is_full_before : Plan → ℕ → Bool
is_full_before plan moment = keeps_calls plan && nat_lt plan.calls moment

-- the first failure that is planned for this moment
abbrev pub planned_failure : List (ℕ × Outcome) → ℕ → Fate
planned_failure [] moment = Done
planned_failure (failure ∷ failing) moment = if nat_eq failure.0 moment then Fails failure.1 else planned_failure failing moment

-- the call of the stop fails as planned, and those after it are refused
abbrev pub fate_by_stop : Option (ℕ × Outcome) → ℕ → Fate → Fate
fate_by_stop None moment otherwise = otherwise
fate_by_stop (Some stop) moment otherwise =
    if nat_lt stop.0 moment then Refused else (if nat_eq stop.0 moment then Fails stop.1 else otherwise)

-- what becomes of the call of this moment
abbrev pub fate_of : Plan → ℕ → Fate
fate_of plan moment =
    if is_full_before plan moment then Refused else fate_by_stop plan.stop moment (planned_failure plan.failing moment)

-- whether a call with this fate fails
abbrev pub fails : Fate → Bool
fails Done = false
fails (Fails outcome) = true
fails Refused = true

abbrev pub is_no_failure : List (ℕ × Outcome) → Bool
is_no_failure [] = true
is_no_failure (failure ∷ failing) = false

abbrev pub is_no_stop : Option (ℕ × Outcome) → Bool
is_no_stop None = true
is_no_stop (Some stop) = false

-- whether no call is to fail and no list is kept
abbrev pub plan_is_empty : Plan → Bool
plan_is_empty plan = not (keeps_calls plan) && is_no_failure plan.failing && is_no_stop plan.stop
