-- The calls of a thing in memory.
use Rattle.std.specs.Prelude.{◌≡◌, ◌↔◌, ℕ, Bool, IsTrue, List, if◌then◌else◌}
use Rattle.std.specs.List.{Contains}
use Rattle.fdp_base.specs.Counts.{counted}
use Rattle.fdp_io.specs.declared.calls.Calls.{Calls}

-- how many were made and how many failed, and the numbers of those that are to fail, counted from 1
pub record CallsState : Type 0 where
  pub made : ℕ
  pub faults : ℕ
  pub failing : List ℕ

abbrev pub calls_of : Calls → CallsState
calls_of calls = record { made = calls.made; faults = calls.faults; failing = calls.failing.items }

-- how many of them failed
abbrev pub faults_of : Calls → ℕ
faults_of calls = calls.faults

-- no call yet, with the numbers of those that are to fail
abbrev pub no_call : List ℕ → CallsState
no_call failing = record { made = 0; faults = 0; failing = failing }

-- a call was made: it failed exactly where it was to, and that was counted
pub record MakesCall (old new : CallsState) (failed : Bool) : Type 0 where
  pub made : new.made ≡ counted old.made
  pub plan : new.failing ≡ old.failing
  pub planned : IsTrue failed ↔ Contains old.failing new.made
  pub faults : new.faults ≡ (if failed then counted old.faults else old.faults)
