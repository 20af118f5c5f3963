-- Calls in an order that was planned, up to the first that fails.
use Rattle.std.specs.Prelude.{◌≡◌, ℕ, zero, suc, ◌+◌, ◌-◌, ◌^◌, min, true, false, IsTrue, List, [], ◌∷◌, ◌++◌, length}
use Rattle.fdp_base.specs.declared.entry.Spot.{Spot}
use Rattle.fdp_flash.specs.declared.answer.Operation.TheVariants.{Program, Erase}
use Rattle.fdp_flash.specs.declared.answer.Wrote.{Wrote}
use Rattle.fdp_flash.specs.declared.answer.Wrote.TheVariants as wrote
use Rattle.fdp_flash.specs.FlashState.{Call, FlashState}

-- an erase of a unit that is done
abbrev pub erase_of : ℕ → Call
erase_of unit = record { operation = Erase; at = record { unit = unit; page = 0 }; failed = false }

-- a program of a page that is done
abbrev pub program_of : Spot → Call
program_of at = record { operation = Program; at = at; failed = false }

-- so many calls by their numbers, from one on
unfoldable pub calls_from : (ℕ → Call) → ℕ → ℕ → List Call
calls_from call first zero = []
calls_from call first (suc count) = call first ∷ calls_from call (suc first) count

-- just these calls were made, one after another; where the calls are told they stand behind the earlier ones
pub record Makes (old new : FlashState) (calls : List Call) : Type 0 where
  pub moment : new.moment ≡ min (old.moment + length calls) (2 ^ 64 - 1)
  pub listed : IsTrue new.tells_calls → new.calls ≡ old.calls ++ calls

-- the planned calls were made up to one that failed, and none behind it
pub record StopsAt (old new : FlashState) (planned : List Call) : Type 0 where
  pub before : List Call
  pub last : Call
  pub behind : List Call
  pub planned_is : planned ≡ before ++ last ∷ behind
  pub made : Makes old new (before ++ record last { failed = true } ∷ [])

-- all planned calls were made where they are done, and else those up to the one that failed
abbrev pub MakesPlanned : FlashState → FlashState → List Call → Wrote → Type 0
MakesPlanned old new planned wrote.Done = Makes old new planned
MakesPlanned old new planned wrote.Failed = StopsAt old new planned
