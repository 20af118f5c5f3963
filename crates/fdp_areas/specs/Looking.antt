-- What looks at pages of an area show, and how they end.
use Rattle.std.specs.Prelude.{◌≡◌, ℕ, List, Some, Result, Ok, Err, slice_get}
use Rattle.fdp_flash.specs.declared.answer.Seen.{Seen}
use Rattle.fdp_flash.specs.declared.answer.Seen.TheVariants as seen
use Rattle.fdp_flash.specs.declared.cell.Cell.{Cell}
use Rattle.fdp_flash.specs.declared.cell.Cell.TheVariants.{Blank, Torn, Whole}
use Rattle.fdp_flash.specs.FlashState.{FlashState}
use Rattle.fdp_flash.specs.Failing.{FailsLast}
use Rattle.fdp_areas.specs.declared.seal.LookFailed.{LookFailed}

-- what a look shows of a page of an area
abbrev pub Shows : List Cell → ℕ → List ℕ → List ℕ → Seen → Type 0
Shows cells number spare bytes seen.Whole = slice_get cells number ≡ Some (Whole spare bytes)
Shows cells number spare bytes seen.Blank = slice_get cells number ≡ Some Blank
Shows cells number spare bytes seen.Torn = slice_get cells number ≡ Some Torn
Shows cells number spare bytes seen.Failed = Unit {0}

-- a look failed where it answers so, and else the flash counted no fault
abbrev pub EndsLook : FlashState → FlashState → Seen → Type 0
EndsLook old new seen.Whole = new.faults ≡ old.faults
EndsLook old new seen.Blank = new.faults ≡ old.faults
EndsLook old new seen.Torn = new.faults ≡ old.faults
EndsLook old new seen.Failed = FailsLast old new new.moment

-- a call failed only where its last look did, at this moment; else the flash counted no fault
abbrev pub Ends : {X : Type 0} → FlashState → FlashState → Result X LookFailed → Type 0
Ends old new (Ok x) = new.faults ≡ old.faults
Ends old new (Err failed) = FailsLast old new failed.moment
