-- What a group that was worn has left: units without a page, in which programs failed; when an entry tells so, and of the run.
use Rattle.std.specs.Prelude.{◌≡◌, ℕ, ◌+◌, ◌*◌, ◌<◌, ◌≤◌, Bool, true, false, not, ◌&&◌, ◌==◌, IsFalse, IsTrue, List, ◌∷◌, ◌++◌, drop}
use Rattle.std.specs.List.{list_any}
use mathlib.Core.List.{IsPrefix}
use Rattle.fdp_base.specs.declared.config.Geometry.{Geometry}
use Rattle.fdp_base.specs.declared.entry.Entry.{Entry}
use Rattle.fdp_base.specs.declared.entry.Entry.TheVariants as entries
use Rattle.fdp_base.specs.Numbers.{count_below}
use Rattle.fdp_calls.specs.Calls.{counted_more, program_at}
use Rattle.fdp_flash.specs.declared.answer.Operation.{Operation}
use Rattle.fdp_flash.specs.declared.answer.Operation.TheVariants.{Erase, Fetch, Look, Program}
use Rattle.fdp_flash.specs.declared.cell.Cell.{Cell}
use Rattle.fdp_flash.specs.FlashState.{Call, FlashState}
use Rattle.fdp_image.specs.Roomy.{is_blank_unit}
use Rattle.fdp_ledger.specs.declared.counts.Counts.{Counts}
use Rattle.fdp_ledger.specs.Uses.{RunStart, used_by}

-- how many units of a group are all blank and not lost
abbrev pub blank_units : Geometry → List Cell → (ℕ → Bool) → ℕ → ℕ
blank_units g cells lost rg = count_below g.units (λ i. is_blank_unit g cells (rg * g.units + i) && not (lost (rg * g.units + i)))

abbrev pub is_erase_call : Operation → Bool
is_erase_call Look = false
is_erase_call Fetch = false
is_erase_call Program = false
is_erase_call Erase = true

-- a call erased this unit
abbrev pub erases : ℕ → Call → Bool
erases unit call = is_erase_call call.operation && (call.at.unit == unit) && not call.failed

-- a program in this unit failed, and none of the calls after it erased the unit
pub record FailsIn (unit : ℕ) (calls : List Call) : Type 0 where
  pub before : List Call
  pub page : ℕ
  pub after : List Call
  pub calls_are : calls ≡ before ++ program_at (record { unit = unit; page = page }) true ∷ after
  pub since : list_any (erases unit) after ≡ false

-- the calls since a flash was handed in
abbrev pub calls_since : Counts → FlashState → List Call
calls_since handed now = drop handed.moment now.calls

-- Of a group that was worn, with these units lost: since the flash was handed in at least as many faults were counted as units of the group
-- are all blank and not lost; where the calls are told, a program in each of these units failed since it was last erased.
pub record IsWornOut (handed : Counts) (now : FlashState) (lost : ℕ → Bool) (rg : ℕ) : Type 0 where
  pub few : IsTrue now.told → counted_more handed.faults (blank_units now.geometry now.cells lost rg) ≤ now.faults
  pub failed : IsTrue now.told → IsTrue now.tells_calls → (i : ℕ) → i < now.geometry.units → IsTrue (is_blank_unit now.geometry now.cells (rg * now.geometry.units + i)) → IsFalse (lost (rg * now.geometry.units + i)) → FailsIn (rg * now.geometry.units + i) (calls_since handed now)

-- ---- of the run

-- by some call a program in this unit had failed, and none of the calls up to it had erased the unit since
abbrev pub HadFailedIn : ℕ → List Call → Type 0
HadFailedIn unit calls = (past : List Call) × IsPrefix past calls × FailsIn unit past

-- A group was worn behind these entries: since the flash was handed in at least as many faults were counted as units of the group had no page when the run
-- began and got none, or got none since they were last erased; where the calls are told, a program in each of these units had failed by then.
pub record WasWornOut (handed : Counts) (now : FlashState) (start : RunStart) (es : List Entry) (rg : ℕ) : Type 0 where
  pub few : counted_more handed.faults (count_below now.geometry.units (λ i. not (used_by start es (rg * now.geometry.units + i)))) ≤ now.faults
  pub failed : IsTrue now.tells_calls → (i : ℕ) → i < now.geometry.units → IsFalse (used_by start es (rg * now.geometry.units + i)) → HadFailedIn (rg * now.geometry.units + i) (calls_since handed now)

-- so it was with each group that an entry tells to be worn, behind the entries before that one
abbrev pub WereWornOut : Counts → FlashState → RunStart → List Entry → Type 0
WereWornOut handed now start es = (before after : List Entry) (rg : ℕ) → es ≡ before ++ entries.Worn (record { rg = rg }) ∷ after → WasWornOut handed now start before rg
