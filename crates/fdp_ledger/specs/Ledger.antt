-- How a flash stands for the history of its drive since it was handed in.
use Rattle.std.specs.Prelude.{◌≡◌, ◌⊎◌, ℕ, ◌+◌, ◌*◌, ◌^◌, ◌<◌, ◌≤◌, Bool, not, ◌&&◌, Contains, IsFalse, IsTrue, List, length}
use Rattle.fdp_base.specs.declared.entry.Entry.{Entry}
use Rattle.fdp_base.specs.Counts.{Rose}
use Rattle.fdp_base.specs.Numbers.{count_below}
use Rattle.fdp_book.specs.Book.{BookSeen, state_in}
use Rattle.fdp_calls.specs.Calls.{counted_more}
use Rattle.fdp_flash.specs.Cells.{IsBlankUnit}
use Rattle.fdp_flash.specs.FlashState.{FlashState}
use Rattle.fdp_book.specs.fdp_pages.PageTables.{PageTables, passes_at}
use Rattle.fdp_passes.specs.Place.{has_taken}
use Rattle.fdp_units.specs.DataUnits.{is_free, is_lost}
use Rattle.fdp_units.specs.UnitTable.{IsGroup, IsUnit, UnitTable, count_in, group_in, state_at}
use Rattle.fdp_ledger.specs.declared.counts.Counts.{Counts}
use Rattle.fdp_ledger.specs.Counted.{CountedSince}
use Rattle.fdp_ledger.specs.Start.{KnowsUnits, start_of}
use Rattle.fdp_ledger.specs.Uses.{RunStart, idle_erases, used_by}
use Rattle.fdp_ledger.specs.WornOut.{FailsIn, calls_since}

-- a unit was taken in vain: it is not free, and got no page since its last erase
abbrev pub is_vain : RunStart → UnitTable → List Entry → ℕ → Bool
is_vain start t es unit = not (is_free (state_at t unit)) && not (used_by start es unit)

-- Where it is known which units had a page: each idle erase, and each unit that was taken in vain, has a fault of its own; where the calls
-- are told, a program in the unit failed since it was last erased. A unit that had or got a page, and is not lost, is not all blank.
pub record AreAccounted (handed : Counts) (start : RunStart) (t : UnitTable) (es : List Entry) (now : FlashState) : Type 0 where
  pub vain : KnowsUnits now.told start → counted_more handed.faults (idle_erases start es + count_below (length t.groups * t.group_units) (is_vain start t es)) ≤ now.faults
  pub failed : KnowsUnits now.told start → IsTrue now.tells_calls → (unit : ℕ) → IsUnit t unit → IsTrue (is_vain start t es unit) → FailsIn unit (calls_since handed now)
  pub used : IsTrue now.told → (unit : ℕ) → IsUnit t unit → IsTrue (used_by start es unit) → IsFalse (is_lost (state_at t unit)) → IsBlankUnit now.geometry now.cells unit → ⊥

-- a group has free units: two, or one and a pass under way that took its target; or none of its units was ever taken
abbrev pub HasFreeUnits : PageTables → ℕ → Type 0
HasFreeUnits t rg =
    (2 ≤ count_in t.units rg is_free)
    ⊎ ((1 ≤ count_in t.units rg is_free) × IsTrue (has_taken (passes_at t rg)))
    ⊎ ((unit : ℕ) → IsUnit t.units unit → group_in t.units unit ≡ rg → IsTrue (is_free (state_at t.units unit)))

-- What stands between the book of a drive and its flash: the flash counted what the entries tell, each unit is accounted for, each group
-- of a drive that began fresh has free units while no call failed, and no media error is of a later moment.
pub record IsLedger (handed : Counts) (b : BookSeen) (now : FlashState) : Type 0 where
  pub handed_is : handed.faults < 2 ^ 64
  pub counted : CountedSince handed now (start_of b) b.entries
  pub listed : IsTrue now.tells_calls → handed.moment ≤ length now.calls
  pub units : AreAccounted handed (start_of b) b.pages.units b.entries now
  pub free : IsTrue (start_of b).fresh → (Rose handed.faults now.faults → ⊥) → (rg : ℕ) → IsGroup b.pages.units rg → HasFreeUnits b.pages rg
  pub moments : (moment : ℕ) → Contains (state_in b).media moment → moment ≤ now.moment
