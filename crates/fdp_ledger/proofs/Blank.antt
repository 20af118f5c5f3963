-- Which units are all blank after each step, and which group has none that is free.
use Rattle.std.proofs.Common.{◌≡◌, ℕ, Bool, true, false, ◌||◌, List, ◌++◌, refl, sym, ◌∙◌, subst}
use Rattle.std.specs.Prelude.{◌==◌, IsTrue}
use Rattle.std.specs.List.{list_any}
use Rattle.std.proofs.lemmas.Bool.{eqb-true}
use Rattle.std.proofs.lemmas.List.Folds.{list_any-append}
use Rattle.fdp_base.specs.declared.config.Geometry.{Geometry}
use Rattle.fdp_base.specs.declared.entry.Entry.{Entry}
use Rattle.fdp_base.specs.declared.entry.Spot.{Spot}
use Rattle.fdp_base.specs.Placement.{geometry_of}
use Rattle.fdp_base.specs.EntryKinds.{empties}
use Rattle.fdp_book.specs.declared.ticket.Ticket.{Ticket}
use Rattle.fdp_book.specs.Book.{BookSeen, state_in, written_in}
use Rattle.fdp_book.specs.Relocating.{Relocates, told_by}
use Rattle.fdp_book.specs.Tickets.{IsNextSpot}
use Rattle.fdp_calls.specs.Media.{IsProgrammedTo, IsReadFrom}
use Rattle.fdp_book.specs.fdp_collector.declared.step.Lost.TheVariants as lost
use Rattle.fdp_book.specs.fdp_collector.declared.step.Step.{Step}
use Rattle.fdp_book.specs.fdp_collector.declared.step.Step.TheVariants as steps
use Rattle.fdp_book.proofs.fdp_collector.Kept.{group-kept, unit-was}
use Rattle.fdp_flash.specs.declared.cell.Cell.{Cell}
use Rattle.fdp_flash.specs.declared.cell.Cell.TheVariants.{Whole}
use Rattle.fdp_flash.specs.Cells.{IsBlankUnit}
use Rattle.fdp_flash.specs.FlashState.{FlashState}
use Rattle.fdp_flash.specs.Layout.{page_number}
use Rattle.fdp_book.specs.fdp_locations.Located.{AreUnitsOf}
use Rattle.fdp_book.specs.fdp_locations.Stored.{HoldsWritten}
use Rattle.fdp_book.specs.fdp_pages.Joined.{AreJoined}
use Rattle.fdp_book.specs.fdp_pages.PageTables.{PageTables}
use Rattle.fdp_book.specs.fdp_pages.Steps.{ChangesOwners}
use Rattle.fdp_rules.specs.PlainState.{Going}
use Rattle.fdp_units.specs.UnitTable.{HasNoFree, UnitTable}
use Rattle.fdp_ledger.specs.Calls.{FailsToProgram}
use Rattle.fdp_ledger.specs.Emptied.{ErasedAreBlank, OnlyErasesEmpty}
use Rattle.fdp_ledger.proofs.Emptied.{emptied-none, failed-emptied, programmed-emptied, same-emptied}
use Rattle.fdp_ledger.proofs.Placed.{next-blank}
use Rattle.fdp_ledger.proofs.Units.{KeepsUnits, recounts-keep, starved-keeps}

no : true ≡ false → ⊥
no e = cc

-- ---- units that were not all blank

-- calls that read, or none
pub emptied-read : (old now : FlashState) (es : List Entry) → IsReadFrom old now → IsTrue old.told → OnlyErasesEmpty old.geometry old.cells now.cells es
emptied-read old now es read told = emptied-none old.geometry old.cells now.cells es (same-emptied old.geometry old.cells now.cells (read.cells told))

module _ (b : BookSeen) (old now : FlashState) (ticket : Ticket) (g : Going) (spot : Spot) (spare bytes : List ℕ) (joined : AreJoined b.pages) (units : AreUnitsOf b.config (state_in b) b.pages) (geometry : old.geometry ≡ geometry_of b.config) (stored : IsTrue old.told → HoldsWritten old.geometry old.cells (written_in b) b.pages.units) (next : IsNextSpot b ticket g spot) (es : List Entry) where
  -- a page was placed
  pub emptied-placed : IsProgrammedTo old now (page_number old.geometry spot) (Whole spare bytes) → IsTrue old.told → OnlyErasesEmpty old.geometry old.cells now.cells es
  emptied-placed done told = emptied-none old.geometry old.cells now.cells es (programmed-emptied old.geometry old.cells now.cells spot spare bytes (next-blank b old ticket g spot joined units geometry stored next told) (done.cells told))

  -- or its program failed
  pub emptied-shut : FailsToProgram old now spot spare bytes → IsTrue old.told → OnlyErasesEmpty old.geometry old.cells now.cells es
  emptied-shut fails told = emptied-none old.geometry old.cells now.cells es (failed-emptied old.geometry old.cells now.cells spot spare bytes (next-blank b old ticket g spot joined units geometry stored next told) (fails.left told))

-- ---- units that were erased

-- no unit was erased
abbrev pub ErasesNoUnit : List Entry → Type 0
ErasesNoUnit es = (unit : ℕ) → list_any (empties unit) es ≡ false

pub erased-none : (g : Geometry) (cells : List Cell) (es : List Entry) → ErasesNoUnit es → ErasedAreBlank g cells es
erased-none g cells es none = record { blank = λ unit erased. absurd (no (sym erased ∙ none unit)) }

-- behind entries that tell of no erase
pub erased-behind : (g : Geometry) (cells : List Cell) (xs ys : List Entry) → ErasesNoUnit xs → ErasedAreBlank g cells ys → ErasedAreBlank g cells (xs ++ ys)
erased-behind g cells xs ys none h = record {
  blank = λ unit erased. h.blank unit (second (list_any (empties unit) xs) (list_any (empties unit) ys) (none unit) (sym (list_any-append (empties unit) xs ys) ∙ erased));
} where
  second : (x y : Bool) → x ≡ false → (x || y) ≡ true → y ≡ true
  second true y e h = absurd (no e)
  second false y e h = h

-- which steps of relocation erase none
pub told-erases : (rg : ℕ) (step : Step) → ((unit : ℕ) → step ≡ steps.Erased unit → ⊥) → ErasesNoUnit (told_by rg step)
told-erases rg steps.Nothing other unit = refl
told-erases rg (steps.Copied copy) other unit = refl
told-erases rg steps.ReadyToMove other unit = refl
told-erases rg (steps.Erased erased) other unit = absurd (other erased refl)
told-erases rg steps.EraseDue other unit = refl
told-erases rg steps.Starved other unit = refl
told-erases rg (steps.Fault lost.None) other unit = refl
told-erases rg (steps.Fault (lost.Aside aside)) other unit = refl
told-erases rg (steps.Fault (lost.Retired retired)) other unit = refl

-- the unit that a step of relocation erased is all blank
pub erased-relocated : (b new : BookSeen) (old now : FlashState) (rg : ℕ) (may_erase : Bool) (unit : ℕ) → Relocates b new old now rg may_erase (steps.Erased unit) → IsTrue old.told → ErasedAreBlank old.geometry now.cells (told_by rg (steps.Erased unit))
erased-relocated b new old now rg may_erase unit h told = record {
  blank = λ other erased. subst (λ (u : ℕ). IsBlankUnit old.geometry now.cells u) (eqb-true unit other (one (unit == other) erased)) (h.is.2.flash.done told refl).blank;
} where
  one : (x : Bool) → (x || false) ≡ true → x ≡ true
  one true e = refl
  one false e = e

-- ---- groups without a free unit

pub none-free_kept : (t now : UnitTable) (rg : ℕ) → KeepsUnits t now → HasNoFree t rg → HasNoFree now rg
none-free_kept t now rg keeps none unit free = none unit (record {
  is_unit = unit-was t now unit keeps.cut free.is_unit;
  group = group-kept now t unit rg (sym keeps.cut) free.group;
  free = sym (keeps.free unit) ∙ free.free;
})

pub none-free_owners : (old new : PageTables) (rg : ℕ) → ChangesOwners old new → HasNoFree old.units rg → HasNoFree new.units rg
none-free_owners old new rg h = none-free_kept old.units new.units rg (recounts-keep old.units new.units new.owners h.units)

-- a group that was worn has none
pub none-free_starved : (b new : BookSeen) (old now : FlashState) (rg : ℕ) (may_erase : Bool) → Relocates b new old now rg may_erase steps.Starved → HasNoFree new.pages.units rg
none-free_starved b new old now rg may_erase h = none-free_kept b.pages.units new.pages.units rg (starved-keeps _ _ b.pages.units new.pages.units rg _ h.is.starved) h.is.starved.free
