-- What a call that answered so leaves of the cells that are told.
use Rattle.std.proofs.Common.{◌≡◌, ◌≢◌, ℕ, ◌<◌, IsTrue, List, Some, arith, refl}
use Rattle.std.specs.List.{slice_get}
use Rattle.fdp_base.specs.declared.entry.Spot.{Spot}
use Rattle.fdp_flash.specs.declared.answer.Fetched.{Fetched}
use Rattle.fdp_flash.specs.declared.answer.Seen.{Seen}
use Rattle.fdp_flash.specs.declared.answer.Wrote.{Wrote}
use Rattle.fdp_flash.specs.declared.answer.Wrote.TheVariants.{Done, Failed}
use Rattle.fdp_flash.specs.declared.cell.Cell.TheVariants.{Whole}
use Rattle.fdp_flash.specs.Answers.{Looks, Fetches, Programs, Erases}
use Rattle.fdp_flash.specs.Cells.{IsBlankFrom, IsBlankUnit, ProgramMayLeave, EraseMayLeave}
use Rattle.fdp_flash.specs.FlashState.{FlashState, IsWellFormed}
use Rattle.fdp_flash.specs.Layout.{IsIn, page_number}
use Rattle.fdp_flash.proofs.Pages.{page_number-below, programmed_page, programmed_may_leave, program_other, program_behind, erased_may_leave, same_outside_page, blank_unit_program, blank_unit_erase}

-- whatever a program answers, it leaves what a stop in it may leave
pub program_leaves : (old new : FlashState) (at : Spot) (spare bytes : List ℕ) (result : Wrote) →
    Programs old new at spare bytes result → IsTrue old.told → ProgramMayLeave old.geometry old.cells at spare bytes new.cells
program_leaves old new at spare bytes Done a t = programmed_may_leave _ _ _ _ _ _ (a.done t refl)
program_leaves old new at spare bytes Failed a t = a.failed t refl

-- whatever an erase answers, it leaves what a stop in it may leave
pub erase_leaves : (old new : FlashState) (unit : ℕ) (result : Wrote) →
    Erases old new unit result → IsTrue old.told → EraseMayLeave old.geometry old.cells unit new.cells
erase_leaves old new unit Done a t = erased_may_leave _ _ _ _ (a.done t refl)
erase_leaves old new unit Failed a t = a.failed t refl

-- a program that is done stands
pub program_stands : (old new : FlashState) (at : Spot) (spare bytes : List ℕ) → IsWellFormed old → IsIn old.geometry at →
    Programs old new at spare bytes Done → IsTrue old.told → slice_get new.cells (page_number old.geometry at) ≡ Some (Whole spare bytes)
program_stands old new at spare bytes w i a t =
    let below = page_number-below old.geometry at i in
    let size = w.size t in
    programmed_page old.geometry old.cells at spare bytes new.cells (omega arith) (a.done t refl)

-- a program touches no other page
pub program_elsewhere : (old new : FlashState) (at : Spot) (spare bytes : List ℕ) (result : Wrote) (k : ℕ) →
    Programs old new at spare bytes result → IsTrue old.told → k ≢ page_number old.geometry at → slice_get new.cells k ≡ slice_get old.cells k
program_elsewhere old new at spare bytes result k a t n =
    program_other old.geometry old.cells at spare bytes new.cells k (program_leaves old new at spare bytes result a t) n

-- after a program the pages behind it may be programmed
pub program_next : (old new : FlashState) (at next : Spot) (spare bytes : List ℕ) (result : Wrote) →
    Programs old new at spare bytes result → IsTrue old.told → IsBlankFrom old.geometry old.cells at → next.unit ≡ at.unit → at.page < next.page →
    IsBlankFrom old.geometry new.cells next
program_next old new at next spare bytes result a t blank u n =
    program_behind old.geometry old.cells at spare bytes new.cells next (program_leaves old new at spare bytes result a t) blank u n

-- an erase that is done leaves its unit blank
pub erase_stands : (old new : FlashState) (unit : ℕ) → Erases old new unit Done → IsTrue old.told → IsBlankUnit old.geometry new.cells unit
erase_stands old new unit a t = (a.done t refl).blank

-- an erase touches no page of another unit
pub erase_elsewhere : (old new : FlashState) (unit : ℕ) (result : Wrote) (at : Spot) →
    Erases old new unit result → IsTrue old.told → at.page < old.geometry.unit_pages → at.unit ≢ unit →
    slice_get new.cells (page_number old.geometry at) ≡ slice_get old.cells (page_number old.geometry at)
erase_elsewhere old new unit result at a t inside n =
    same_outside_page old.geometry unit old.cells new.cells at (erase_leaves old new unit result a t).others inside n

-- a blank unit stays so through a look
pub blank_after_look : (old new : FlashState) (at : Spot) (spare bytes : List ℕ) (result : Seen) (unit : ℕ) →
    Looks old new at spare bytes result → IsTrue old.told → IsBlankUnit old.geometry old.cells unit → IsBlankUnit old.geometry new.cells unit
blank_after_look old new at spare bytes result unit a t blank = rw (a.reads.cells t) blank

-- a blank unit stays so through a fetch
pub blank_after_fetch : (old new : FlashState) (at : Spot) (spare bytes : List ℕ) (result : Fetched) (unit : ℕ) →
    Fetches old new at spare bytes result → IsTrue old.told → IsBlankUnit old.geometry old.cells unit → IsBlankUnit old.geometry new.cells unit
blank_after_fetch old new at spare bytes result unit a t blank = rw (a.reads.cells t) blank

-- a blank unit stays so through a program of another unit
pub blank_after_program : (old new : FlashState) (at : Spot) (spare bytes : List ℕ) (result : Wrote) (unit : ℕ) →
    Programs old new at spare bytes result → IsTrue old.told → at.page < old.geometry.unit_pages → at.unit ≢ unit →
    IsBlankUnit old.geometry old.cells unit → IsBlankUnit old.geometry new.cells unit
blank_after_program old new at spare bytes result unit a t inside n blank =
    blank_unit_program old.geometry old.cells at spare bytes new.cells unit (program_leaves old new at spare bytes result a t) inside n blank

-- a blank unit stays so through an erase of another unit
pub blank_after_erase : (old new : FlashState) (erased : ℕ) (result : Wrote) (unit : ℕ) →
    Erases old new erased result → IsTrue old.told → unit ≢ erased → IsBlankUnit old.geometry old.cells unit → IsBlankUnit old.geometry new.cells unit
blank_after_erase old new erased result unit a t n blank =
    blank_unit_erase old.geometry old.cells erased new.cells unit (erase_leaves old new erased result a t) n blank
