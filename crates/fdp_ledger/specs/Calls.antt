-- What the calls of a step are to the ledger.
use Rattle.std.specs.Prelude.{◌≡◌, ℕ, ◌+◌, ◌≤◌, Bool, true, false, IsTrue, List, [], ◌∷◌, count_by}
use Rattle.std.specs.List.{list_all}
use Rattle.fdp_base.specs.declared.entry.Spot.{Spot}
use Rattle.fdp_book.specs.Book.{BookSeen}
use Rattle.fdp_calls.specs.Calls.{MakesCalls, counted_more, program_at}
use Rattle.fdp_calls.specs.Media.{IsReadFrom}
use Rattle.fdp_flash.specs.declared.answer.Operation.{Operation}
use Rattle.fdp_flash.specs.declared.answer.Operation.TheVariants.{Erase, Fetch, Look, Program}
use Rattle.fdp_flash.specs.Cells.{ProgramMayLeave}
use Rattle.fdp_flash.specs.FlashState.{Call, FlashState}
use Rattle.fdp_ledger.specs.declared.counts.Counts.{Counts}
use Rattle.fdp_ledger.specs.Told.{is_media_reply}

abbrev pub is_fetch_call : Operation → Bool
is_fetch_call Look = false
is_fetch_call Fetch = true
is_fetch_call Program = false
is_fetch_call Erase = false

abbrev pub is_fetch : Call → Bool
is_fetch call = is_fetch_call call.operation

-- calls that only fetch, or no call
pub record OnlyFetches (old new : FlashState) : Type 0 where
  pub calls : List Call
  pub made : MakesCalls old new calls
  pub fetches : IsTrue (list_all is_fetch calls)
  pub read : IsReadFrom old new

-- one call, a program of this page, failed; it may have left the page whole with this spare and these bytes
pub record FailsToProgram (old new : FlashState) (spot : Spot) (spare bytes : List ℕ) : Type 0 where
  pub made : MakesCalls old new (program_at spot true ∷ [])
  pub programs : new.programs ≡ old.programs
  pub left : IsTrue old.told → ProgramMayLeave old.geometry old.cells spot spare bytes new.cells

-- a reply may tell of a media error of this moment: there is a fault for it beside those of the replies before
pub record MayTell (handed : Counts) (b : BookSeen) (now : FlashState) (moment : ℕ) : Type 0 where
  pub fault : counted_more handed.faults (count_by is_media_reply b.entries + 1) ≤ now.faults
  pub until : moment ≤ now.moment
