-- What the steps of relocation make of a book.
use Rattle.std.specs.Prelude.{◌≡◌, ℕ, ◌+◌, Bool, false, IsTrue, List, [], ◌∷◌, ◌++◌, None, Option, Some, length, slice_set}
use Rattle.fdp_base.specs.declared.entry.Entry.{Entry}
use Rattle.fdp_base.specs.declared.entry.Entry.TheVariants as entries
use Rattle.fdp_book.specs.Book.{BookSeen, IsLonger, point_in}
use Rattle.fdp_book.specs.Changes.{IsChangeOfEntry}
use Rattle.fdp_book.specs.Logged.{Logged}
use Rattle.fdp_book.specs.Outlined.{Counts}
use Rattle.fdp_outline.specs.declared.moved_block.MovedBlock.{MovedBlock}
use Rattle.fdp_records.specs.declared.change.Change.{Change}
use Rattle.fdp_records.specs.Limits.{is_within_limits}
use Rattle.fdp_snapshot.specs.declared.state.Summary.{Summary}
use Rattle.fdp_readings.specs.fdp_collector.declared.step.Lost.TheVariants as lost
use Rattle.fdp_readings.specs.fdp_collector.declared.step.Step.{Step}
use Rattle.fdp_readings.specs.fdp_collector.declared.step.Step.TheVariants as steps
use Rattle.fdp_readings.specs.fdp_collector.Step.{IsStep}
use Rattle.fdp_flash.specs.FlashState.{FlashState}
use Rattle.fdp_owners.specs.OwnerTable.{owner_at}
use Rattle.fdp_readings.specs.fdp_pages.PageTables.{copies_at, passes_at, relocation_at}
use Rattle.fdp_readings.specs.fdp_pages.Steps.{HasSize, Recounts, ended_move}
use Rattle.fdp_rules.specs.Sites.{moved_blocks}
use Rattle.fdp_rules.specs.Step.{Follows}
use Rattle.fdp_rules.specs.Totals.{erases_of, media_blocks_of}
use Rattle.fdp_readings.specs.fdp_trails.Moves.{owners_moved}

-- the entry that tells of a step of relocation in a group, if one does
abbrev pub told_by : ℕ → Step → List Entry
told_by rg steps.Nothing = []
told_by rg (steps.Copied copy) = entries.Copied copy ∷ []
told_by rg steps.ReadyToMove = []
told_by rg (steps.Erased unit) = entries.Erased (record { unit = unit }) ∷ []
told_by rg steps.EraseDue = []
told_by rg steps.Starved = entries.Worn (record { rg = rg }) ∷ []
told_by rg (steps.Fault lost.None) = []
told_by rg (steps.Fault (lost.Aside unit)) = entries.Aside (record { unit = unit }) ∷ []
told_by rg (steps.Fault (lost.Retired unit)) = entries.Retired (record { unit = unit }) ∷ []

-- an outline counts what these entries tell, one at most
abbrev pub CountsTold : List Entry → Summary → Summary → Type 0
CountsTold [] old new = new ≡ old
CountsTold (e ∷ es) old new = Counts (media_blocks_of e) (erases_of e) old new

-- The log and the outline with the entry that tells of a step of relocation in a group, if one does.
pub record Tells (rg : ℕ) (step : Step) (log now : Logged) (outline new : Summary) : Type 0 where
  pub entries_are : now.entries ≡ log.entries ++ told_by rg step
  pub room_is : now.room + length (told_by rg step) ≡ log.room
  pub log_is : now ≡ record log { entries = now.entries; room = now.room }
  pub counts : CountsTold (told_by rg step) outline new

-- each of these entries may follow what stands; they are one at most
abbrev pub MayFollow : BookSeen → List Entry → Type 0
MayFollow b [] = Unit {0}
MayFollow b (e ∷ es) = (told : Bool) → Follows told b.config (point_in b) e

-- A step of relocation in a group, with its calls of the flash: what it makes of the pages, and the entry that tells of it. Whose
-- the pages are, what handles reference, and the passes of other groups stay.
pub record Relocates (old new : BookSeen) (before after : FlashState) (rg : ℕ) (may_erase : Bool) (step : Step) : Type 0 where
  pub is : IsStep old.pages.owners old.pages.handles.classes rg may_erase (relocation_at old.pages rg) (relocation_at new.pages rg) before after step
  pub rest : new.pages ≡ record old.pages { units = new.pages.units; passes = slice_set old.pages.passes rg (passes_at new.pages rg) }
  pub longer : IsLonger old new (told_by rg step)
  pub move_is : new.may_move ≡ old.may_move
  pub follows : MayFollow old (told_by rg step)

-- the change by which the move of a group is saved, with the blocks that it takes along; none where it takes none
abbrev pub IsMoveChange : BookSeen → ℕ → Option Change → List MovedBlock → Type 0
IsMoveChange b rg None moved = moved_blocks (point_in b) rg ≡ []
IsMoveChange b rg (Some change) moved =
    IsChangeOfEntry b.config (point_in b) (entries.Moved (record { rg = rg; blocks = moved_blocks (point_in b) rg })) change moved × IsTrue (is_within_limits change)

-- The pass of a group is moved: each copy whose old page is live gets its owner, and the entry lists the blocks among them. The pass goes
-- on without copies. The step under way may not move another.
pub record MovesPass (old new : BookSeen) (rg : ℕ) : Type 0 where
  pub longer : IsLonger old new (entries.Moved (record { rg = rg; blocks = moved_blocks (point_in old) rg }) ∷ [])
  pub move_is : new.may_move ≡ false
  pub follows : (told : Bool) → Follows told old.config (point_in old) (entries.Moved (record { rg = rg; blocks = moved_blocks (point_in old) rg }))
  pub owners : owner_at new.pages.owners ≡ owners_moved (owner_at old.pages.owners) (copies_at old.pages rg)
  pub size : HasSize old.pages.owners new.pages.owners
  pub units : Recounts old.pages.units new.pages.units new.pages.owners
  pub handles : new.pages.handles ≡ old.pages.handles
  pub passes : new.pages.passes ≡ slice_set old.pages.passes rg (ended_move (passes_at old.pages rg))
