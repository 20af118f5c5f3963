-- What a step of a group adds to its history.
use Rattle.std.specs.Prelude.{◌≡◌, ℕ, ◌+◌, false, IsTrue, List, [], ◌∷◌, ◌++◌}
use Rattle.std.specs.List.{list_any}
use Rattle.fdp_base.specs.declared.command.Command.{Command}
use Rattle.fdp_base.specs.declared.entry.Entry.{Entry}
use Rattle.fdp_base.specs.declared.entry.Entry.TheVariants as entries
use Rattle.fdp_base.specs.CommandKinds.{IsWellFormed}
use Rattle.fdp_relocation.specs.fdp_book.declared.ticket.Done.{Done}
use Rattle.fdp_relocation.specs.fdp_book.Book.{BookSeen, IsLonger, position_in, state_in}
use Rattle.fdp_relocation.specs.fdp_book.Room.{RoomSeen, room_for}
use Rattle.fdp_relocation.specs.fdp_book.Stages.{IsFree}
use Rattle.fdp_calls.specs.Calls.{FailedAt, MakesCalls, counted_more, has_failed}
use Rattle.fdp_core.specs.Seen.{Seen}
use Rattle.fdp_flash.specs.FlashState.{Call, FlashState}
use Rattle.fdp_loading.specs.fdp_ledger.Emptied.{ErasedAreBlank, OnlyErasesEmpty}
use Rattle.fdp_loading.specs.fdp_ledger.Told.{tells_failure}
use Rattle.fdp_rules.specs.Change.{is_media_error}
use Rattle.fdp_rules.specs.Step.{IsQueue}
use Rattle.fdp_rules.specs.Totals.{media_blocks}

-- a command may be begun in a queue under a number, with this room
pub record MayBegin {F : Type 0} (group : Seen F) (queue number : ℕ) (command : Command) (room : RoomSeen) : Type 0 where
  pub queue_is : IsQueue group.book.config queue
  pub formed : IsWellFormed group.book.config command
  pub free : IsFree (state_in group.book) queue number
  pub room_is : room ≡ room_for command group.book.config

-- The flash before and after calls that added these entries: just these calls were made. Its programs are the pages that were placed or
-- copied, and where an entry tells of a failed call one of the calls failed. Where the cells are told, each unit of which an entry tells
-- that it was erased is all blank, and a data unit of which none tells that, nor that its erase failed, is all blank only where it was before.
pub record Matches (old new : FlashState) (es : List Entry) (calls : List Call) : Type 0 where
  pub made : MakesCalls old new calls
  pub programs : new.programs ≡ counted_more old.programs (media_blocks es)
  pub failed : IsTrue (list_any tells_failure es) → IsTrue (list_any has_failed calls)
  pub erased : IsTrue old.told → ErasedAreBlank old.geometry new.cells es
  pub emptied : IsTrue old.told → OnlyErasesEmpty old.geometry old.cells new.cells es

-- a step is made where an entry is added
abbrev pub steps_of : List Entry → ℕ
steps_of [] = 0
steps_of (e ∷ es) = 1

-- these entries were added, in one step; where there are none, no step was made
pub record IsGrown (old new : BookSeen) (es : List Entry) : Type 0 where
  pub config_is : new.config ≡ old.config
  pub found_is : new.found ≡ old.found
  pub opened_is : new.opened ≡ old.opened
  pub entries_are : new.entries ≡ old.entries ++ es
  pub spent_is : new.spent ≡ old.spent + steps_of es
  pub spare_is : new.spare + steps_of es ≡ old.spare

-- a step adds these entries, with these calls of the flash
pub record Adds {F : Type 0} (state : F → FlashState) (old new : Seen F) (es : List Entry) (calls : List Call) : Type 0 where
  pub book : IsGrown old.book new.book es
  pub handed_is : new.handed ≡ old.handed
  pub matches : Matches (state old.flash) (state new.flash) es calls

-- within a step these entries were added, with these calls of the flash
pub record Extends {F : Type 0} (state : F → FlashState) (old new : Seen F) (es : List Entry) (calls : List Call) : Type 0 where
  pub book : IsLonger old.book new.book es
  pub handed_is : new.handed ≡ old.handed
  pub matches : Matches (state old.flash) (state new.flash) es calls

-- A step completes a command: it adds its Host entry, behind other entries. A call of the step failed exactly where the reply tells of a
-- media error, and then one failed at the moment of the entry; else that is the flash's moment.
pub record Completes {F : Type 0} (state : F → FlashState) (old new : Seen F) (before : List Entry) (queue number : ℕ) (command : Command) (calls : List Call) (done : Done) : Type 0 where
  pub step : Adds state old new (before ++ entries.Host (record { queue = queue; number = number; command = command; reply = done.reply; moment = done.moment }) ∷ []) calls
  pub position_is : done.position ≡ position_in new.book
  pub moment_is : is_media_error done.reply.status ≡ false → done.moment ≡ (state new.flash).moment
  pub failed_is : list_any has_failed calls ≡ is_media_error done.reply.status
  pub media : IsTrue (is_media_error done.reply.status) → FailedAt (state old.flash) (state new.flash) done.moment
