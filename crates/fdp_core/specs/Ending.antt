-- A going write that ends within a step.
use Rattle.std.specs.Prelude.{◌≡◌, ◌+◌, ◌≤◌, false, IsTrue, [], count_by}
use Rattle.fdp_base.specs.declared.status.Status.{Status}
use Rattle.fdp_relocation.specs.fdp_book.declared.ticket.Done.{Done}
use Rattle.fdp_relocation.specs.fdp_book.declared.ticket.Ticket.{Ticket}
use Rattle.fdp_relocation.specs.fdp_book.Book.{point_in}
use Rattle.fdp_relocation.specs.fdp_book.Steps as book
use Rattle.fdp_calls.specs.Calls.{counted_more}
use Rattle.fdp_core.specs.Seen.{HasMoments, Seen}
use Rattle.fdp_flash.specs.FlashState.{FlashState}
use Rattle.fdp_loading.specs.fdp_ledger.Told.{is_media_reply}
use Rattle.fdp_relocation.specs.fdp_pages.Steps.{ChangesOwners}
use Rattle.fdp_rules.specs.Answer.{bare}
use Rattle.fdp_rules.specs.Change.{is_media_error}
use Rattle.fdp_rules.specs.PlainState.{Going}
use Rattle.fdp_rules.specs.Step.{IsEnd}

-- a write may end with this status at the moment of the flash: the rules allow it; where it tells of a media error a fault was counted for
-- it, beside those of the media errors before
pub record MayEnd {F : Type 0} (state : F → FlashState) (s : Seen F) (g : Going) (status : Status) : Type 0 where
  pub legal : (IsTrue (is_media_error status) → HasMoments (state s.flash)) → IsEnd (state s.flash).told s.book.config (point_in s.book) g (bare status false) (state s.flash).moment
  pub fault : IsTrue (is_media_error status) → counted_more s.handed.faults (count_by is_media_reply s.book.entries + 1) ≤ (state s.flash).faults

-- it ended so, and nothing else changed; the flash was not called
pub record Ends {F : Type 0} (state : F → FlashState) (old new : Seen F) (ticket : Ticket) (g : Going) (status : Status) (done : Done) : Type 0 where
  pub completes : book.Completes old.book new.book [] ticket.queue g.number g.command (bare status false) (state old.flash).moment done
  pub pages : ChangesOwners old.book.pages new.book.pages
  pub handed_is : new.handed ≡ old.handed
  pub uncalled : new.flash ≡ old.flash
