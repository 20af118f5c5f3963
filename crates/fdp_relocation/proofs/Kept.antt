-- What is kept of a drive to save it is of the drive behind a step too.
use Rattle.std.proofs.Common.{◌≡◌, ◌+◌, ◌≤◌, Bool, true, false, List, length, sym, ◌∙◌, ap, arith, length-append}
use Rattle.fdp_base.specs.declared.entry.Entry.{Entry}
use Rattle.fdp_base.specs.Placement.{geometry_of}
use Rattle.fdp_keeper.specs.fdp_book.Book.{BookSeen, IsLonger}
use Rattle.fdp_flash.specs.declared.answer.Wrote.{Wrote}
use Rattle.fdp_flash.specs.declared.answer.Wrote.TheVariants as wrote
use Rattle.fdp_keeper.specs.fdp_journal.JournalState.{JournalState}
use Rattle.fdp_keeper.specs.Keeper.{IsKeeperOf, KeeperSeen}
use Rattle.fdp_keeper.specs.fdp_saving.declared.saved.Saved.{Saved}
use Rattle.fdp_keeper.specs.fdp_saving.declared.saved.Saved.TheVariants as answers
use Rattle.fdp_keeper.specs.fdp_saving.Saver.{after_renewal, after_saving, needs_checkpoint, renewed}
use Rattle.fdp_snapshot.specs.declared.state.Summary.{Summary}

-- ---- the keeper

-- behind entries that are added it is that of the book that has them, while its saver is that of the same flash
pub keeper-of : (b d : BookSeen) (es : List Entry) (k l : KeeperSeen) → IsLonger b d es → l.saver.geometry ≡ k.saver.geometry → IsKeeperOf b k → IsKeeperOf d l
keeper-of b d es k l longer same kept = record { geometry = same ∙ kept.geometry ∙ ap geometry_of (sym longer.config_is) }

-- ---- epochs

-- a checkpoint takes one epoch more
renewed-epoch : (wanted : Bool) (s : JournalState) (summary : Summary) → (renewed wanted s summary).stamp.epoch ≤ s.stamp.epoch + 1
renewed-epoch true s summary = omega arith
renewed-epoch false s summary = omega arith

pub saved-epoch : (s : JournalState) (summary : Summary) (answer : Saved) → (after_saving s summary answer).stamp.epoch ≤ s.stamp.epoch + 1
saved-epoch s summary answers.Done = renewed-epoch (needs_checkpoint s) s summary
saved-epoch s summary (answers.Doubtful moment) = renewed-epoch (needs_checkpoint s) s summary
saved-epoch s summary (answers.Unsaved moment) = omega arith

pub renewal-epoch : (wanted : Bool) (s : JournalState) (summary : Summary) (answer : Wrote) → (after_renewal wanted s summary answer).stamp.epoch ≤ s.stamp.epoch + 1
renewal-epoch wanted s summary wrote.Done = renewed-epoch wanted s summary
renewal-epoch wanted s summary wrote.Failed = omega arith

-- the entries of a book that is longer
pub more-entries : (b d : BookSeen) (es : List Entry) → IsLonger b d es → length d.entries ≡ length b.entries + length es
more-entries b d es longer = ap length longer.entries_are ∙ length-append b.entries es
