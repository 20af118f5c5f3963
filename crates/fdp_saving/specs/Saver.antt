-- A saver is seen as the journal of the area that it holds as current.
use Rattle.std.specs.Prelude.{◌≡◌, ℕ, ◌+◌, ◌-◌, ◌<◌, ◌≤◌, Bool, false, ◌||◌, List, nat_le, Some, if◌then◌else◌}
use Rattle.fdp_base.specs.declared.config.Geometry.{Geometry}
use Rattle.fdp_base.specs.Geometry.{area_pages}
use Rattle.fdp_flash.specs.declared.cell.Cell.{Cell}
use Rattle.fdp_flash.specs.declared.answer.Wrote.{Wrote}
use Rattle.fdp_flash.specs.declared.answer.Wrote.TheVariants as wrote
use Rattle.fdp_snapshot.specs.declared.state.Summary.{Summary}
use Rattle.fdp_image.specs.Areas.{Sealed, area_of, sealed_in}
use Rattle.fdp_image.specs.Replacing.{new_stamp, pages_for}
use Rattle.fdp_journal.specs.Journal.{IsJournalIn, doubted, with_record}
use Rattle.fdp_journal.specs.JournalState.{JournalState, next_in}
use Rattle.fdp_saving.specs.declared.saved.Saved.{Saved}
use Rattle.fdp_saving.specs.declared.saved.Saved.TheVariants as answers

-- the other of the two system areas
abbrev pub other_area : ℕ → ℕ
other_area area = 1 - area

-- an area of a flash is sealed
abbrev pub IsSealedArea : Geometry → ℕ → List Cell → Type 0
IsSealedArea g area cells = (z : Sealed) × (sealed_in (area_of g area cells) ≡ Some z)

-- The cells are those of a saver: its area is sealed, unless it holds epoch 0, and no higher than with its epoch; where it is not in doubt,
-- that area is the current one, and its journal can go on.
pub record IsSaverIn (cells : List Cell) (s : JournalState) : Type 0 where
  pub sealed : 0 < s.stamp.epoch → IsSealedArea s.geometry s.area cells
  pub epoch : (z : Sealed) → sealed_in (area_of s.geometry s.area cells) ≡ Some z → z.stamp.epoch ≤ s.stamp.epoch
  pub sure : s.in_doubt ≡ false → IsJournalIn cells s

-- a saver that begins with an area and its epoch: in doubt, so that the first it writes is a checkpoint
abbrev pub first_saver : Geometry → ℕ → ℕ → JournalState
first_saver g area epoch = doubted (record { geometry = g; area = area; stamp = new_stamp epoch; checkpoint = 0; records = 0; in_doubt = false })

-- a checkpoint has to be written before the next record: the journal is in doubt, or its area full
abbrev pub needs_checkpoint : JournalState → Bool
needs_checkpoint s = s.in_doubt || nat_le (area_pages s.geometry) (next_in s)

-- the saver behind a checkpoint of this drive that is done: the other area is current, with the next epoch and no record
abbrev pub behind_checkpoint : JournalState → Summary → JournalState
behind_checkpoint s summary = record {
  geometry = s.geometry;
  area = other_area s.area;
  stamp = new_stamp (s.stamp.epoch + 1);
  checkpoint = pages_for s.geometry.block summary;
  records = 0;
  in_doubt = false;
}

-- the saver behind a checkpoint, where one was wanted
abbrev pub renewed : Bool → JournalState → Summary → JournalState
renewed wanted s summary = if wanted then behind_checkpoint s summary else s

-- the saver after a checkpoint, by its answer
abbrev pub after_checkpoint : JournalState → Summary → Wrote → JournalState
after_checkpoint s summary wrote.Done = behind_checkpoint s summary
after_checkpoint s summary wrote.Failed = doubted s

-- the saver after a checkpoint where one was wanted, by the answer
abbrev pub after_renewal : Bool → JournalState → Summary → Wrote → JournalState
after_renewal wanted s summary wrote.Done = renewed wanted s summary
after_renewal wanted s summary wrote.Failed = doubted s

-- the saver after the program of a record, by its answer
abbrev pub after_append : JournalState → Wrote → JournalState
after_append s wrote.Done = with_record s
after_append s wrote.Failed = doubted s

-- the saver after a saving, by its answer
abbrev pub after_saving : JournalState → Summary → Saved → JournalState
after_saving s summary answers.Done = with_record (renewed (needs_checkpoint s) s summary)
after_saving s summary (answers.Doubtful moment) = doubted (renewed (needs_checkpoint s) s summary)
after_saving s summary (answers.Unsaved moment) = doubted s
