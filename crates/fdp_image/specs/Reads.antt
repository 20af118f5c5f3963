-- What an image reads as: the checkpoint of its current area with the changes of its journal.
use Rattle.std.specs.Prelude.{ℕ, suc, ◌+◌, ◌^◌, Bool, true, false, not, ◌&&◌, ◌||◌, List, [], ◌∷◌, ◌++◌, length, take, nat_lt, nat_le, Option, Some, None, is_some, if◌then◌else◌, option_map}
use Rattle.std.specs.List.{list_all, list_any, concat}
use Rattle.std.specs.Option.{option_and_then}
use Rattle.fdp_base.specs.declared.config.DriveConfig.{DriveConfig}
use Rattle.fdp_base.specs.declared.entry.Totals.{Totals}
use Rattle.fdp_base.specs.Placement.{geometry_of}
use Rattle.fdp_flash.specs.declared.cell.Cell.{Cell}
use Rattle.fdp_flash.specs.declared.cell.Cell.TheVariants.{Blank, Torn, Whole}
use Rattle.fdp_records.specs.declared.change.Change.{Change}
use Rattle.fdp_records.specs.Reading.{decoded}
use Rattle.fdp_rules.specs.History.{first_state, fresh}
use Rattle.fdp_rules.specs.PlainState.{PlainState}
use Rattle.fdp_image.specs.Applied.{with_changes}
use Rattle.fdp_image.specs.Areas.{Sealed, current_area, data_pages}
use Rattle.fdp_image.specs.BadFields.{bad_field}
use Rattle.fdp_image.specs.Checkpoint.{said_by_checkpoint}
use Rattle.fdp_snapshot.specs.Checkpoint.{checkpoint_size, is_checkpoint}
use Rattle.fdp_snapshot.specs.Reading.{keys_in, summary_in}
use Rattle.fdp_image.specs.CheckpointFields.{same_keys}
use Rattle.fdp_image.specs.Fits.{all_fit, fits}
use Rattle.fdp_image.specs.Reading.{Reading}

-- the changes that a page of the journal tells, if it tells any
unfoldable pub told_by : List ℕ → Option (List (Change × Totals))
told_by bytes = option_map (λ x. x ∷ []) (decoded bytes)

-- the changes of a journal, where each of its pages tells some
unfoldable pub changes_in : List (List ℕ) → Option (List (Change × Totals))
changes_in [] = Some []
changes_in (page ∷ pages) = option_and_then (λ xs. option_map (λ ys. xs ++ ys) (changes_in pages)) (told_by page)

-- the page of the area behind the journal
abbrev pub next_page : Sealed → ℕ
next_page area = suc (length area.checkpoint) + length area.journal

-- the checkpoint just fills its pages, and names the sizes of the configuration
unfoldable pub is_checkpoint_of : DriveConfig → Sealed → Bool
is_checkpoint_of c area =
    let bytes = concat area.checkpoint in
    is_checkpoint area.stamp.version bytes && list_all (λ same. same) (same_keys c (keys_in bytes))
    && nat_lt (length bytes) (checkpoint_size (summary_in bytes) + c.block)

-- and says of each field what a drive of the configuration saves there
unfoldable pub is_sound_checkpoint : DriveConfig → Sealed → Bool
is_sound_checkpoint c area = is_checkpoint_of c area && not (is_some (bad_field c (summary_in (concat area.checkpoint))))

-- what is said with some changes more, where each fits what is said before it
unfoldable pub said_after : DriveConfig → Reading → List (Change × Totals) → Option Reading
said_after c r changes = if all_fit fits c r changes then Some (with_changes c r changes) else None

-- what a sealed area says: its checkpoint with the changes of its journal, where all of it is what a drive of the configuration saves
unfoldable pub said_by_area : DriveConfig → Sealed → Option Reading
said_by_area c area =
    if is_sound_checkpoint c area
    then option_and_then (said_after c (said_by_checkpoint (concat area.checkpoint))) (changes_in area.journal)
    else None

-- a page is blank
abbrev pub is_blank : Cell → Bool
is_blank Blank = true
is_blank Torn = false
is_blank (Whole spare bytes) = false

-- what a state says that has no block and no event
abbrev pub reading_of : PlainState → Totals → Reading
reading_of s totals = record {
  totals = totals;
  enabled = s.enabled;
  index = s.index;
  generation = s.generation;
  reports = s.reports;
  namespaces = s.namespaces;
  pages = λ nsid lba. None;
  host_events = [];
  controller_events = [];
}

-- what a drive says as the configuration makes it
unfoldable pub fresh_reading : DriveConfig → Reading
fresh_reading c = reading_of (first_state c (fresh c)) (fresh c).totals

-- what an image says with this current area, or with none: the fresh drive where all data pages are blank
unfoldable pub said_by_current : DriveConfig → List Cell → Option (ℕ × Sealed) → Option Reading
said_by_current c cells None = if list_all is_blank (take (data_pages (geometry_of c)) cells) then Some (fresh_reading c) else None
said_by_current c cells (Some x) = said_by_area c x.1

-- what an image reads as, if it can be read
unfoldable pub reads_as : DriveConfig → List Cell → Option Reading
reads_as c cells = said_by_current c cells (current_area (geometry_of c) cells)

-- an image is spent: a run might bring its position, epoch, one of its sums or its generation past the last value
abbrev pub is_spent : Reading → ℕ → Bool
is_spent r epoch =
    list_any (nat_le (2 ^ 62)) (r.totals.position ∷ epoch ∷ r.totals.host_blocks ∷ r.totals.media_blocks ∷ r.totals.erases ∷ [])
    || nat_le (2 ^ 31) r.generation
