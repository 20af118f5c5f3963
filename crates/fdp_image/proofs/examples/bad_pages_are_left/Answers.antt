use Rattle.std.proofs.Common.{refl}
use Rattle.fdp_base.specs.Numbers.{has_repeat, numbers_from}
use Rattle.fdp_base.specs.Spare.{data_spare}
use Rattle.fdp_records.specs.Bytes.{items, placed}
use Rattle.fdp_records.specs.Limits.{is_within_limits}
use Rattle.fdp_records.specs.Reading.{change_in, decoded, decoded_as}
use Rattle.fdp_records.specs.Records.{record_of}
use Rattle.fdp_records.specs.Spares.{said_by_data, said_by_system, system_spare}
use Rattle.fdp_rules.specs.Room.{namespace_ids}
use Rattle.fdp_image.specs.Applied.{applied}
use Rattle.fdp_image.specs.Areas.{area_of, current_area, leading, page_bytes, sealed_behind, sealed_by, sealed_in}
use Rattle.fdp_image.specs.ChangeEvents.{events_of_change, kept_of_change}
use Rattle.fdp_image.specs.Checkpoint.{reading_of_state, said_by_checkpoint}
use Rattle.fdp_snapshot.specs.Checkpoint.{checkpoint_size, is_checkpoint}
use Rattle.fdp_snapshot.specs.Fixed.{fixed_of}
use Rattle.fdp_snapshot.specs.Reading.{blocks_in, page_lists, state_in, summary_in}
use Rattle.fdp_snapshot.specs.Rows.{space_bytes}
use Rattle.fdp_image.specs.CheckpointFields.{same_keys}
use Rattle.fdp_image.specs.Fields.{pieces}
use Rattle.fdp_image.specs.Outline.{state_with}
use Rattle.fdp_image.specs.Reading.{blocks_on}
use Rattle.fdp_image.specs.BadFields.{bad_field, bad_row, bad_space}
use Rattle.fdp_image.specs.Fits.{all_fit, names_what_is}
use Rattle.fdp_image.specs.Reads.{changes_in, fresh_reading, is_checkpoint_of, is_sound_checkpoint, reads_as, said_after, said_by_area, said_by_current, told_by}
use Rattle.fdp_image.proofs.examples.bad_pages_are_left.Goals as goal

pub returns-clause-torn : goal.returns-clause-torn
unfolding decoded decoded_as change_in items record_of placed is_within_limits numbers_from has_repeat data_spare said_by_data said_by_system system_spare namespace_ids applied area_of current_area leading page_bytes sealed_behind sealed_by sealed_in events_of_change kept_of_change reading_of_state said_by_checkpoint checkpoint_size is_checkpoint fixed_of blocks_in page_lists state_in summary_in space_bytes same_keys pieces state_with blocks_on changes_in told_by fresh_reading is_checkpoint_of is_sound_checkpoint said_after all_fit names_what_is bad_field bad_row bad_space reads_as said_by_area said_by_current
returns-clause-torn c = refl

pub returns-clause-bad : goal.returns-clause-bad
unfolding decoded decoded_as change_in items record_of placed is_within_limits numbers_from has_repeat data_spare said_by_data said_by_system system_spare namespace_ids applied area_of current_area leading page_bytes sealed_behind sealed_by sealed_in events_of_change kept_of_change reading_of_state said_by_checkpoint checkpoint_size is_checkpoint fixed_of blocks_in page_lists state_in summary_in space_bytes same_keys pieces state_with blocks_on changes_in told_by fresh_reading is_checkpoint_of is_sound_checkpoint said_after all_fit names_what_is bad_field bad_row bad_space reads_as said_by_area said_by_current
returns-clause-bad c = refl

pub returns-clause-checkpoint : goal.returns-clause-checkpoint
unfolding decoded decoded_as change_in items record_of placed is_within_limits numbers_from has_repeat data_spare said_by_data said_by_system system_spare namespace_ids applied area_of current_area leading page_bytes sealed_behind sealed_by sealed_in events_of_change kept_of_change reading_of_state said_by_checkpoint checkpoint_size is_checkpoint fixed_of blocks_in page_lists state_in summary_in space_bytes same_keys pieces state_with blocks_on changes_in told_by fresh_reading is_checkpoint_of is_sound_checkpoint said_after all_fit names_what_is bad_field bad_row bad_space reads_as said_by_area said_by_current
returns-clause-checkpoint c = refl
