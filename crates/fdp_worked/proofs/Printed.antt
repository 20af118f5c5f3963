-- The rows, computed.
use Rattle.std.proofs.Common.{◌≡◌, refl}
use Rattle.std.specs.Fmt.{digits}
use Rattle.fdp_base.specs.Numbers.{numbers_from}
use Rattle.fdp_base.specs.Pattern.{repeated}
use Rattle.fdp_base.specs.Text.{hex}
use Rattle.fdp_rules.specs.Change.{after, changed_by}
use Rattle.fdp_rules.specs.Effect.{effect_of}
use Rattle.fdp_rules.specs.Events.{events_of_entry, kept_from, kept_of_entry}
use Rattle.fdp_rules.specs.History.{controller_events_of, events_of, first_state, fresh, host_events_of, point_of, state_of, totals_of}
use Rattle.fdp_rules.specs.Room.{namespace_ids}
use Rattle.fdp_output.specs.Output.{pieces_of}
use Rattle.fdp_output.specs.RunOutput.{output_of}
use Rattle.fdp_worked.specs.ClosedUnits.{entries_of_closed_units, text_of_closed_units}
use Rattle.fdp_worked.specs.Drives.{drive_s, drive_t}
use Rattle.fdp_worked.specs.FoundImage.{entries_over_image, image, text_over_image}
use Rattle.fdp_worked.specs.InvalidIdentifier.{entries_of_invalid_identifier, text_of_invalid_identifier}

pub invalid_identifier-printed : output_of drive_t (fresh drive_t) 1 entries_of_invalid_identifier ≡ text_of_invalid_identifier
unfolding output_of fresh point_of state_of totals_of events_of host_events_of controller_events_of first_state after changed_by effect_of kept_from kept_of_entry events_of_entry numbers_from repeated hex namespace_ids pieces_of digits
invalid_identifier-printed = refl

pub closed_units-printed : output_of drive_s (fresh drive_s) 1 entries_of_closed_units ≡ text_of_closed_units
unfolding output_of fresh point_of state_of totals_of events_of host_events_of controller_events_of first_state after changed_by effect_of kept_from kept_of_entry events_of_entry numbers_from repeated hex namespace_ids pieces_of digits
closed_units-printed = refl

pub image-printed : output_of drive_t image 1 entries_over_image ≡ text_over_image
unfolding output_of fresh point_of state_of totals_of events_of host_events_of controller_events_of first_state after changed_by effect_of kept_from kept_of_entry events_of_entry numbers_from repeated hex namespace_ids pieces_of digits
image-printed = refl
