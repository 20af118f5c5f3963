-- What is read off the run over an image.
use Rattle.std.proofs.Common.{◌≡◌, [], ◌∷◌, refl}
use Rattle.std.specs.Prelude.{take}
use Rattle.fdp_base.specs.Numbers.{numbers_from}
use Rattle.fdp_rules.specs.Change.{after, changed_by}
use Rattle.fdp_rules.specs.Effect.{effect_of}
use Rattle.fdp_rules.specs.History.{first_state, point_of, state_of}
use Rattle.fdp_rules.specs.Queue.{IsSilent}
use Rattle.fdp_rules.specs.Room.{namespace_ids}
use Rattle.fdp_rules.specs.Seats.{marks_after, marks_of}
use Rattle.fdp_rules.specs.Sites.{live_pages, traced_by, trail_of}
use Rattle.fdp_worked.specs.Drives.{drive_t}
use Rattle.fdp_worked.specs.FoundImage.{entries_over_image, image, marks_over_image}

pub live-found : live_pages drive_t (point_of drive_t image (take 4 entries_over_image)) 3 ≡ 0 ∷ 1 ∷ []
unfolding point_of state_of first_state after changed_by effect_of numbers_from namespace_ids trail_of traced_by
live-found = refl

pub live-going : live_pages drive_t (point_of drive_t image (take 4 entries_over_image)) 0 ≡ 0 ∷ []
unfolding point_of state_of first_state after changed_by effect_of numbers_from namespace_ids trail_of traced_by
live-going = refl

pub live-left : live_pages drive_t (point_of drive_t image entries_over_image) 3 ≡ []
unfolding point_of state_of first_state after changed_by effect_of numbers_from namespace_ids trail_of traced_by
live-left = refl

pub live-moved : live_pages drive_t (point_of drive_t image entries_over_image) 4 ≡ 0 ∷ []
unfolding point_of state_of first_state after changed_by effect_of numbers_from namespace_ids trail_of traced_by
live-moved = refl

pub live-written : live_pages drive_t (point_of drive_t image entries_over_image) 0 ≡ 0 ∷ []
unfolding point_of state_of first_state after changed_by effect_of numbers_from namespace_ids trail_of traced_by
live-written = refl

pub image-marked : marks_of image entries_over_image ≡ marks_over_image
unfolding marks_after
image-marked = refl

pub queue_2-silent : IsSilent 2 entries_over_image
queue_2-silent = record { completes = refl; starts = refl }

pub queue_1-busy : IsSilent 1 entries_over_image → ⊥
queue_1-busy silent = let none = silent.completes in absurd cc
