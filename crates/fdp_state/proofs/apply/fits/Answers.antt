use Rattle.fdp_image.specs.Checkpoint.{reading_of_state}
use Rattle.fdp_state.proofs.apply.fits.Goals as goal

pub names_what_is-requires-clause-index : goal.names_what_is-requires-clause-index
unfolding reading_of_state
names_what_is-requires-clause-index c = c.requires.good.index
