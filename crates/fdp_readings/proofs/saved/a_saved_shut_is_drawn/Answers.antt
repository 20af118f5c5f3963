use Rattle.fdp_readings.proofs.Saving.{shut-drawn}
use Rattle.fdp_readings.proofs.saved.a_saved_shut_is_drawn.Goals as goal

pub returns : goal.returns
returns c = shut-drawn
