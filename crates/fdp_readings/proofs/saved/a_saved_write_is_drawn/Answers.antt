use Rattle.fdp_readings.proofs.Saving.{write-drawn}
use Rattle.fdp_readings.proofs.saved.a_saved_write_is_drawn.Goals as goal

pub returns : goal.returns
returns c = write-drawn
