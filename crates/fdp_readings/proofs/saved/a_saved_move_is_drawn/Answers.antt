use Rattle.fdp_readings.proofs.Moving.{drawn-moved}
use Rattle.fdp_readings.proofs.Passing.{pass-moves}
use Rattle.fdp_readings.proofs.saved.a_saved_move_is_drawn.Goals as goal

pub returns-clause-drawn : goal.returns-clause-drawn
returns-clause-drawn c = drawn-moved

pub returns-clause-pass : goal.returns-clause-pass
returns-clause-pass c = pass-moves
