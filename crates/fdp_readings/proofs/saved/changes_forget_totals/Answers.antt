use Rattle.fdp_readings.proofs.Saving.{forgets}
use Rattle.fdp_readings.proofs.saved.changes_forget_totals.Goals as goal

pub returns : goal.returns
returns c = forgets
