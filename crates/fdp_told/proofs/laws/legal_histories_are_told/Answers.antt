use Rattle.fdp_told.proofs.Entries.{told-legal}
use Rattle.fdp_told.proofs.laws.legal_histories_are_told.Goals as goal

pub returns : goal.returns
returns c = told-legal
