use Rattle.fdp_snapshot.proofs.RoundTrip.{written_is, written_told}
use Rattle.fdp_snapshot.proofs.laws.checkpoint_says_its_state.Goals as goal

pub returns-clause-is : goal.returns-clause-is
returns-clause-is c = written_is

pub returns-clause-told : goal.returns-clause-told
returns-clause-told c = written_told
