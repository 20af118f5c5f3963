use Rattle.fdp_binary.proofs.Splitting.{one-broken}
use Rattle.fdp_binary.proofs.laws.one_fault.Goals as goal

pub returns : goal.returns
returns c = one-broken
