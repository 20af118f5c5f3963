use Rattle.fdp_binary.proofs.Splitting.{not-broken}
use Rattle.fdp_binary.proofs.laws.a_stream_is_not_broken.Goals as goal

pub returns : goal.returns
returns c = not-broken
