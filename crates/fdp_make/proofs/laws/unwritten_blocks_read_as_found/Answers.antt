use Rattle.std.proofs.Common.{true}
use Rattle.fdp_make.proofs.Agreeing.{all-agree}
use Rattle.fdp_make.proofs.Loads.{of-load}
use Rattle.fdp_make.proofs.laws.unwritten_blocks_read_as_found.Goals as goal

pub returns : goal.returns
returns c config f es number size whole legal served = all-agree config f size whole es legal (of-load true config f number es legal served)
