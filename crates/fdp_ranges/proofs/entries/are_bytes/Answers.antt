use Rattle.fdp_prints.specs.Told.{IsOfBits}
use Rattle.fdp_ranges.proofs.Each.{by-recursion}
use Rattle.fdp_ranges.proofs.entries.are_bytes.Goals as goal

pub returns : goal.returns
returns c = by-recursion (IsOfBits 8) c.args.bytes.now c.have_bytes.ensures
