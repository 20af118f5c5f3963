use Rattle.std.proofs.Common.{arith}
use Rattle.byteorder.specs.Endian.{little_bytes}
use Rattle.fdp_layouts.proofs.Placing.{wrote}
use Rattle.fdp_layouts.proofs.number.put_u16.Goals as goal

pub returns-clause-placed : goal.returns-clause-placed
returns-clause-placed c = wrote c.args.at c.args.frame.now _ (little_bytes 2 c.args.n) (omega arith) c.write_u16.ensures
