use Rattle.std.proofs.Common.{arith}
use Rattle.fdp_reader.proofs.Fronts.{begins-by}
use Rattle.fdp_reader.proofs.next.begins.Goals as goal

pub returns : goal.returns
returns c = begins-by c.args.text.now c.args.front.now c.is_same.result (omega arith) c.is_same.ensures
