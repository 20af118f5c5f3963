use Rattle.std.proofs.Common.{false}
use Rattle.fdp_io.proofs.OutNames.{name_set}
use Rattle.fdp_io.proofs.names.remove_name.Goals as goal

pub returns : goal.returns
returns c = name_set c.args.name.now c.args.names.now c.remove.new.self false c.remove.ensures.updates
