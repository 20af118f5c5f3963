use Rattle.std.proofs.Common.{[]}
use Rattle.fdp_durability.specs.fdp_readings.Changes.{completed}
use Rattle.fdp_keeper.proofs.keeper.Keeper.save_command.Goals as goal

pub returns : goal.returns
returns g c queue number reply moment applied = c.save.ensures (completed queue number c.args.command.now reply moment) [] (c.change_of_command-change.ensures.entry queue number reply moment applied)
