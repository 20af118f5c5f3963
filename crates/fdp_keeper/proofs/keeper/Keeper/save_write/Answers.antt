use Rattle.std.proofs.Common.{[]}
use Rattle.fdp_base.specs.declared.command.Command.TheVariants as commands
use Rattle.fdp_durability.specs.fdp_readings.Changes.{completed}
use Rattle.fdp_keeper.proofs.keeper.Keeper.save_write.Goals as goal

pub returns : goal.returns
returns g c going w reply moment tk command applied = c.save.ensures (completed c.args.ticket.now.queue c.args.ticket.now.number (commands.Write w) reply moment) [] (c.change_of_write-change.ensures.entry going w reply moment tk command applied)
