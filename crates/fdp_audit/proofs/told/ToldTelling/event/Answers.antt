use Rattle.fdp_plain.specs.Run.{found_of}
use Rattle.fdp_printing.proofs.Told.{few-told}
use Rattle.fdp_audit.proofs.told.ToldTelling.event.Goals as goal

pub returns-clause-few : goal.returns-clause-few
returns-clause-few c = let run = c.args.self.now.plain.now in few-told c.args.host run.config (found_of run) run.entries
