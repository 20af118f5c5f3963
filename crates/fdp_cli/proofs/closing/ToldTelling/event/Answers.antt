use Rattle.fdp_printing.proofs.Told.{few-told}
use Rattle.fdp_cli.proofs.closing.ToldTelling.event.Goals as goal

pub returns-clause-few : goal.returns-clause-few
returns-clause-few g c = let book = c.args.self.now.group.now.book in few-told c.args.host book.config book.found book.entries
