use Rattle.std.proofs.Common.{◌∙◌}
use Rattle.fdp_printing.proofs.Told.{totals-told}
use Rattle.fdp_cli.proofs.closing.ToldTelling.totals.Goals as goal

pub returns : goal.returns
returns g c = let book = c.args.self.now.group.now.book in c.totals.ensures ∙ totals-told book.config book.found book.entries
