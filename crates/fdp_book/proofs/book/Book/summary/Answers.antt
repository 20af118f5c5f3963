use Rattle.fdp_book.specs.Held.{book_of}
use Rattle.fdp_book.proofs.Looking.{outline-in}
use Rattle.fdp_book.proofs.book.Book.summary.Goals as goal

pub returns-clause-outline : goal.returns-clause-outline
returns-clause-outline c =
    outline-in (book_of c.self.inside.config c.self.inside.origin c.self.inside.log c.self.inside.tables) c.args.self.now c.summary.result.now c.self.inside.tables.outline c.self.view_is c.summary.ensures.summary c.self.invariant.held.outline_is
