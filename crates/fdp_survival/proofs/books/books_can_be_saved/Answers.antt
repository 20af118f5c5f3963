use Rattle.fdp_survival.proofs.Orders.{book-saved}
use Rattle.fdp_survival.proofs.books.books_can_be_saved.Goals as goal

pub returns : goal.returns
returns c = book-saved
