use Rattle.fdp_book.specs.Reopened.{opening_found}
use Rattle.fdp_book.proofs.book.Book.reopened.Given as goal

abbrev pub ghosts-found_origin : goal.ghosts-found_origin
ghosts-found_origin g a = record { opening = opening_found a.config.now (g.F.Flash.state a.flash.now) a.state.now a.pages.now }
