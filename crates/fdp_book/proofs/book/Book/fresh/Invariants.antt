use Rattle.fdp_book.specs.Configured.{fresh_opening}
use Rattle.fdp_book.proofs.book.Book.fresh.Given as goal

abbrev pub ghosts-fresh_origin : goal.ghosts-fresh_origin
ghosts-fresh_origin a = record { opening = fresh_opening a.config.now }
