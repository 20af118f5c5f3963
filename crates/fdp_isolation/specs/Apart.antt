-- What each step of a drive keeps of its pages.
use Rattle.std.specs.Prelude.{List}
use Rattle.fdp_book.specs.Book.{BookSeen}
use Rattle.fdp_flash.specs.declared.cell.Cell.{Cell}
use Rattle.fdp_isolation.specs.Alone.{AreLeftAlone}
use Rattle.fdp_isolation.specs.Laned.{AreLaned}

-- the pages of a book are kept apart in these cells, and each unit that had been used when the run began is left alone until it is erased
pub record AreApart (b : BookSeen) (cells : List Cell) : Type 0 where
  pub laned : AreLaned b cells
  pub alone : AreLeftAlone b.opened b.entries b cells
