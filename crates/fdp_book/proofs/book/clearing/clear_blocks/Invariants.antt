use Rattle.fdp_base.specs.Numbers.{is_among}
use Rattle.fdp_book.specs.Clearing.{Clears}
use Rattle.fdp_book.proofs.book.clearing.clear_blocks.Given as goal

abbrev pub invariant-loop-index : goal.invariant-loop-index
invariant-loop-index l = Clears l.nsid (is_among l.slba l.index) l.fn.map l.map l.fn.pages l.pages
