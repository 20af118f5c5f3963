use Rattle.fdp_book.proofs.Committing.PutPages.{IsPutTo}
use Rattle.fdp_book.proofs.book.commit.put_pages.Given as goal

abbrev pub invariant-loop-index : goal.invariant-loop-index
invariant-loop-index l = IsPutTo l.fn.map l.map l.fn.pages l.pages l.nsid l.slba l.fn.map.geometry l.spots l.index
