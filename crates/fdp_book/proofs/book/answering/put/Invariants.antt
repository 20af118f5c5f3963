use Rattle.fdp_book.proofs.Answering.{IsPut}
use Rattle.fdp_book.proofs.book.answering.put.Given as goal

abbrev pub invariant-loop-index : goal.invariant-loop-index
invariant-loop-index l = IsPut l.fn.into l.into l.at l.index l.frame
