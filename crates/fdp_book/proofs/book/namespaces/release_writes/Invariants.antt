use Rattle.fdp_book.specs.Namespaces.{Releases}
use Rattle.fdp_book.proofs.book.namespaces.release_writes.Given as goal

abbrev pub invariant-loop-queue : goal.invariant-loop-queue
invariant-loop-queue l = Releases l.outline l.flights l.nsid l.queue l.fn.pages l.pages
