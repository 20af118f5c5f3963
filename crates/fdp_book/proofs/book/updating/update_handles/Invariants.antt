use Rattle.std.proofs.Common.{take}
use Rattle.fdp_book.specs.Updating.{Updates}
use Rattle.fdp_book.proofs.book.updating.update_handles.Given as goal

abbrev pub invariant-loop-pid : goal.invariant-loop-pid
invariant-loop-pid l = Updates l.config l.fn.tables l.tables l.nsid (take l.pid-index l.pids)
