use Rattle.std.proofs.Common.{length}
use Rattle.fdp_book.proofs.changes.updated.+closed_by.Given as goal

abbrev pub decreases-closed_by : goal.decreases-closed_by
decreases-closed_by l = length l.pids.now
