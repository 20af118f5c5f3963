use Rattle.std.proofs.Common.{length}
use Rattle.fdp_keeper.proofs.page_set.+put_old.Given as goal

abbrev pub decreases-put_old : goal.decreases-put_old
decreases-put_old l = length l.copies.now
