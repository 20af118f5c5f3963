use Rattle.std.proofs.Common.{length}
use Rattle.fdp_keeper.proofs.page_set.+put_new.Given as goal

abbrev pub decreases-put_new : goal.decreases-put_new
decreases-put_new l = length l.copies.now
