use Rattle.std.proofs.Common.{length}
use Rattle.fdp_state.proofs.moved_list.+push_pages.Given as goal

abbrev pub decreases-push_pages : goal.decreases-push_pages
decreases-push_pages l = length l.numbers.now
