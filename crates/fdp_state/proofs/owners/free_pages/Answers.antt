use Rattle.fdp_state.proofs.Owning.{free-more, free-none, free-owners}
use Rattle.fdp_state.proofs.owners.free_pages.Goals as goal

pub loop-page-init : goal.loop-page-init
loop-page-init c = free-none _ c.new-owners.ensures.items

pub loop-page-preserved : goal.loop-page-preserved
loop-page-preserved c = free-more c.loop-page.owners.items _ c.in_ok-push.ensures.items c.loop-page.invariant

pub returns : goal.returns
returns c = free-owners c.loop-page.owners.items c.loop-page.invariant
