use Rattle.fdp_state.proofs.Owning.{AreFree}
use Rattle.fdp_state.proofs.owners.free_pages.Given as goal

abbrev pub invariant-loop-page : goal.invariant-loop-page
invariant-loop-page l = AreFree l.owners.items
