use Rattle.fdp_image.specs.Checkpoint.{page_in_lists}
use Rattle.fdp_state.specs.Owners.{AreOwners, pages_before}
use Rattle.fdp_state.proofs.index.owners_of.Given as goal

abbrev pub invariant-loop-nsid : goal.invariant-loop-nsid
invariant-loop-nsid l = AreOwners (pages_before (page_in_lists l.state.pages) l.nsid 0) l.owners.items
