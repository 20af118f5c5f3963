use Rattle.fdp_outline.proofs.Paging.{outline-blocks, outline-state}
use Rattle.fdp_outline.proofs.laws.an_outline_with_its_pages_has_room.Goals as goal

pub returns-clause-state : goal.returns-clause-state
returns-clause-state g = outline-state

pub returns-clause-blocks : goal.returns-clause-blocks
returns-clause-blocks g c r s h w = outline-blocks c r s h w.summary.places
