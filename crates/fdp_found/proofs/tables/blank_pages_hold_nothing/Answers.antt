use Rattle.fdp_found.proofs.Paging.{blank-none}
use Rattle.fdp_found.proofs.tables.blank_pages_hold_nothing.Goals as goal

pub returns : goal.returns
returns c = blank-none
