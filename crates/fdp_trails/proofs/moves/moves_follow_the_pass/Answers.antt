use Rattle.fdp_trails.proofs.Listing.{copies-movable, pass-elsewhere, pass-listed, pass-owners, pass-page, pass-to_copies}
use Rattle.fdp_trails.proofs.moves.moves_follow_the_pass.Goals as goal

pub returns-clause-movable : goal.returns-clause-movable
returns-clause-movable c = copies-movable

pub returns-clause-listed : goal.returns-clause-listed
returns-clause-listed c = pass-listed

pub returns-clause-to_copies : goal.returns-clause-to_copies
returns-clause-to_copies c = pass-to_copies

pub returns-clause-elsewhere : goal.returns-clause-elsewhere
returns-clause-elsewhere c = pass-elsewhere

pub returns-clause-owners : goal.returns-clause-owners
returns-clause-owners c = pass-owners

pub returns-clause-page : goal.returns-clause-page
returns-clause-page c = pass-page
