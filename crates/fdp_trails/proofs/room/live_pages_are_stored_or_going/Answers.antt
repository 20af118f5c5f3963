use Rattle.fdp_trails.proofs.Counting.{live-most}
use Rattle.fdp_trails.proofs.room.live_pages_are_stored_or_going.Goals as goal

pub returns : goal.returns
returns c = live-most
