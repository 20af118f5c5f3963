use Rattle.fdp_map.proofs.Listing.{number_within}
use Rattle.fdp_map.proofs.mapped.number_of.Goals as goal

pub returns-clause-within : goal.returns-clause-within
returns-clause-within c = number_within c.args.geometry c.args.spot c.requires.page
