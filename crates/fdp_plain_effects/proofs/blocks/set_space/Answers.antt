use Rattle.fdp_tables.specs.State.{plain_of}
use Rattle.fdp_tables.proofs.Spaces.{space_put}
use Rattle.fdp_plain_effects.proofs.blocks.set_space.Goals as goal

pub returns-clause-state : goal.returns-clause-state
returns-clause-state c = space_put (plain_of c.args.kept.now) c.args.kept.now.spaces.items c.args.nsid c.args.space c.requires
