use Rattle.std.proofs.Common.{◌∙◌}
use Rattle.fdp_image.specs.Checkpoint.{reading_of_state}
use Rattle.fdp_opening.proofs.Owning.{found-none}
use Rattle.fdp_opening.proofs.blocks.find_entry.Goals as goal

pub returns-in-None-clause-found : goal.returns-in-None-clause-found
returns-in-None-clause-found g c = found-none c.args.config.now (reading_of_state c.args.state.now) (g.F.Flash.state c.args.flash.now) c.args.nsid c.args.lba c.args.pages.now (c.requires.entry ∙ c.in-None.is) c.requires.tables
