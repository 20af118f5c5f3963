use Rattle.std.proofs.Common.{◌∙◌, ap, sym}
use Rattle.fdp_image.specs.Fits.{names_what_is}
use Rattle.fdp_outline.proofs.Naming.{moved_victim}
use Rattle.fdp_state.specs.Parts.{reading_of}
use Rattle.fdp_state.proofs.moved_list.list_moved.Goals as goal

pub blocks_of_unit-requires-clause-unit : goal.blocks_of_unit-requires-clause-unit
blocks_of_unit-requires-clause-unit c =
    moved_victim c.args.config.now (reading_of c.args.parts.now) c.in-Moved.victim _ _ _
    (sym (ap (names_what_is c.args.config.now (reading_of c.args.parts.now)) c.in-Moved.is) ∙ c.requires.fit)
