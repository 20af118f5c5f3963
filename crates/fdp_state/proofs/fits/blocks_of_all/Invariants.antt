use Rattle.fdp_commands.proofs.Summing.{IsSummedOver}
use Rattle.fdp_image.specs.Reading.{size_in}
use Rattle.fdp_state.specs.Parts.{reading_of}
use Rattle.fdp_state.proofs.fits.blocks_of_all.Given as goal

abbrev pub invariant-loop-nsid : goal.invariant-loop-nsid
invariant-loop-nsid l = IsSummedOver (size_in (reading_of l.fn.parts)) l.nsid-items l.nsid-index l.all
