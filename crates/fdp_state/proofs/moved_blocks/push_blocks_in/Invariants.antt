use Rattle.fdp_image.specs.Reading.{has_page}
use Rattle.fdp_state.specs.Parts.{reading_of}
use Rattle.fdp_state.proofs.Collecting.{IsChosen}
use Rattle.fdp_state.proofs.moved_blocks.push_blocks_in.Given as goal

abbrev pub invariant-loop-lba : goal.invariant-loop-lba
invariant-loop-lba l = IsChosen (λ lba. record { nsid = l.nsid; lba = lba }) (has_page (reading_of l.parts) l.page l.nsid) l.lba l.initial.blocks.items l.blocks.items
