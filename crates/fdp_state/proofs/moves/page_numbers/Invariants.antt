use Rattle.std.proofs.Common.{◌+◌, ◌*◌, []}
use Rattle.fdp_image.specs.Bits.{is_bit_set}
use Rattle.fdp_state.proofs.Collecting.{IsChosen}
use Rattle.fdp_state.proofs.moves.page_numbers.Given as goal

abbrev pub invariant-loop-page : goal.invariant-loop-page
invariant-loop-page l = IsChosen (λ page. l.x.unit * l.config.unit_pages + page) (is_bit_set l.x.pages.bits) l.page [] l.numbers.items
