use Rattle.std.proofs.Common.{arith}
use Rattle.fdp_flash.specs.FlashMem.{state_of}
use Rattle.fdp_flash.proofs.Pages.{unit_fits, blank_from_numbers, numbers_from_blank}
use Rattle.fdp_flash.proofs.memory.FlashMem.has_room.Goals as goal

pub are_blank-requires : goal.are_blank-requires
are_blank-requires c =
    let fits = unit_fits (state_of c.args.self.now).geometry c.args.at.unit c.requires.unit in
    omega (arith, fits, c.first_index-first.ensures, c.args.self.now.sound.size, c.as_slice-cells.ensures.value)

pub returns : goal.returns
returns c =
    let blank = rw (c.first_index-first.ensures, c.as_slice-cells.ensures.value) at c.are_blank.ensures in
    (λ yes. blank_from_numbers _ _ _ (blank.0 yes), λ from. blank.1 (numbers_from_blank _ _ _ from))
