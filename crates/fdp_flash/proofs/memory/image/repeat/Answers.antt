use Rattle.std.proofs.Common.{arith}
use Rattle.fdp_flash.proofs.Pages.{page_number-below, unit_fits}
use Rattle.fdp_flash.proofs.memory.image.repeat.Goals as goal

pub bounds-cells-page_index : goal.bounds-cells-page_index
bounds-cells-page_index c =
    let below = page_number-below c.args.geometry c.args.call.now.at c.requires.place in
    omega (arith, below)

pub erase-requires : goal.erase-requires
erase-requires c =
    let fits = unit_fits c.args.geometry c.args.call.now.at.unit c.requires.place.unit in
    omega (arith, fits)
