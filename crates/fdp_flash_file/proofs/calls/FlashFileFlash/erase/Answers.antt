use Rattle.std.proofs.Common.{arith}
use Rattle.fdp_flash.proofs.Pages.{unit_fits}
use Rattle.fdp_flash_file.proofs.calls.FlashFileFlash.erase.Goals as goal

pub erase-requires-clause-pages : goal.erase-requires-clause-pages
erase-requires-clause-pages g c =
    let fits = unit_fits c.args.self.now.geometry c.args.unit c.requires.place in
    omega (arith, fits, c.args.self.now.room.states, c.place_of-first.ensures.page)
