use Rattle.std.proofs.Common.{arith}
use Rattle.fdp_flash.proofs.Pages.{page_number-below}
use Rattle.fdp_flash_file.proofs.page.place_of.Goals as goal

pub spare_at-requires-clause-page : goal.spare_at-requires-clause-page
spare_at-requires-clause-page c =
    let below = page_number-below c.args.geometry c.args.at c.requires.place in
    omega (arith, below)

pub returns-clause-within : goal.returns-clause-within
returns-clause-within c =
    let below = page_number-below c.args.geometry c.args.at c.requires.place in
    omega (arith, below)
