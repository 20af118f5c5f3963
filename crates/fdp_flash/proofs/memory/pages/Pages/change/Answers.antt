use Rattle.std.proofs.Common.{◌≡◌, length, arith}
use Rattle.fdp_flash.specs.Blocks.{HasBlocks}
use Rattle.fdp_flash.proofs.Lists.{take-front}
use Rattle.fdp_flash.proofs.Pages.{unit_fits}
use Rattle.fdp_flash.proofs.memory.pages.Pages.change.Goals as goal

pub returns-in-Erase-clause-blocks : goal.returns-in-Erase-clause-blocks
returns-in-Erase-clause-blocks c =
    let before : HasBlocks c.args.geometry.block c.as_mut_slice-cells.result.now c.as_mut_slice-blocks.result.now =
    rw (c.as_mut_slice-cells.ensures.value, c.as_mut_slice-blocks.ensures.value) c.requires.blocks in
    let cells : c.args.self.now.cells.len ≡ length c.erase_pages.new.cells = omega arith in
    let blocks : c.args.self.now.blocks.len ≡ length c.erase_pages.new.blocks = omega arith in
    rw (take-front c.erase_pages.new.cells _ _ cells, take-front c.erase_pages.new.blocks _ _ blocks)
    (c.erase_pages.ensures.blocks c.args.geometry.block before)

pub erase_pages-requires-clause-within : goal.erase_pages-requires-clause-within
erase_pages-requires-clause-within c =
    let fits = unit_fits c.args.geometry c.args.at.unit c.requires.place.unit in
    omega (arith, fits, c.requires.size)
