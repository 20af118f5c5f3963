use Rattle.fdp_book.proofs.Clearing.{clears-one, page-owned}
use Rattle.fdp_book.proofs.book.clearing.clear_block.Goals as goal

pub clear_old-requires : goal.clear_old-requires
clear_old-requires c = page-owned c.args.nsid c.args.lba c.args.map.now c.args.pages.now c.requires.pointers

pub returns : goal.returns
returns c =
    clears-one c.args.nsid c.args.lba c.args.map.now c.remove.new.self c.args.pages.now c.clear_old.new.pages c.remove.ensures.blocks c.remove.ensures.sizes c.remove.ensures.geometry c.clear_old.ensures.owners c.clear_old.ensures.pages
