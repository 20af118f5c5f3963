use Rattle.fdp_pages.proofs.Found.{find-fill}
use Rattle.fdp_pages.proofs.pages.Pages.find_block.Goals as goal

pub fill-requires : goal.fill-requires
fill-requires c = find-fill c.args.self.now c.args.spot c.args.spare c.joined.ensures c.requires
