use Rattle.std.proofs.Common.{◌≡◌, ◌∙◌, Some, ap}
use Rattle.fdp_map.specs.declared.mapped.Mapped.{Mapped}
use Rattle.fdp_map.specs.MapTable.{MapTable, mapped_at, mapped_on, with_mapped}
use Rattle.fdp_map.specs.PageLists.{number_of, placed_on}
use Rattle.fdp_map.proofs.Listing.{spot_back}
use Rattle.fdp_map.proofs.map.Map.put.Goals as goal

pub returns-clause-blocks : goal.returns-clause-blocks
returns-clause-blocks c =
    let now : MapTable = c.args.self.now in
    let back : placed_on now.geometry c.number_of-page.result ≡ mapped_on now.geometry c.args.spot =
    ap (placed_on now.geometry) (c.number_of-page.ensures.value ∙ ap (λ (m : MapTable). number_of m.geometry c.args.spot) c.self.view_is) ∙ spot_back now.geometry c.args.spot c.requires.page.page in
    c.set.ensures.blocks ∙ ap (λ (x : Mapped). with_mapped (mapped_at now) c.args.nsid c.args.lba (Some x)) back
