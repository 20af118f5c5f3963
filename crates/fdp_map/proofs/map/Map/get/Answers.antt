use Rattle.std.proofs.Common.{◌≡◌, ◌∙◌, List, Option, ap, subst, sym}
use Rattle.std.specs.Prelude.{IfSome, option_map}
use Rattle.fdp_map.specs.declared.mapped.Mapped.{Mapped}
use Rattle.fdp_map.specs.MapTable.{IsPlaced, MapTable, block_in, mapped_at}
use Rattle.fdp_map.specs.PageLists.{placed_on, table_of}
use Rattle.fdp_map.proofs.Counted.{known}
use Rattle.fdp_map.proofs.Listing.{block_listed, pages_within}
use Rattle.fdp_map.proofs.map.Map.get.Goals as goal

pub placed-requires-clause-page : goal.placed-requires-clause-page
placed-requires-clause-page c =
    let g = c.self.inside.geometry in
    let now : MapTable = c.args.self.now in
    let same : now ≡ table_of g c.self.inside.lists.items = sym c.self.view_is in
    let block : mapped_at now c.args.nsid c.args.lba ≡ option_map (placed_on now.geometry) c.page_in.result =
    ap (λ (places : List (Option Mapped)). block_in places c.args.lba) (sym c.list.ensures) ∙ block_listed now.geometry c.list.result.now c.args.lba ∙ ap (option_map (placed_on now.geometry)) (sym c.page_in.ensures) in
    let cut : mapped_at (table_of g c.self.inside.lists.items) c.args.nsid c.args.lba ≡ option_map (placed_on g) c.page_in.result =
    ap (λ (m : MapTable). mapped_at m c.args.nsid c.args.lba) c.self.view_is ∙ block ∙ ap (λ (m : MapTable). option_map (placed_on m.geometry) c.page_in.result) same in
    pages_within g c.self.invariant.cut c.page_in.result (subst (λ o. IfSome o (IsPlaced g)) cut (c.self.invariant.places c.args.nsid c.args.lba))

pub returns-clause-value : goal.returns-clause-value
returns-clause-value c =
    let g = c.self.inside.geometry in
    let now : MapTable = c.args.self.now in
    let same : now ≡ table_of g c.self.inside.lists.items = sym c.self.view_is in
    let block : mapped_at now c.args.nsid c.args.lba ≡ option_map (placed_on now.geometry) c.page_in.result =
    ap (λ (places : List (Option Mapped)). block_in places c.args.lba) (sym c.list.ensures) ∙ block_listed now.geometry c.list.result.now c.args.lba ∙ ap (option_map (placed_on now.geometry)) (sym c.page_in.ensures) in
    c.placed.ensures ∙ sym (block ∙ ap (λ (m : MapTable). option_map (placed_on m.geometry) c.page_in.result) same)

pub returns-clause-group : goal.returns-clause-group
returns-clause-group c =
    let g = c.self.inside.geometry in
    let now : MapTable = c.args.self.now in
    let same : now ≡ table_of g c.self.inside.lists.items = sym c.self.view_is in
    let block : mapped_at now c.args.nsid c.args.lba ≡ option_map (placed_on now.geometry) c.page_in.result =
    ap (λ (places : List (Option Mapped)). block_in places c.args.lba) (sym c.list.ensures) ∙ block_listed now.geometry c.list.result.now c.args.lba ∙ ap (option_map (placed_on now.geometry)) (sym c.page_in.ensures) in
    let cut : mapped_at (table_of g c.self.inside.lists.items) c.args.nsid c.args.lba ≡ option_map (placed_on g) c.page_in.result =
    ap (λ (m : MapTable). mapped_at m c.args.nsid c.args.lba) c.self.view_is ∙ block ∙ ap (λ (m : MapTable). option_map (placed_on m.geometry) c.page_in.result) same in
    known g c.self.invariant.cut c.placed.result (subst (λ o. IfSome o (IsPlaced g)) (cut ∙ sym c.placed.ensures) (c.self.invariant.places c.args.nsid c.args.lba))
