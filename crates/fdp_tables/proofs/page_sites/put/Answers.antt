use Rattle.std.proofs.Common.{◌≡◌, List, Option, ap, sym, ◌∙◌, map, set, get_or, [], Some, arith, length, ◌<◌}
use Rattle.std.specs.Vec.{vec_items}
use Rattle.std.proofs.lemmas.List.{get_or-map, length-map, map-set}
use Rattle.fdp_base.specs.declared.entry.Spot.{Spot}
use Rattle.fdp_tables.proofs.page_sites.put.Goals as goal

pub returns : goal.returns
returns c =
    let rows = c.args.rows.now.items in
    let k = c.args.ticket in
    let v = c.index_mut.result.now in
    let there : k < length rows = omega (arith, c.requires.ticket, length-map rows vec_items) in
    let row : get_or (map vec_items rows) k [] ≡ v.items = get_or-map vec_items rows k v [] there ∙ ap vec_items (sym c.index_mut.ensures.value) in
    map-set vec_items rows k _ ∙ ap (λ (xs : List (Option Spot)). set (map vec_items rows) k (set xs c.args.index (Some c.args.spot))) (sym row)
