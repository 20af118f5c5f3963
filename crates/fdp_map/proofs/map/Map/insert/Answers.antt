use Rattle.std.proofs.Common.{◌∙◌, ◌<◌, ◌-◌, ℕ, List, Option, None, ap, arith, length, set, subst, sym, replicate}
use Rattle.fdp_base.specs.Numbers.{with_at}
use Rattle.fdp_map.specs.MapTable.{IsCounted, MapTable, mapped_at, row, size_in}
use Rattle.fdp_map.specs.PageLists.{table_of}
use Rattle.fdp_map.proofs.Listing.{table_put, vacant_places}
use Rattle.fdp_map.proofs.Tables.{sizes_with, vacant_blocks, with_row}
use Rattle.fdp_map.proofs.Vacant.{IsVacant, absent, blocks_vacant, counted_vacant, length-vacant, vacant}
use Rattle.fdp_map.proofs.map.Map.insert.Goals as goal

pub invariant_of-self : goal.invariant_of-self
invariant_of-self c =
    let g = c.self.inside.geometry in
    let m : MapTable = table_of g c.self.inside.lists.items in
    let there : c.args.nsid < length m.rows = omega (arith, c.self.invariant.rows, c.requires.nsid.1) in
    let before : IsVacant (row m c.args.nsid) = absent m c.args.self.now c.args.nsid c.self.view_is c.requires.absent in
    subst (λ (t : MapTable). IsCounted t c.self.inside.counts) (sym (ap (λ (list : List (Option ℕ)). table_of g (set c.self.inside.lists.items (c.args.nsid - 1) list)) c.requires.vacant ∙ table_put g c.self.inside.lists.items c.args.nsid (replicate (length c.args.list) None) c.requires.nsid.0 ∙ ap (with_row m c.args.nsid) (vacant_places g (length c.args.list))))
    (counted_vacant m c.self.inside.counts c.args.nsid (vacant (length c.args.list)) c.requires.nsid.0 there (omega (arith, length-vacant (length c.args.list), c.requires.size)) before (vacant_blocks (length c.args.list)) c.self.invariant)

pub returns-clause-sizes : goal.returns-clause-sizes
returns-clause-sizes c =
    let g = c.self.inside.geometry in
    let m : MapTable = table_of g c.self.inside.lists.items in
    let there : c.args.nsid < length m.rows = omega (arith, c.self.invariant.rows, c.requires.nsid.1) in
    ap (λ (list : List (Option ℕ)). size_in (table_of g (set c.self.inside.lists.items (c.args.nsid - 1) list))) c.requires.vacant
    ∙ ap size_in (table_put g c.self.inside.lists.items c.args.nsid (replicate (length c.args.list) None) c.requires.nsid.0 ∙ ap (with_row m c.args.nsid) (vacant_places g (length c.args.list)))
    ∙ (λ d n. sizes_with m c.args.nsid (vacant (length c.args.list)) there n d)
    ∙ ap (λ (size : ℕ). with_at (size_in m) c.args.nsid size) (length-vacant (length c.args.list))
    ∙ ap (λ (x : MapTable). with_at (size_in x) c.args.nsid (length c.args.list)) c.self.view_is

pub returns-clause-blocks : goal.returns-clause-blocks
returns-clause-blocks c =
    let g = c.self.inside.geometry in
    let m : MapTable = table_of g c.self.inside.lists.items in
    let there : c.args.nsid < length m.rows = omega (arith, c.self.invariant.rows, c.requires.nsid.1) in
    let before : IsVacant (row m c.args.nsid) = absent m c.args.self.now c.args.nsid c.self.view_is c.requires.absent in
    ap (λ (list : List (Option ℕ)). mapped_at (table_of g (set c.self.inside.lists.items (c.args.nsid - 1) list))) c.requires.vacant
    ∙ ap mapped_at (table_put g c.self.inside.lists.items c.args.nsid (replicate (length c.args.list) None) c.requires.nsid.0 ∙ ap (with_row m c.args.nsid) (vacant_places g (length c.args.list)))
    ∙ (λ d n lba. blocks_vacant m c.args.nsid (vacant (length c.args.list)) there before (vacant_blocks (length c.args.list)) n lba d)
    ∙ ap mapped_at c.self.view_is
