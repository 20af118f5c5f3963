use Rattle.std.proofs.Common.{◌∙◌, ◌<◌, ◌-◌, ℕ, List, [], Option, ap, arith, length, set, subst, sym, refl}
use Rattle.fdp_base.specs.Numbers.{with_at}
use Rattle.fdp_map.specs.MapTable.{IsCounted, MapTable, mapped_at, row, size_in}
use Rattle.fdp_map.specs.PageLists.{table_of}
use Rattle.fdp_map.proofs.Listing.{table_put}
use Rattle.fdp_map.proofs.Tables.{sizes_with}
use Rattle.fdp_map.proofs.Vacant.{IsVacant, blocks_vacant, counted_vacant, emptied}
use Rattle.fdp_map.proofs.map.Map.delete.Goals as goal

pub invariant_of-self : goal.invariant_of-self
invariant_of-self c =
    let g = c.self.inside.geometry in
    let lists : List (List (Option ℕ)) = c.self.inside.lists.items in
    let m : MapTable = table_of g lists in
    let there : c.args.nsid < length m.rows = omega (arith, c.self.invariant.rows, c.requires.nsid.1) in
    let before : IsVacant (row m c.args.nsid) = emptied m c.empty.new.self c.args.self.now c.args.nsid c.self.view_is c.empty.ensures.blocks in
    let table = ap (λ (list : List (Option ℕ)). table_of g (set lists (c.args.nsid - 1) list)) c.new.ensures ∙ table_put g lists c.args.nsid [] c.requires.nsid.0 in
    subst (λ (t : MapTable). IsCounted t c.self.inside.counts) (sym table)
    (counted_vacant m c.self.inside.counts c.args.nsid [] c.requires.nsid.0 there (omega arith) before (λ lba. refl) c.self.invariant)

pub returns-clause-sizes : goal.returns-clause-sizes
returns-clause-sizes c =
    let g = c.self.inside.geometry in
    let lists : List (List (Option ℕ)) = c.self.inside.lists.items in
    let m : MapTable = table_of g lists in
    let there : c.args.nsid < length m.rows = omega (arith, c.self.invariant.rows, c.requires.nsid.1) in
    ap (λ (list : List (Option ℕ)). size_in (table_of g (set lists (c.args.nsid - 1) list))) c.new.ensures
    ∙ ap size_in (table_put g lists c.args.nsid [] c.requires.nsid.0)
    ∙ (λ d n. sizes_with m c.args.nsid [] there n d)
    ∙ ap (λ (f : ℕ → ℕ). with_at f c.args.nsid 0) (ap size_in c.self.view_is ∙ c.empty.ensures.sizes)

pub returns-clause-blocks : goal.returns-clause-blocks
returns-clause-blocks c =
    let g = c.self.inside.geometry in
    let lists : List (List (Option ℕ)) = c.self.inside.lists.items in
    let m : MapTable = table_of g lists in
    let there : c.args.nsid < length m.rows = omega (arith, c.self.invariant.rows, c.requires.nsid.1) in
    let before : IsVacant (row m c.args.nsid) = emptied m c.empty.new.self c.args.self.now c.args.nsid c.self.view_is c.empty.ensures.blocks in
    ap (λ (list : List (Option ℕ)). mapped_at (table_of g (set lists (c.args.nsid - 1) list))) c.new.ensures
    ∙ ap mapped_at (table_put g lists c.args.nsid [] c.requires.nsid.0)
    ∙ (λ d n lba. blocks_vacant m c.args.nsid [] there before (λ b. refl) n lba d)
    ∙ ap mapped_at c.self.view_is
    ∙ c.empty.ensures.blocks
