use Rattle.std.proofs.Common.{◌≡◌, ◌∙◌, ℕ, List, Option, ap, arith, length, map, subst, sym, refl}
use Rattle.std.specs.Prelude.{IfSome}
use Rattle.std.proofs.lemmas.List.{length-map}
use Rattle.fdp_map.specs.MapTable.{IsPlaced, stored_in}
use Rattle.fdp_map.specs.PageLists.{page_at, places_of, table_of}
use Rattle.fdp_map.proofs.Listing.{blocks_are, pages_placed, sizes_are}
use Rattle.fdp_map.proofs.map.Map.of_pages.Goals as goal

pub invariant_of-result : goal.invariant_of-result
invariant_of-result c =
    let g = c.args.geometry in
    let lists : List (List (Option ℕ)) = c.args.lists.items in
    record {
      cut = c.requires.cut;
      rows = let rows : length (map (places_of g) lists) ≡ length lists = length-map lists (places_of g) in omega (arith, rows, c.requires.rows);
      first = refl;
      sizes = λ nsid. omega (arith, sizes_are g lists c.requires.rows nsid, c.requires.sizes nsid);
      places = λ nsid lba. subst (λ o. IfSome o (IsPlaced g)) (sym (blocks_are g lists c.requires.rows nsid lba)) (pages_placed g c.requires.cut (page_at lists nsid lba) (c.requires.pages nsid lba));
      length = c.count_lists-counts.ensures.rows;
      stored = λ rg _. c.count_lists-counts.ensures.counts rg ∙ ap (λ (xs : List (List (Option ℕ))). stored_in (table_of g xs) rg) c.as_slice.ensures.value;
    }

pub returns-clause-sizes : goal.returns-clause-sizes
returns-clause-sizes c = sizes_are c.args.geometry c.args.lists.items c.requires.rows

pub returns-clause-blocks : goal.returns-clause-blocks
returns-clause-blocks c = blocks_are c.args.geometry c.args.lists.items c.requires.rows
