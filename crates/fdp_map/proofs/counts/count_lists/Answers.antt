use Rattle.std.proofs.Common.{◌≡◌, ◌∙◌, ◌<◌, ◌+◌, ◌-◌, ℕ, suc, List, [], Option, ap, arith, length, subst, sym, slice_get, get_or}
use Rattle.std.specs.Prelude.{IfSome, slice_index}
use Rattle.std.specs.Option.{option_flatten}
use Rattle.std.proofs.lemmas.List.{get_or_default}
use Rattle.fdp_map.specs.MapTable.{MapTable, stored_in_row}
use Rattle.fdp_map.specs.PageLists.{data_pages, page_at, places_of, table_of}
use Rattle.fdp_map.proofs.Counting.{AreRowsCounted, rows_first, rows_last, rows_next, rows_room}
use Rattle.fdp_map.proofs.Listing.{page_listed}
use Rattle.fdp_map.proofs.counts.count_lists.Goals as goal

pub loop-index-init : goal.loop-index-init
loop-index-init c = rows_first (table_of c.args.geometry c.args.lists.now)

pub count_list-requires-clause-room : goal.count_list-requires-clause-room
count_list-requires-clause-room c = λ rg.
    let lists : List (List (Option ℕ)) = c.args.lists.now in
    let is : c.as_slice.result.now ≡ get_or lists c.loop-index.index [] = c.as_slice.ensures ∙ c.index-lists-index.is ∙ get_or_default lists c.loop-index.index c.index-lists-index.result [] c.loop-index-test.true in
    let within : c.loop-index.index < 16 = omega (arith, c.loop-index-test.true, c.requires.rows) in
    let room = rows_room c.args.geometry lists c.requires.rows c.requires.sizes c.loop-index.counts c.loop-index.index within c.loop-index.invariant rg in
    omega (arith, ap length is, room)

pub count_list-requires-clause-pages : goal.count_list-requires-clause-pages
count_list-requires-clause-pages c = λ lba.
    let lists : List (List (Option ℕ)) = c.args.lists.now in
    let is : c.as_slice.result.now ≡ get_or lists c.loop-index.index [] = c.as_slice.ensures ∙ c.index-lists-index.is ∙ get_or_default lists c.loop-index.index c.index-lists-index.result [] c.loop-index-test.true in
    let back : suc c.loop-index.index - 1 ≡ c.loop-index.index = omega arith in
    let page : page_at lists (suc c.loop-index.index) lba ≡ option_flatten (slice_get c.as_slice.result.now lba) =
    page_listed lists c.requires.rows (suc c.loop-index.index) lba (omega arith) ∙ ap (λ (k : ℕ). option_flatten (slice_get (get_or lists k []) lba)) back ∙ sym (ap (λ (list : List (Option ℕ)). option_flatten (slice_get list lba)) is) in
    subst (λ (o : Option ℕ). IfSome o (λ page. page < data_pages c.args.geometry)) page (c.requires.pages (suc c.loop-index.index) lba)

pub loop-index-preserved : goal.loop-index-preserved
loop-index-preserved c =
    let g = c.args.geometry in
    let lists : List (List (Option ℕ)) = c.args.lists.now in
    let is : c.as_slice.result.now ≡ get_or lists c.loop-index.index [] = c.as_slice.ensures ∙ c.index-lists-index.is ∙ get_or_default lists c.loop-index.index c.index-lists-index.result [] c.loop-index-test.true in
    let counts = subst (λ (list : List (Option ℕ)). (rg : ℕ) → slice_index c.count_list.new.counts rg ≡ slice_index c.loop-index.counts rg + stored_in_row (places_of g list) rg 0 (length list)) is c.count_list.ensures.counts in
    rows_next g lists c.loop-index.counts c.count_list.new.counts c.loop-index.index counts c.count_list.ensures.rows c.loop-index.invariant

pub returns-clause-counts : goal.returns-clause-counts
returns-clause-counts c =
    let m : MapTable = table_of c.args.geometry c.args.lists.now in
    let all : c.loop-index.index ≡ 16 = omega (arith, c.loop-index-test.false, c.loop-index.auto.index-end, c.requires.rows) in
    rows_last m c.loop-index.counts (subst (AreRowsCounted m c.loop-index.counts) all c.loop-index.invariant)
