use Rattle.std.proofs.Common.{◌∙◌, ap, length, subst, sym, slice_get}
use Rattle.std.specs.Prelude.{IfSome, option_map}
use Rattle.std.specs.Option.{option_flatten}
use Rattle.fdp_map.specs.MapTable.{IsPlaced}
use Rattle.fdp_map.specs.PageLists.{placed_on, places_of}
use Rattle.fdp_map.proofs.Counting.{block_room, row_first, row_next, row_room}
use Rattle.fdp_map.proofs.Listing.{block_listed, pages_placed}
use Rattle.fdp_map.proofs.counts.count_list.Goals as goal

pub loop-lba-init : goal.loop-lba-init
loop-lba-init c = row_first c.args.counts.now (places_of c.args.geometry c.args.list.now)

pub raise-requires : goal.raise-requires
raise-requires c =
    let g = c.args.geometry in
    let is = c.placed.ensures ∙ ap (option_map (placed_on g)) c.page_in.ensures in
    let placed : IfSome c.placed.result (IsPlaced g) = subst (λ o. IfSome o (IsPlaced g)) (sym is) (pages_placed g c.requires.cut (option_flatten (slice_get c.args.list.now c.loop-lba.lba)) (c.requires.pages c.loop-lba.lba)) in
    block_room g c.requires.cut c.loop-lba.counts (c.loop-lba.invariant.rows ∙ c.requires.rows) (row_room c.args.counts.now c.loop-lba.counts (places_of g c.args.list.now) c.loop-lba.lba (length c.args.list.now) c.requires.room c.loop-lba-test.true c.loop-lba.invariant) c.placed.result placed

pub loop-lba-preserved : goal.loop-lba-preserved
loop-lba-preserved c =
    let g = c.args.geometry in
    let is = c.placed.ensures ∙ ap (option_map (placed_on g)) c.page_in.ensures ∙ sym (block_listed g c.args.list.now c.loop-lba.lba) in
    row_next c.args.counts.now c.loop-lba.counts c.raise.new.counts (places_of g c.args.list.now) c.loop-lba.lba c.placed.result is c.raise.ensures.counts c.raise.ensures.rows c.loop-lba.invariant
