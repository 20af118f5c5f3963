use Rattle.std.proofs.Common.{◌+◌, ◌-◌, ◌/◌, ◌∙◌, ap, sym, arith, refl, ℕ}
use Rattle.fdp_checkpoint.proofs.Counted.{count_short, room_is}
use Rattle.fdp_checkpoint.proofs.Steps.{block_some}
use Rattle.fdp_checkpoint.proofs.Telling.{size_is, size_least}
use Rattle.fdp_checkpoint.proofs.count.page_count.Goals as goal

pub returns-then-room-lt-FIXED_SIZE-clause-none : goal.returns-then-room-lt-FIXED_SIZE-clause-none
returns-then-room-lt-FIXED_SIZE-clause-none c none =
    let g = c.args.geometry.now in
    count_short _ g.block c.args.summary.now (block_some g c.requires)
    (omega (arith, room_is c.area_pages.result _ g.block c.area_pages.ensures, c.if-room-lt-FIXED_SIZE.true, size_least c.args.summary.now))

pub returns-in_err-end-clause-none : goal.returns-in_err-end-clause-none
returns-in_err-end-clause-none c none =
    let g = c.args.geometry.now in
    count_short _ g.block c.args.summary.now (block_some g c.requires)
    (omega (arith, room_is c.area_pages.result _ g.block c.area_pages.ensures, c.in_err-end.ensures.none refl, size_is c.args.summary.now c.as_slice.result.now c.as_slice.ensures))

pub returns-then-count-area_pages-clause-count : goal.returns-then-count-area_pages-clause-count
returns-then-count-area_pages-clause-count c =
    let g = c.args.geometry.now in
    ap (λ (n : ℕ). (n + (g.block - 1)) / g.block) (c.in_ok-end.ensures.end ∙ sym (size_is c.args.summary.now c.as_slice.result.now c.as_slice.ensures))

pub returns-else-count-area_pages-clause-none : goal.returns-else-count-area_pages-clause-none
returns-else-count-area_pages-clause-none c none =
    let g = c.args.geometry.now in
    let same = ap (λ (n : ℕ). (n + (g.block - 1)) / g.block) (c.in_ok-end.ensures.end ∙ sym (size_is c.args.summary.now c.as_slice.result.now c.as_slice.ensures)) in
    omega (arith, same, c.area_pages-2.ensures, c.if-count-area_pages.false)
