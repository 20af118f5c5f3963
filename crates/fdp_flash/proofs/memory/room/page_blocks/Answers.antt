use Rattle.std.proofs.Common.{rules, ◌≡◌, ◌+◌, [], ◌∷◌, ◌++◌, take, Some, slice_get, arith, refl, ap, ◌∙◌, sym}
use Rattle.std.proofs.lemmas.List.{take_more}
use Rattle.std.proofs.lemmas.Option.{slice_get_read}
use Rattle.fdp_flash.proofs.Blocks.{blocks_more}
use Rattle.fdp_flash.proofs.memory.room.page_blocks.Goals as goal

pub loop-cell-preserved : goal.loop-cell-preserved
loop-cell-preserved c =
    let here : slice_get c.args.cells.now c.loop-cell.cell-index ≡ Some c.cell-item.result = slice_get_read _ _ _ _ refl c.loop-cell-test.true c.cell-item.is in
    let front : take (c.loop-cell.cell-index + 1) c.args.cells.now ≡ take c.loop-cell.cell-index c.args.cells.now ++ c.cell-item.result ∷ [] =
    take_more c.args.cells.now c.loop-cell.cell-index c.cell-item.result c.loop-cell-test.true ∙ ap (λ x. take c.loop-cell.cell-index c.args.cells.now ++ x ∷ []) (sym c.cell-item.is) in
    record {
      blocks = rw (front, c.push_reserved.ensures.items)
          (blocks_more c.args.size _ _ c.cell-item.result _ c.loop-cell.invariant.blocks (search rules) (λ spare bytes e. c.requires _ spare bytes (here ∙ ap Some e)));
      count = omega arith;
      capacity = omega arith;
    }
