use Rattle.std.proofs.Common.{rules, ◌≡◌, ◌+◌, ◌++◌, ◌∷◌, [], take, IsTrue, ap, sym, ◌∙◌, inl, inr}
use Rattle.std.proofs.lemmas.List.{take_more}
use Rattle.fdp_flash.specs.declared.cell.Cell.TheVariants.{Whole}
use Rattle.fdp_flash.proofs.Lists.{append_cases}
use Rattle.fdp_flash.proofs.memory.read.have_blocks.Goals as goal

pub loop-cell-preserved : goal.loop-cell-preserved
loop-cell-preserved c =
    let yes : IsTrue c.has_block.result = search rules in
    let front : take (c.loop-cell.cell-index + 1) c.args.cells.now ≡ take c.loop-cell.cell-index c.args.cells.now ++ c.cell-item.result ∷ [] =
    take_more c.args.cells.now c.loop-cell.cell-index c.cell-item.result c.loop-cell-test.true ∙ ap (λ x. take c.loop-cell.cell-index c.args.cells.now ++ x ∷ []) (sym c.cell-item.is) in
    λ k spare bytes h. elim (append_cases _ _ (Whole spare bytes) k (rw front at h)) [
      | inl there ↦ c.loop-cell.invariant k spare bytes there
      | inr last ↦ c.has_block.ensures.0 yes spare bytes last.1
    ]
