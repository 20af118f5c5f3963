use Rattle.std.proofs.Common.{◌∙◌, ◌++◌, ℕ, List, ap, refl}
use Rattle.fdp_base.specs.declared.entry.BlockName.{BlockName}
use Rattle.fdp_image.specs.Changed.{moves_of}
use Rattle.fdp_image.specs.Checkpoint.{reading_of_state}
use Rattle.fdp_state.specs.Owners.{moved_blocks}
use Rattle.fdp_state.specs.Parts.{reading_of}
use Rattle.fdp_state.proofs.Making.{made-pages}
use Rattle.fdp_state.proofs.MovedBlocks.{moved-listed, moved-said}
use Rattle.fdp_state.proofs.make.move_pages.Goals as goal

pub put_blocks-requires-clause-within : goal.put_blocks-requires-clause-within
put_blocks-requires-clause-within c =
    let r = reading_of c.args.parts.now in
    moved-listed c.args.parts.now c.as_slice.result.now c.as_slice-2.result.now c.requires.sound
    (c.as_slice-2.ensures.value ∙ c.in_ok-push_moved_blocks.ensures ∙ ap (λ (bs : List (BlockName × ℕ)). bs ++ moved_blocks r c.as_slice.result.now) c.new-blocks.ensures.items)

pub returns-clause-made : goal.returns-clause-made
unfolding reading_of_state
returns-clause-made c handles =
    let r = reading_of c.args.parts.now in
    made-pages c.args.config.now _ c.args.parts.now _ _ c.put_blocks.ensures (λ position. refl)
    (moved-said c.args.parts.now (moves_of c.args.config.now c.args.victim.now c.args.first.now c.args.second.now) c.as_slice-2.result.now c.requires.sound
    (c.as_slice-2.ensures.value
    ∙ c.in_ok-push_moved_blocks.ensures
    ∙ ap (λ (bs : List (BlockName × ℕ)). bs ++ moved_blocks r c.as_slice.result.now) c.new-blocks.ensures.items
    ∙ ap (moved_blocks r) (c.as_slice.ensures.value ∙ c.in_ok-moves.ensures)))
