use Rattle.std.proofs.Common.{◌∙◌, ◌++◌, List, ap, sym}
use Rattle.std.proofs.lemmas.List.{append-nil}
use Rattle.fdp_base.specs.declared.entry.BlockName.{BlockName}
use Rattle.fdp_state.specs.Parts.{reading_of}
use Rattle.fdp_state.proofs.MovedBlocks.{free-blocks, held-blocks, sound-within}
use Rattle.fdp_state.proofs.moved_blocks.push_blocks.Goals as goal

pub returns-in-Free : goal.returns-in-Free
returns-in-Free c =
    sym (append-nil c.args.blocks.now.items)
    ∙ ap (λ (bs : List BlockName). c.args.blocks.now.items ++ bs) (sym (free-blocks (reading_of c.args.parts.now) c.args.page c.in-Free.ensures))

pub returns-in_ok-push-in-Held : goal.returns-in_ok-push-in-Held
returns-in_ok-push-in-Held c =
    c.in_ok-push-in-Held.ensures.items
    ∙ ap (λ (bs : List BlockName). c.args.blocks.now.items ++ bs)
    (sym (held-blocks (reading_of c.args.parts.now) c.args.page c.in-Held.block (sound-within c.args.parts.now c.requires) c.in-Held.ensures))
