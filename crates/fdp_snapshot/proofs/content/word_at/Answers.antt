use Rattle.std.proofs.Common.{arith, ◌∙◌, ap}
use Rattle.std.specs.Int.{to_le_bytes, w32}
use Rattle.fdp_snapshot.proofs.Words.{entry_word}
use Rattle.fdp_snapshot.proofs.content.word_at.Goals as goal

pub returns-else-word : goal.returns-else-word
returns-else-word c rest room =
    c.to_le_bytes.ensures ∙ ap (to_le_bytes w32) c.entry_at.ensures
    ∙ entry_word c.args.fixed.now c.args.pages.now c.args.word rest c.requires.fixed (omega (arith, c.if-word.false)) room
