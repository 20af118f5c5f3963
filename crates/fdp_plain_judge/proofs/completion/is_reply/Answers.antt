use Rattle.std.proofs.Common.{◌∙◌, sym}
use Rattle.fdp_plain_judge.proofs.completion.is_reply.Goals as goal

pub returns-then-is_write : goal.returns-then-is_write
returns-then-is_write c = rw (sym c.is_write.ensures ∙ c.if-is_write.true) c.is_write_reply.ensures

pub returns-else-is_write : goal.returns-else-is_write
returns-else-is_write c = rw (sym c.is_write.ensures ∙ c.if-is_write.false) c.is_plain_reply.ensures
