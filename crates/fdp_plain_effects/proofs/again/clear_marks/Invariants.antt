use Rattle.std.proofs.Common.{false}
use Rattle.fdp_tables.proofs.Walks.{IsMapped}
use Rattle.fdp_plain_effects.proofs.again.clear_marks.Given as goal

abbrev pub invariant-loop-mark : goal.invariant-loop-mark
invariant-loop-mark l = IsMapped (λ x. false) l.fn.rows l.mark-index l.rows
