use Rattle.fdp_plain_answers.specs.Keeping.{references_in}
use Rattle.fdp_tables.specs.State.{plain_of, reference_at}
use Rattle.fdp_plain_answers.proofs.Closing.{IsClosing}
use Rattle.fdp_plain_answers.proofs.closings.push_closings.Given as goal

abbrev pub invariant-loop-pid : goal.invariant-loop-pid
invariant-loop-pid l = IsClosing l.kept.config (plain_of l.kept) l.nsid (reference_at l.kept) (references_in l.kept.config l.rows.items) l.pids l.pid-index l.fn.into.items l.into.items
