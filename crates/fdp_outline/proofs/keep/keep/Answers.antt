use Rattle.std.proofs.Common.{sym, ◌∙◌}
use Rattle.fdp_outline.proofs.Keeping.{not-kept}
use Rattle.fdp_outline.proofs.keep.keep.Goals as goal

pub returns-then-not-reports-clause-events : goal.returns-then-not-reports-clause-events
returns-then-not-reports-clause-events c = not-kept c.args.summary.now c.requires.writable.summary c.args.event (sym c.reports.ensures ∙ c.if-not-reports.true)
