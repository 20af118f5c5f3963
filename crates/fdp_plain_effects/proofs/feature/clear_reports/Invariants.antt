use Rattle.fdp_tables.specs.Reports.{no_reports}
use Rattle.fdp_tables.proofs.Walks.{IsMapped}
use Rattle.fdp_plain_effects.proofs.feature.clear_reports.Given as goal

abbrev pub invariant-loop-kept : goal.invariant-loop-kept
invariant-loop-kept l = IsMapped (λ x. no_reports) l.fn.reports l.kept-index l.reports
