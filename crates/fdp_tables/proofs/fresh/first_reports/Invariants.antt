use Rattle.std.proofs.Common.{◌≡◌, replicate}
use Rattle.fdp_tables.specs.Reports.{no_reports}
use Rattle.fdp_tables.proofs.fresh.first_reports.Given as goal

abbrev pub invariant-loop : goal.invariant-loop
invariant-loop l = l.rows.items ≡ replicate l.counter no_reports
