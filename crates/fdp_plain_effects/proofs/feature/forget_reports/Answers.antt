use Rattle.std.proofs.Common.{◌≡◌, ◌∙◌, ap, arith, length, map}
use Rattle.std.proofs.lemmas.List.{with_items_is}
use Rattle.fdp_tables.specs.Reports.{no_reports}
use Rattle.fdp_tables.specs.State.{plain_of}
use Rattle.fdp_plain_effects.proofs.Features.{reports_cleared}
use Rattle.fdp_plain_effects.proofs.feature.forget_reports.Goals as goal

pub returns-clause-state : goal.returns-clause-state
returns-clause-state c =
    let k = c.args.kept.now in
    let rows = c.clear_reports.new.reports in
    let same : length rows ≡ k.reports.len = omega (arith, k.reports.ok.0) in
    reports_cleared (plain_of k) k.reports.items _ (with_items_is k.reports rows same ∙ c.clear_reports.ensures ∙ ap (map (λ z. no_reports)) c.as_mut_slice.ensures.value)
