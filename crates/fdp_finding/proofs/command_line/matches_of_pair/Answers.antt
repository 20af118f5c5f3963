use Rattle.std.proofs.Common.{ap, ap₂, ◌≡◌, ◌∙◌, IfOk, subst}
use Rattle.std.proofs.lemmas.Result.{IfOk-weaker}
use Rattle.clap.specs.Words.{App, FailsBy, HasMatchesOf, app_of, fault_of, is_simple_and_free, with_rule}
use Rattle.fdp_finding.specs.Asked.{pair_of}
use Rattle.fdp_finding.specs.CommandLine.{spelled}
use Rattle.fdp_finding.proofs.CommandLines.{reads, refuses}
use Rattle.fdp_finding.proofs.PairLines.{are_pair, decides_pair, pair_app, pair_rows, pair_simple}
use Rattle.fdp_finding.proofs.command_line.matches_of_pair.Goals as goal

same : (c : goal.After-try_get_matches_from) → app_of c.in_ok-command.command ≡ pair_app
same c =
    c.in_ok-command.ensures.shape c.one-2.ensures.local
    ∙ ap₂ with_rule (c.in_ok-arg.ensures.shape c.one.ensures.local ∙ ap₂ with_rule c.simple.ensures c.one.ensures.rule) c.one-2.ensures.rule

fails : (c : goal.After-try_get_matches_from) → FailsBy (fault_of pair_app (spelled c.args.words.now)) c.try_get_matches_from.result
fails c =
    let parse = c.try_get_matches_from in
    subst (λ (a : App). FailsBy (fault_of a (spelled c.args.words.now)) parse.result) (same c) (parse.ensures.kinds (ap is_simple_and_free (same c) ∙ pair_simple))

pub returns-clause-ok : goal.returns-clause-ok
returns-clause-ok c =
    let words = spelled c.args.words.now in
    let parse = c.try_get_matches_from in
    IfOk-weaker parse.result _ _ (λ m h. (h.0, h.1, are_pair m h.0 h.2))
    (reads pair_app pair_rows (pair_of words) words pair_simple parse.result (decides_pair words c.requires) (fails c)
    (subst (λ (a : App). IfOk parse.result (HasMatchesOf a words)) (same c) parse.ensures.matches))

pub returns-clause-err : goal.returns-clause-err
returns-clause-err c =
    let words = spelled c.args.words.now in
    refuses pair_app pair_rows (pair_of words) words pair_simple c.try_get_matches_from.result (decides_pair words c.requires) (fails c)
