use Rattle.std.proofs.Common.{◌-◌, ◌∙◌, sym, subst, take, drop, length, arith, MatchResult, Option}
use Rattle.fdp_finding.specs.Asked.{Asked}
use Rattle.fdp_finding.specs.CommandLine.{AsksFor, Misses}
use Rattle.fdp_finding.proofs.Choosing.{asks_nothing, chooses, others_plain, split}
use Rattle.fdp_finding.proofs.asked.asked.Goals as goal

pub returns-then-has_option : goal.returns-then-has_option
returns-then-has_option c =
    let words = c.args.words.now in
    asks_nothing words (take (length words - 1) (drop 1 words)) c.word-item.result (split words c.word-item.result (omega arith) c.word-item.is) (sym c.has_option.ensures ∙ c.if-has_option.true)

pub chosen-requires : goal.chosen-requires
chosen-requires c =
    let words = c.args.words.now in
    others_plain words (take (length words - 1) (drop 1 words)) c.word-item.result (split words c.word-item.result (omega arith) c.word-item.is) (sym c.has_option.ensures ∙ c.if-has_option.false)

pub returns : goal.returns
returns c =
    let words = c.args.words.now in
    subst (λ (found : Option Asked). MatchResult c.chosen.result (AsksFor found) (Misses found))
    (chooses words (take (length words - 1) (drop 1 words)) c.word-item.result (split words c.word-item.result (omega arith) c.word-item.is) (sym c.has_option.ensures ∙ c.if-has_option.false)) c.chosen.ensures
