use Rattle.std.proofs.Common.{rules, ◌≡◌, ℕ, ◌+◌, ◌%◌, ◌^◌, ◌++◌, List, [], refl, sym, ap, ◌∙◌, arith}
use Rattle.std.specs.Prelude.{flat_map}
use Rattle.std.proofs.lemmas.List.{append-nil}
use Rattle.fdp_base.specs.Numbers.{numbers_below}
use Rattle.fdp_trace.proofs.OwnData.{no_lines, pattern_lines, seed_line, seeds-next, seeds-none, word_line}
use Rattle.fdp_trace.proofs.Printed.{extends_both, extends_more}
use Rattle.fdp_trace.proofs.own_data.push_pattern.Goals as goal

pub returns-then-block-lt4-clause-ok : goal.returns-then-block-lt4-clause-ok
returns-then-block-lt4-clause-ok c =
    sym (append-nil c.args.text.now.items) ∙ ap (λ (t : List ℕ). c.args.text.now.items ++ t) (sym (no_lines c.args.block c.args.count c.args.seed c.if-block-lt4.true))

pub loop-index-init : goal.loop-index-init
loop-index-init c = (seeds-none c.args.seed c.args.text.now.items, record { more = []; whole = sym (append-nil c.args.text.now.items) })

pub loop-index-preserved : goal.loop-index-preserved
loop-index-preserved c = (
  seeds-next c.args.seed c.loop-index.index ((c.args.seed + c.loop-index.index) % 2 ^ 32) c.args.text.now.items c.loop-index.text.items c.push_word_line.new.text.items refl c.loop-index.invariant.0 c.in_ok-push_word_line.ensures.ok,
  extends_more c.args.text.now.items c.loop-index.text.items c.push_word_line.new.text.items (word_line ((c.args.seed + c.loop-index.index) % 2 ^ 32)) c.loop-index.invariant.1 c.in_ok-push_word_line.ensures.ok,
)

pub returns-in_err-push_word_line-clause-err : goal.returns-in_err-push_word_line-clause-err
returns-in_err-push_word_line-clause-err c =
    let grown = extends_both c.args.text.now.items c.loop-index.text.items c.push_word_line.new.text.items c.loop-index.invariant.1 c.in_err-push_word_line.ensures.err in
    search (rules, grown)

pub returns-clause-ok : goal.returns-clause-ok
returns-clause-ok c =
    let all : c.loop-index.index ≡ c.args.count = omega arith in
    c.loop-index.invariant.0
    ∙ ap (λ (n : ℕ). c.args.text.now.items ++ flat_map (seed_line c.args.seed) (numbers_below n)) all
    ∙ ap (λ (t : List ℕ). c.args.text.now.items ++ t) (sym (pattern_lines c.args.block c.args.count c.args.seed c.if-block-lt4.false))
