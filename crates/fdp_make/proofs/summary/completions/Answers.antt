use Rattle.std.proofs.Common.{◌≡◌, cond, arith, ap, ◌∙◌}
use Rattle.fdp_make.specs.Summary.{is_completion}
use Rattle.fdp_make.proofs.Listing.{bit_bound, bit_is}
use Rattle.fdp_make.proofs.Summing.{sum_end, sum_first, sum_next}
use Rattle.fdp_make.proofs.summary.completions.Goals as goal

pub loop-entry-init : goal.loop-entry-init
loop-entry-init c = sum_first (λ e. cond (is_completion e) 1 0) 1 c.args.entries.now

pub loop-entry-preserved : goal.loop-entry-preserved
loop-entry-preserved c =
    let one : c.from-count.result ≡ cond (is_completion c.entry-item.result) 1 0 = c.from-count.ensures ∙ bit_is c.is_completion.result ∙ ap (λ b. cond b 1 0) c.is_completion.ensures in
    sum_next (λ e. cond (is_completion e) 1 0) 1 c.args.entries.now c.loop-entry.entry-index c.loop-entry.count c.from-count.result c.entry-item.result c.loop-entry-test.true
    c.entry-item.is one (omega (arith, one, bit_bound (is_completion c.entry-item.result))) c.loop-entry.invariant

pub returns : goal.returns
returns c = sum_end (λ e. cond (is_completion e) 1 0) 1 c.args.entries.now c.loop-entry.entry-index c.loop-entry.count c.loop-entry-test.false c.loop-entry.invariant
