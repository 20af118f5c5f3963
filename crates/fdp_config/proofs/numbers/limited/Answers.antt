use Rattle.std.proofs.Common.{◌≡◌, None, Some, ◌∙◌, arith}
use Rattle.std.proofs.lemmas.Bool.Decides.{nat_tests}
use Rattle.std.proofs.lemmas.Result.{err_from_is_err_and}
use Rattle.fdp_config.proofs.Checks.{checked_err, checked_both, checked_further, checked_value}
use Rattle.fdp_config.specs.Ranges.{above, range_fault}
use Rattle.fdp_config.specs.Document.{amount_at}
use Rattle.toml.specs.View.{table_view}
use Rattle.fdp_config.proofs.numbers.limited.Goals as goal

pub returns-in_err-number-clause-value : goal.returns-in_err-number-clause-value
unfolding range_fault
returns-in_err-number-clause-value c =
    let p = err_from_is_err_and c.from_residual.result c.from_residual.ensures.1 in
    rw (p.1, p.2) (checked_err c.args.key _ _ _ _ _ c.in_err-number.ensures.value)

pub returns-then-number-limit-clause-value : goal.returns-then-number-limit-clause-value
unfolding range_fault
returns-then-number-limit-clause-value c =
    let same = checked_value c.args.key _ _ _ c.in_ok-number.ensures.value in
    let free : above c.args.limit (amount_at (table_view c.args.table.now) c.args.key) ≡ None = grind (arith, nat_tests) in
    checked_both c.args.key _ _ _ _ c.in_ok-number.ensures.value (c.requires.limit ∙ free)

pub returns-else-number-limit-clause-value : goal.returns-else-number-limit-clause-value
unfolding range_fault
returns-else-number-limit-clause-value c =
    let same = checked_value c.args.key _ _ _ c.in_ok-number.ensures.value in
    let told : above c.args.limit (amount_at (table_view c.args.table.now) c.args.key) ≡ Some c.from.result = grind (arith, nat_tests) in
    checked_further c.args.key _ _ _ _ _ c.in_ok-number.ensures.value (c.requires.limit ∙ told)
