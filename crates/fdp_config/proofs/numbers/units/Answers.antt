use Rattle.std.proofs.Common.{◌≡◌, ◌+◌, ◌*◌, None, Some, arith}
use Rattle.std.proofs.lemmas.Bool.Decides.{nat_tests}
use Rattle.std.proofs.lemmas.Result.{err_from_is_err_and}
use Rattle.fdp_config.proofs.Checks.{checked_err, checked_both, checked_further, checked_value}
use Rattle.fdp_config.specs.Ranges.{further_fault, range_fault}
use Rattle.fdp_config.specs.Reader.Config.{config_in}
use Rattle.fdp_config.specs.declared.key.Key.TheVariants.{Units}
use Rattle.toml.specs.View.{table_view}
use Rattle.fdp_config.proofs.numbers.units.Goals as goal

pub returns-in_err-units : goal.returns-in_err-units
unfolding range_fault
returns-in_err-units c =
    let p = err_from_is_err_and c.from_residual.result c.from_residual.ensures.1 in
    rw (p.1, p.2) (checked_err Units _ _ _ _ _ c.in_err-units.ensures.value)

pub returns-then-pages : goal.returns-then-pages
unfolding range_fault
returns-then-pages c =
    let same = checked_value Units _ _ _ c.in_ok-units.ensures.value in
    let free : further_fault (table_view c.args.table.now) (config_in (table_view c.args.table.now)) Units ≡ None = grind (arith, nat_tests) in
    checked_both Units _ _ _ _ c.in_ok-units.ensures.value free

pub returns-else-pages : goal.returns-else-pages
unfolding range_fault
returns-else-pages c =
    let same = checked_value Units _ _ _ c.in_ok-units.ensures.value in
    let told : further_fault (table_view c.args.table.now) (config_in (table_view c.args.table.now)) Units ≡ Some (c.from-4.result * (c.from.result * c.from-2.result + 2 * c.from-3.result)) = grind (arith, nat_tests) in
    checked_further Units _ _ _ _ _ c.in_ok-units.ensures.value told
