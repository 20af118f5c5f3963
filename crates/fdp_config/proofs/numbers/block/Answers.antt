use Rattle.std.proofs.Common.{◌≡◌, None, Some, arith}
use Rattle.std.proofs.lemmas.Bool.Decides.{nat_tests}
use Rattle.std.proofs.lemmas.Result.{err_from_is_err_and}
use Rattle.fdp_config.proofs.Checks.{checked_err, checked_both, checked_further, checked_value}
use Rattle.fdp_config.specs.Ranges.{further_fault, range_fault}
use Rattle.fdp_config.specs.Reader.Config.{config_in}
use Rattle.fdp_config.specs.declared.key.Key.TheVariants.{Block}
use Rattle.toml.specs.View.{table_view}
use Rattle.fdp_config.proofs.numbers.block.Goals as goal

pub returns-in_err-block : goal.returns-in_err-block
unfolding range_fault
returns-in_err-block c =
    let p = err_from_is_err_and c.from_residual.result c.from_residual.ensures.1 in
    rw (p.1, p.2) (checked_err Block _ _ _ _ _ c.in_err-block.ensures.value)

pub returns-then-block-eq4096 : goal.returns-then-block-eq4096
unfolding range_fault
returns-then-block-eq4096 c =
    let same = checked_value Block _ _ _ c.in_ok-block.ensures.value in
    let free : further_fault (table_view c.args.table.now) (config_in (table_view c.args.table.now)) Block ≡ None = grind (arith, nat_tests) in
    checked_both Block _ _ _ _ c.in_ok-block.ensures.value free

pub returns-else-block-eq4096 : goal.returns-else-block-eq4096
unfolding range_fault
returns-else-block-eq4096 c =
    let same = checked_value Block _ _ _ c.in_ok-block.ensures.value in
    let told : further_fault (table_view c.args.table.now) (config_in (table_view c.args.table.now)) Block ≡ Some c.from.result = grind (arith, nat_tests) in
    checked_further Block _ _ _ _ _ c.in_ok-block.ensures.value told
