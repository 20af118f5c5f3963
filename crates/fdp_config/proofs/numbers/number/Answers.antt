use Rattle.fdp_config.proofs.Checks.{option_or-none}
use Rattle.fdp_config.specs.Ranges.{range_fault}
use Rattle.fdp_config.proofs.numbers.number.Goals as goal

pub returns-clause-value : goal.returns-clause-value
unfolding range_fault
returns-clause-value c = rw (c.requires.alone, option_or-none) c.number_in_row.ensures.value
