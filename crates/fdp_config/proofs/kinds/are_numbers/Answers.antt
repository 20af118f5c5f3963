use Rattle.fdp_config.proofs.Passing.{array_passes}
use Rattle.fdp_config.specs.Kinds.{is_number}
use Rattle.fdp_config.proofs.kinds.are_numbers.Goals as goal

pub returns-in-Some : goal.returns-in-Some
returns-in-Some c = array_passes is_number _ _ _ _ (rw c.in-Some.is at c.as_array.ensures) c.as_slice.ensures.value c.each_is_number.ensures
