use Rattle.fdp_config.proofs.Passing.{array_passes}
use Rattle.fdp_config.specs.Kinds.{is_array_of, is_text}
use Rattle.fdp_config.proofs.kinds.are_configurations.Goals as goal

pub returns-in-Some : goal.returns-in-Some
returns-in-Some c = array_passes (is_array_of is_text) _ _ _ _ (rw c.in-Some.is at c.as_array.ensures) c.as_slice.ensures.value c.each_is_texts.ensures
