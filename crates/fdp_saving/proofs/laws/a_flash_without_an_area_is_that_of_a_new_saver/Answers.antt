use Rattle.fdp_saving.proofs.Beginning.{blank_current, fresh_says, fresh_stands}
use Rattle.fdp_saving.proofs.laws.a_flash_without_an_area_is_that_of_a_new_saver.Goals as goal

pub returns-clause-stands : goal.returns-clause-stands
returns-clause-stands c = fresh_stands

pub returns-clause-says : goal.returns-clause-says
returns-clause-says c = fresh_says

pub returns-clause-blank : goal.returns-clause-blank
returns-clause-blank c = blank_current
