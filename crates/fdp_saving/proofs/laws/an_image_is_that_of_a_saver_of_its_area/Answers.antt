use Rattle.fdp_saving.proofs.Beginning.{found_says, found_stands}
use Rattle.fdp_saving.proofs.laws.an_image_is_that_of_a_saver_of_its_area.Goals as goal

pub returns-clause-stands : goal.returns-clause-stands
returns-clause-stands c = found_stands

pub returns-clause-says : goal.returns-clause-says
returns-clause-says c = found_says
