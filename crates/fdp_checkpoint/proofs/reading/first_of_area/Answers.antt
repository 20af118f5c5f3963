use Rattle.fdp_checkpoint.proofs.Telling.{first_small}
use Rattle.fdp_checkpoint.proofs.reading.first_of_area.Goals as goal

pub returns-clause-bound : goal.returns-clause-bound
returns-clause-bound c = rw (c.data_units.ensures, c.from.ensures) (first_small c.args.geometry.now c.args.area c.requires.area c.requires.valid)
