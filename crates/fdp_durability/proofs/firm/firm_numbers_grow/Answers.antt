use Rattle.fdp_durability.proofs.Owed.{all-firm, firm-on}
use Rattle.fdp_durability.proofs.firm.firm_numbers_grow.Goals as goal

pub returns-clause-all : goal.returns-clause-all
returns-clause-all c = all-firm

pub returns-clause-on : goal.returns-clause-on
returns-clause-on c = firm-on
