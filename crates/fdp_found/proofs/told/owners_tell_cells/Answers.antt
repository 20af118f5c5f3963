use Rattle.fdp_found.proofs.Telling.{owners-told, told-cells, told-valid}
use Rattle.fdp_found.proofs.told.owners_tell_cells.Goals as goal

pub returns-clause-cells : goal.returns-clause-cells
returns-clause-cells c = told-cells

pub returns-clause-valid : goal.returns-clause-valid
returns-clause-valid c config r owners good h = told-valid config owners r h good

pub returns-clause-owners : goal.returns-clause-owners
returns-clause-owners c config r owners h = owners-told config owners r h
