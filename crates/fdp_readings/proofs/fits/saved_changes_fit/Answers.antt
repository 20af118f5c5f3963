use Rattle.fdp_readings.proofs.Fitting.{create-fits, dealloc-fits, delete-fits, kinds-fit, move-fits, placement-fits, shut-fits, update-fits, write-fits, zero-fits}
use Rattle.fdp_readings.proofs.fits.saved_changes_fit.Goals as goal

pub returns-clause-write : goal.returns-clause-write
returns-clause-write c = write-fits

pub returns-clause-zero : goal.returns-clause-zero
returns-clause-zero c = zero-fits

pub returns-clause-dealloc : goal.returns-clause-dealloc
returns-clause-dealloc c = dealloc-fits

pub returns-clause-update : goal.returns-clause-update
returns-clause-update c = update-fits

pub returns-clause-create : goal.returns-clause-create
returns-clause-create c = create-fits

pub returns-clause-delete : goal.returns-clause-delete
returns-clause-delete c = delete-fits

pub returns-clause-placement : goal.returns-clause-placement
returns-clause-placement c = placement-fits

pub returns-clause-kinds : goal.returns-clause-kinds
returns-clause-kinds c = kinds-fit

pub returns-clause-moved : goal.returns-clause-moved
returns-clause-moved c = move-fits

pub returns-clause-shut : goal.returns-clause-shut
returns-clause-shut c = shut-fits
