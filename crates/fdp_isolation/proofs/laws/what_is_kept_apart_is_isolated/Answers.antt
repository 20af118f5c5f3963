use Rattle.fdp_isolation.proofs.Leaving.{leaves-used}
use Rattle.fdp_isolation.proofs.Promised.{isolated}
use Rattle.fdp_isolation.proofs.laws.what_is_kept_apart_is_isolated.Goals as goal

pub returns-clause-isolated : goal.returns-clause-isolated
returns-clause-isolated c = isolated

pub returns-clause-used : goal.returns-clause-used
returns-clause-used c = leaves-used
