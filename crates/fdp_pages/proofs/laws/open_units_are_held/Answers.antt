use Rattle.fdp_pages.proofs.Held.{referenced-held, target-held}
use Rattle.fdp_pages.proofs.laws.open_units_are_held.Goals as goal

pub returns-clause-referenced : goal.returns-clause-referenced
returns-clause-referenced c t rg unit = referenced-held t rg unit

pub returns-clause-targets : goal.returns-clause-targets
returns-clause-targets c t rg unit = target-held t rg unit
