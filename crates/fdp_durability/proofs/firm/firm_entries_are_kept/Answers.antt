use Rattle.fdp_durability.proofs.Owed.{owed-later, stands-kept, unowed, unowed-late}
use Rattle.fdp_durability.proofs.firm.firm_entries_are_kept.Goals as goal

pub returns-clause-kept : goal.returns-clause-kept
returns-clause-kept c = stands-kept

pub returns-clause-earlier : goal.returns-clause-earlier
returns-clause-earlier c = owed-later

pub returns-clause-none : goal.returns-clause-none
returns-clause-none c = unowed

pub returns-clause-late : goal.returns-clause-late
returns-clause-late c = unowed-late
