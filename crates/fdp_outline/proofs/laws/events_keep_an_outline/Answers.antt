use Rattle.fdp_outline.proofs.Saying.{outline-later, outline-more, outline-totals}
use Rattle.fdp_outline.proofs.laws.events_keep_an_outline.Goals as goal

pub returns-clause-events : goal.returns-clause-events
returns-clause-events g = outline-more

pub returns-clause-totals : goal.returns-clause-totals
returns-clause-totals g = outline-totals

pub returns-clause-later : goal.returns-clause-later
returns-clause-later g = outline-later
