use Rattle.fdp_pages.proofs.Used.{taken-open, taken-used}
use Rattle.fdp_pages.proofs.taking.use_next.Goals as goal

pub use_page-requires-clause-open : goal.use_page-requires-clause-open
use_page-requires-clause-open c = taken-open c.args.units.now c.take_free.new.units c.args.unit c.requires.state c.take_free.ensures.unit

pub returns-clause-unit : goal.returns-clause-unit
returns-clause-unit c = taken-used c.args.units.now c.take_free.new.units c.use_page.new.self c.args.unit c.take_free.ensures.unit c.use_page.ensures.unit
