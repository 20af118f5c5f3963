use Rattle.fdp_pages.proofs.Used.{used-closable, wasted}
use Rattle.fdp_pages.proofs.taking.waste_next.Goals as goal

pub close_open-requires-clause-state : goal.close_open-requires-clause-state
close_open-requires-clause-state c = used-closable c.args.units.now c.use_next.new.units c.args.unit c.requires.state c.use_next.ensures.unit

pub returns-clause-unit : goal.returns-clause-unit
returns-clause-unit c = wasted c.args.units.now c.use_next.new.units c.close_open.new.units c.args.unit c.use_next.ensures.unit c.close_open.ensures.unit
