use Rattle.fdp_calls.proofs.Made.{erased-done, erased-failed}
use Rattle.fdp_collector.proofs.erasing.erase_victim.Goals as goal

pub returns-in-Done-clause-made : goal.returns-in-Done-clause-made
returns-in-Done-clause-made g c = erased-done (g.F.Flash.state c.args.flash.now) (g.F.Flash.state c.erase.new.self) c.args.unit c.in-Done.ensures.call c.in-Done.ensures.answer

pub returns-in-Failed-clause-made : goal.returns-in-Failed-clause-made
returns-in-Failed-clause-made g c = erased-failed (g.F.Flash.state c.args.flash.now) (g.F.Flash.state c.erase.new.self) c.args.unit c.in-Failed.ensures.call c.in-Failed.ensures.answer
