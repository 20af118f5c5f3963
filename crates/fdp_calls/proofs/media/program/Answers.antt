use Rattle.fdp_calls.proofs.Made.{programmed-done, programmed-failed}
use Rattle.fdp_calls.proofs.media.program.Goals as goal

pub returns-in-Done-clause-called : goal.returns-in-Done-clause-called
returns-in-Done-clause-called g c = programmed-done (g.F.Flash.state c.args.flash.now) (g.F.Flash.state c.program.new.self) c.args.at _ _ c.in-Done.ensures.call c.in-Done.ensures.answer

pub returns-in-Failed-clause-failed : goal.returns-in-Failed-clause-failed
returns-in-Failed-clause-failed g c = programmed-failed (g.F.Flash.state c.args.flash.now) (g.F.Flash.state c.program.new.self) c.args.at _ _ c.in-Failed.ensures.call c.in-Failed.ensures.answer
