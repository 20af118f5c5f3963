use Rattle.fdp_calls.proofs.Made.{fetched-failed, fetched-other, fetched-whole}
use Rattle.fdp_calls.proofs.media.fetch.Goals as goal

pub returns-in-Whole-clause-called : goal.returns-in-Whole-clause-called
returns-in-Whole-clause-called g c = fetched-whole (g.F.Flash.state c.args.flash.now) (g.F.Flash.state c.fetch.new.self) c.args.at _ _ c.in-Whole.ensures.call c.in-Whole.ensures.answer

pub returns-in-Other-clause-failed : goal.returns-in-Other-clause-failed
returns-in-Other-clause-failed g c = fetched-other (g.F.Flash.state c.args.flash.now) (g.F.Flash.state c.fetch.new.self) c.args.at _ _ c.in-Other.ensures.call c.in-Other.ensures.answer c.requires.there

pub returns-in-Failed-clause-failed : goal.returns-in-Failed-clause-failed
returns-in-Failed-clause-failed g c = fetched-failed (g.F.Flash.state c.args.flash.now) (g.F.Flash.state c.fetch.new.self) c.args.at _ _ c.in-Failed.ensures.call c.in-Failed.ensures.answer
