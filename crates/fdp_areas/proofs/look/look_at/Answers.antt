use Rattle.fdp_flash.proofs.OnlyReads.{look_more, no_read}
use Rattle.fdp_areas.proofs.Looks.{ends_look, shows}
use Rattle.fdp_areas.proofs.look.look_at.Goals as goal

pub returns-clause-looks : goal.returns-clause-looks
returns-clause-looks g c = look_more 0 _ _ _ _ _ _ _ (no_read _) c.look.ensures.call c.look.ensures.answer

pub returns-clause-shown : goal.returns-clause-shown
returns-clause-shown g c = shows _ _ _ _ _ _ _ c.args.area c.args.number c.requires.geometry c.requires.number c.page_of_area-at.ensures.place c.look.ensures.answer

pub returns-clause-ends : goal.returns-clause-ends
returns-clause-ends g c = ends_look _ _ _ _ _ _ (g.met.F.Flash.well_formed c.look.new.self) c.look.ensures.call c.look.ensures.answer
