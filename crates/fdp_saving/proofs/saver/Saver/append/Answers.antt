use Rattle.std.proofs.Common.{◌<◌, ◌∷◌, [], sym, subst, arith}
use Rattle.fdp_base.specs.Geometry.{area_pages}
use Rattle.fdp_journal.specs.JournalState.{JournalState, next_in}
use Rattle.fdp_records.specs.Borrowed.{change_of}
use Rattle.fdp_saving.proofs.Appended.{IsAppending, Outcome, append_made, append_says, append_stands, append_stops, appending}
use Rattle.fdp_saving.proofs.saver.Saver.append.Given.{Over}
use Rattle.fdp_saving.proofs.saver.Saver.append.Goals as goal
use Rattle.fdp_saving.proofs.saver.Saver.append.Goals.{in-Done, in-Doubt}

-- what the program of the record came to
here : (g : Over) (c : goal.Joined-append g)
    → IsAppending c.args.self.now c.append.new.self ((change_of c.args.change, c.args.totals.now) ∷ []) (g.F.Flash.state c.args.flash.now) (g.F.Flash.state c.append.new.flash) c.match-append.result
here g c =
    let s = c.args.self.now in
    let j = c.self.inside.journal in
    let old = g.F.Flash.state c.args.flash.now in
    let new = g.F.Flash.state c.append.new.flash in
    let room : next_in j < area_pages j.geometry = subst (λ (k : JournalState). next_in k < area_pages k.geometry) (sym c.self.view_is) c.requires.room in
    appending s j c.append.new.self ((change_of c.args.change, c.args.totals.now) ∷ []) old new c.match-append.result c.self.view_is c.requires.geometry c.requires.saver c.append.ensures.images
    (λ told. c.append.ensures.left told (λ full. let most = c.append.ensures.full.0 full in absurd (omega (arith, most, room))))
    (elim c.match-append.branch [
      | in-Done w ↦ subst (Outcome j c.append.new.self old new ((change_of c.args.change, c.args.totals.now) ∷ [])) (sym w.result-is) (c.append.ensures.done w.in-Done.is)
      | in-Doubt w ↦ subst (Outcome j c.append.new.self old new ((change_of c.args.change, c.args.totals.now) ∷ [])) (sym w.result-is) (w.in-Doubt.moment, c.append.ensures.doubt w.in-Doubt.moment w.in-Doubt.is)
    ])

pub returns-clause-stands : goal.returns-clause-stands
returns-clause-stands g c told = append_stands _ _ ((change_of c.args.change, c.args.totals.now) ∷ []) _ _ _ (here g c) told

pub returns-clause-stops : goal.returns-clause-stops
returns-clause-stops g c d own same read fit = append_stops d _ _ own ((change_of c.args.change, c.args.totals.now) ∷ []) _ _ _ (here g c) same read fit

pub returns-clause-said : goal.returns-clause-said
returns-clause-said g c d own same told read fit = append_says d _ _ own ((change_of c.args.change, c.args.totals.now) ∷ []) _ _ _ (here g c) same told read fit

pub returns-clause-calls : goal.returns-clause-calls
returns-clause-calls g c = append_made _ _ ((change_of c.args.change, c.args.totals.now) ∷ []) _ _ _ (here g c) (g.met.F.Flash.well_formed c.args.flash.now)
