use Rattle.std.proofs.Common.{◌∷◌, [], IsTrue, sym, subst}
use Rattle.fdp_checkpoint.specs.Writing.{with_pages}
use Rattle.fdp_records.specs.Borrowed.{change_of}
use Rattle.fdp_saving.specs.Saver.{needs_checkpoint}
use Rattle.fdp_saving.specs.Saving.{base_of}
use Rattle.fdp_saving.proofs.Joined.{doubtful_calls, readied, ready_at, ready_read, saved_calls, saving_stops, unsaved_stops}
use Rattle.fdp_saving.proofs.saver.Saver.save.Goals as goal

pub returns-in-Done-append-clause-stops : goal.returns-in-Done-append-clause-stops
returns-in-Done-append-clause-stops g c d own tried drive says fit =
    let s = c.args.self.now in
    let given = with_pages c.args.summary.now c.args.pages.now in
    let base = base_of (needs_checkpoint s) own given in
    let a = g.F.Flash.state c.args.flash.now in
    let b = g.F.Flash.state c.make_ready.new.flash in
    let ready =
    readied d s c.make_ready.new.self c.args.summary.now base a b c.in-Done.ensures.saver drive.geometry c.in-Done.ensures.calls.made.run.told c.in-Done.ensures.stands
    (λ told. c.in-Done.ensures.said d own tried drive told (says told)) in
    saving_stops d (needs_checkpoint s) own tried given ((change_of c.args.change, c.args.totals.now) ∷ []) a b _ (c.in-Done.ensures.stops d own tried drive says)
    (c.in-Done-append.ensures.stops d base (ready_at d s _ _ base b ready) (λ told. ready_read d s _ _ base b ready told) (λ told. fit (subst IsTrue c.in-Done.ensures.calls.made.run.told told)))

pub returns-in-Done-append-clause-said : goal.returns-in-Done-append-clause-said
returns-in-Done-append-clause-said g c d own tried drive told says fit =
    let s = c.args.self.now in
    let given = with_pages c.args.summary.now c.args.pages.now in
    let base = base_of (needs_checkpoint s) own given in
    let a = g.F.Flash.state c.args.flash.now in
    let b = g.F.Flash.state c.make_ready.new.flash in
    let ready =
    readied d s c.make_ready.new.self c.args.summary.now base a b c.in-Done.ensures.saver drive.geometry c.in-Done.ensures.calls.made.run.told c.in-Done.ensures.stands
    (λ t. c.in-Done.ensures.said d own tried drive t says) in
    let after : IsTrue b.told = subst IsTrue (sym c.in-Done.ensures.calls.made.run.told) told in
    c.in-Done-append.ensures.said d base (ready_at d s _ _ base b ready) after (ready_read d s _ _ base b ready after) fit

pub returns-in-Done-append-clause-calls : goal.returns-in-Done-append-clause-calls
returns-in-Done-append-clause-calls g c =
    saved_calls c.args.self.now _ c.args.summary.now (g.F.Flash.state c.args.flash.now) (g.F.Flash.state c.make_ready.new.flash) _ c.in-Done.ensures.saver c.in-Done.ensures.calls c.in-Done-append.ensures.calls

pub returns-in-Failed-append-clause-stops : goal.returns-in-Failed-append-clause-stops
returns-in-Failed-append-clause-stops g c d own tried drive says fit =
    let s = c.args.self.now in
    let given = with_pages c.args.summary.now c.args.pages.now in
    let base = base_of (needs_checkpoint s) own given in
    let a = g.F.Flash.state c.args.flash.now in
    let b = g.F.Flash.state c.make_ready.new.flash in
    let ready =
    readied d s c.make_ready.new.self c.args.summary.now base a b c.in-Done.ensures.saver drive.geometry c.in-Done.ensures.calls.made.run.told c.in-Done.ensures.stands
    (λ told. c.in-Done.ensures.said d own tried drive told (says told)) in
    saving_stops d (needs_checkpoint s) own tried given ((change_of c.args.change, c.args.totals.now) ∷ []) a b _ (c.in-Done.ensures.stops d own tried drive says)
    (c.in-Failed-append.ensures.stops d base (ready_at d s _ _ base b ready) (λ told. ready_read d s _ _ base b ready told) (λ told. fit (subst IsTrue c.in-Done.ensures.calls.made.run.told told)))

pub returns-in-Failed-append-clause-said : goal.returns-in-Failed-append-clause-said
returns-in-Failed-append-clause-said g c d own tried drive told says fit =
    let s = c.args.self.now in
    let given = with_pages c.args.summary.now c.args.pages.now in
    let base = base_of (needs_checkpoint s) own given in
    let a = g.F.Flash.state c.args.flash.now in
    let b = g.F.Flash.state c.make_ready.new.flash in
    let ready =
    readied d s c.make_ready.new.self c.args.summary.now base a b c.in-Done.ensures.saver drive.geometry c.in-Done.ensures.calls.made.run.told c.in-Done.ensures.stands
    (λ t. c.in-Done.ensures.said d own tried drive t says) in
    let after : IsTrue b.told = subst IsTrue (sym c.in-Done.ensures.calls.made.run.told) told in
    c.in-Failed-append.ensures.said d base (ready_at d s _ _ base b ready) after (ready_read d s _ _ base b ready after) fit

pub returns-in-Failed-append-clause-calls : goal.returns-in-Failed-append-clause-calls
returns-in-Failed-append-clause-calls g c =
    doubtful_calls c.args.self.now _ c.args.summary.now (g.F.Flash.state c.append.new.flash).moment (g.F.Flash.state c.args.flash.now) (g.F.Flash.state c.make_ready.new.flash) _ c.in-Done.ensures.saver c.in-Done.ensures.calls c.in-Failed-append.ensures.calls

pub returns-in-Failed-clause-stops : goal.returns-in-Failed-clause-stops
returns-in-Failed-clause-stops g c d own tried drive says fit =
    unsaved_stops d (needs_checkpoint c.args.self.now) own tried (with_pages c.args.summary.now c.args.pages.now) c.args.self.now _ _ c.in-Failed.ensures.calls (c.in-Failed.ensures.stops d own tried drive says)
