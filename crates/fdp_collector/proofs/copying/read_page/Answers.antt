use Rattle.fdp_calls.proofs.Made.{fetched-failed, fetched-other}
use Rattle.fdp_collector.proofs.Copied.{fetch-failed, read-run}
use Rattle.fdp_collector.proofs.copying.read_page.Goals as goal

pub returns-in-Whole-clause-run : goal.returns-in-Whole-clause-run
returns-in-Whole-clause-run g c = read-run _ _ c.args.at _ _ _ c.in-Whole.ensures.call c.in-Whole.ensures.answer

pub returns-in-Other-clause-run : goal.returns-in-Other-clause-run
returns-in-Other-clause-run g c = read-run _ _ c.args.at _ _ _ c.in-Other.ensures.call c.in-Other.ensures.answer

pub returns-in-Failed-clause-run : goal.returns-in-Failed-clause-run
returns-in-Failed-clause-run g c = read-run _ _ c.args.at _ _ _ c.in-Failed.ensures.call c.in-Failed.ensures.answer

pub returns-in-Other-clause-failed : goal.returns-in-Other-clause-failed
returns-in-Other-clause-failed g c is =
    let a = g.F.Flash.state c.args.flash.now in
    let b = g.F.Flash.state c.fetch.new.self in
    fetch-failed a b c.args.at _ _ _ c.in-Other.ensures.call c.in-Other.ensures.answer (fetched-other a b c.args.at _ _ c.in-Other.ensures.call c.in-Other.ensures.answer c.requires.held)

pub returns-in-Failed-clause-failed : goal.returns-in-Failed-clause-failed
returns-in-Failed-clause-failed g c is =
    let a = g.F.Flash.state c.args.flash.now in
    let b = g.F.Flash.state c.fetch.new.self in
    fetch-failed a b c.args.at _ _ _ c.in-Failed.ensures.call c.in-Failed.ensures.answer (fetched-failed a b c.args.at _ _ c.in-Failed.ensures.call c.in-Failed.ensures.answer)
