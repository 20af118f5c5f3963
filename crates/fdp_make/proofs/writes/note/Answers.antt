use Rattle.std.proofs.Common.{sym}
use Rattle.fdp_make.proofs.Tables.{takes_host, takes_nothing, tells_next, when_ok}
use Rattle.fdp_make.proofs.writes.note.Goals as goal

pub returns-in-Some-clause-tells : goal.returns-in-Some-clause-tells
returns-in-Some-clause-tells c =
    when_ok _ _ c.note_host.result
    (λ made es tells. tells_next c.args.writes.now c.note_host.new.writes es c.args.entry.now
    (takes_host c.args.writes.now c.note_host.new.writes c.args.entry.now c.in-Some.host.now (sym c.in-Some.ensures) made) tells)
    c.note_host.ensures.tells

pub returns-in-None-clause-tells : goal.returns-in-None-clause-tells
returns-in-None-clause-tells c es tells = tells_next c.args.writes.now c.args.writes.now es c.args.entry.now (takes_nothing c.args.writes.now c.args.entry.now (sym c.in-None.ensures)) tells
