use Rattle.std.proofs.Common.{◌∙◌, arith, subst, sym}
use Rattle.std.proofs.lemmas.Result.{err_from_is_err_and}
use Rattle.fdp_workers.specs.Hosting.{ServesTrace}
use Rattle.fdp_workers.proofs.Serving.{not-none, stops-first}
use Rattle.fdp_workers.proofs.hosts.serve_trace.Goals as goal

pub returns-in_err-pair-clause-serves : goal.returns-in_err-pair-clause-serves
returns-in_err-pair-clause-serves g c =
    let p = err_from_is_err_and c.from_residual.result c.from_residual.ensures.1 in
    let some = not-none _ (sym c.is_empty.ensures ∙ c.if-is_empty.false) in
    subst (ServesTrace g.V.Recorded.origin g.V.Steps.run g.V.Steps.entry g.V.Recorded.mark c.args.lock.now c.args.trace.items c.args.receipts.now.items c.args.seat.now c.args.pass.now) (sym p.1)
    (stops-first g.V.Recorded.origin g.V.Steps.run g.V.Steps.entry g.V.Recorded.mark c.args.lock.now c.args.trace.items c.args.receipts.now.items c.args.seat.now p.0 (omega (arith, some, c.args.trace.ok)) c.requires.none c.requires.idle)

pub returns-in_err-reserve-clause-serves : goal.returns-in_err-reserve-clause-serves
returns-in_err-reserve-clause-serves g c =
    let p = err_from_is_err_and c.from_residual-in_err-reserve.result c.from_residual-in_err-reserve.ensures.1 in
    let some = not-none _ (sym c.is_empty.ensures ∙ c.if-is_empty.false) in
    subst (ServesTrace g.V.Recorded.origin g.V.Steps.run g.V.Steps.entry g.V.Recorded.mark c.args.lock.now c.args.trace.items c.reserve.new.self.items c.args.seat.now c.args.pass.now) (sym p.1)
    (stops-first g.V.Recorded.origin g.V.Steps.run g.V.Steps.entry g.V.Recorded.mark c.args.lock.now c.args.trace.items c.reserve.new.self.items c.args.seat.now p.0 (omega (arith, some, c.args.trace.ok)) (c.reserve.ensures.items ∙ c.requires.none) c.requires.idle)
