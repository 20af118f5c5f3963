use Rattle.std.proofs.Common.{◌∙◌, Some, ap, cond, arith, sym}
use Rattle.fdp_base.specs.Counts.{counted}
use Rattle.fdp_io.specs.Calls.{CallsState, faults_of}
use Rattle.fdp_io.proofs.Berths.{made_taken, out_still, some_not_none}
use Rattle.fdp_io.proofs.bench_mem.BenchMemBench.take_flash.Goals as goal

pub returns-in-Some-None-clause-answer : goal.returns-in-Some-None-clause-answer
returns-in-Some-None-clause-answer c =
    let was = c.in-Some-None.is ∙ ap Some c.in-Some-None.field-0-is in
    let begun = c.begin.ensures.call.faults ∙ ap (λ b. cond b (counted (faults_of c.args.self.now.calls)) (faults_of c.args.self.now.calls)) c.if-begin.false in
    let failed = ap (λ (s : CallsState). s.faults) c.fail.ensures.fault in (
      out_still c.args.self.now c.empty.new.berths c.fail.new.self c.args.name.now (sym c.empty.ensures.value ∙ was) (c.empty.ensures.emptied (some_not_none c.empty.result _ c.in-Some-None.is)),
      omega (arith, begun, failed),
    )

pub returns-in-None-clause-answer : goal.returns-in-None-clause-answer
returns-in-None-clause-answer c =
    let begun = c.begin.ensures.call.faults ∙ ap (λ b. cond b (counted (faults_of c.args.self.now.calls)) (faults_of c.args.self.now.calls)) c.if-begin.false in
    made_taken c.args.self.now c.empty.new.berths c.make.new.berths c.begin.new.self c.args.name.now c.args.geometry c.make.result (sym c.empty.ensures.value ∙ c.in-None.is) (c.empty.ensures.none c.in-None.is) begun c.make.ensures
