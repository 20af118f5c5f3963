use Rattle.std.proofs.Common.{◌+◌, ◌++◌, ◌∷◌, [], sym, subst, ◌∙◌, arith, List, refl}
use Rattle.std.specs.Global.{Vec}
use Rattle.fdp_base.specs.declared.command.Command.{Command}
use Rattle.fdp_finding.proofs.Texts.{AreRead, Name, none_next, one_read, pushed_of}
use Rattle.fdp_finding.proofs.traces.find_traces.Goals as goal

-- what the loop reads past the end
abbrev none : Name
none = record { ref_ptr = (0, 0); now = [] }

pub returns-in-Err-clause-answer : goal.returns-in-Err-clause-answer
returns-in-Err-clause-answer g c =
    let mid = g.B.Bench.state c.loop-index.bench in
    let new = g.B.Bench.state c.find_commands.new.bench in
    none_next c.args.texts c.args.config.now (g.B.Bench.state c.args.bench.now) mid new c.args.names.now c.loop-index.index c.loop-index.traces.items none c.in-Err.fault
    c.loop-index.invariant (omega arith) (omega arith) c.in-Err.ensures.answer

pub loop-index-preserved : goal.loop-index-preserved
loop-index-preserved g c =
    let old = g.B.Bench.state c.args.bench.now in
    let mid = g.B.Bench.state c.loop-index.bench in
    let new = g.B.Bench.state c.find_commands.new.bench in
    let trace = c.in-Ok.trace in
    let pushed = pushed_of c.push.result c.push.new.self.items (c.loop-index.traces.items ++ trace ∷ []) c.loop-index.traces.items (sym c.is_err.ensures.value ∙ c.if-is_err.false) c.push.ensures.items in
    subst (λ (traces : List (Vec Command)). AreRead c.args.texts c.args.config.now old new c.args.names.now (c.loop-index.index + 1) traces) (sym pushed)
    (one_read c.args.texts c.args.config.now old mid new c.args.names.now c.loop-index.index c.loop-index.traces.items none trace c.loop-index.invariant (omega arith)
    c.in-Ok.ensures.texts c.in-Ok.ensures.flashes c.in-Ok.ensures.counts c.in-Ok.ensures.answer (c.in-Ok.ensures.servable c.args.config.now refl))
