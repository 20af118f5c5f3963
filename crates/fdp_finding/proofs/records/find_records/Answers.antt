use Rattle.std.proofs.Common.{◌+◌, ◌++◌, ◌∷◌, [], sym, subst, ◌∙◌, arith, List, ℕ}
use Rattle.std.specs.Global.{Vec}
use Rattle.fdp_finding.proofs.RecordTexts.{AreRecords, next_none, one_record}
use Rattle.fdp_finding.proofs.Texts.{Name, pushed_of}
use Rattle.fdp_finding.proofs.records.find_records.Goals as goal

-- what the loop reads past the end
abbrev none : Name
none = record { ref_ptr = (0, 0); now = [] }

pub returns-in-Err-clause-answer : goal.returns-in-Err-clause-answer
returns-in-Err-clause-answer g c =
    let mid = g.B.Bench.state c.loop-index.bench in
    let new = g.B.Bench.state c.find_record.new.bench in
    next_none (g.B.Bench.state c.args.bench.now) mid new c.args.names.now c.loop-index.index c.loop-index.texts.items none c.number_among-number.result c.in-Err.fault c.loop-index.invariant (omega arith)
    c.number_among-number.ensures c.in-Err.ensures.answer

pub loop-index-preserved : goal.loop-index-preserved
loop-index-preserved g c =
    let old = g.B.Bench.state c.args.bench.now in
    let mid = g.B.Bench.state c.loop-index.bench in
    let new = g.B.Bench.state c.find_record.new.bench in
    let text = c.in-Ok.text in
    let pushed = pushed_of c.push.result c.push.new.self.items (c.loop-index.texts.items ++ text ∷ []) c.loop-index.texts.items (sym c.is_err.ensures.value ∙ c.if-is_err.false) c.push.ensures.items in
    subst (λ (found : List (Vec ℕ)). AreRecords old new c.args.names.now (c.loop-index.index + 1) found) (sym pushed)
    (one_record old mid new c.args.names.now c.loop-index.index c.loop-index.texts.items none text c.loop-index.invariant (omega arith)
    c.in-Ok.ensures.texts c.in-Ok.ensures.flashes c.in-Ok.ensures.counts c.in-Ok.ensures.answer)
