use Rattle.std.proofs.Common.{subst, map, List}
use Rattle.std.specs.List.{AllZip}
use Rattle.fdp_finding.specs.CommandLine.{as_audit}
use Rattle.fdp_finding.specs.Recorded.{ReadsRecord}
use Rattle.fdp_finding.specs.Wanted.{RecordsLack, texts_in}
use Rattle.fdp_finding.proofs.Audits.{records_audit}
use Rattle.fdp_finding.proofs.RecordTexts.{records_back}
use Rattle.fdp_finding.proofs.Texts.{Name, spelling}
use Rattle.fdp_finding.proofs.reading.find_audit.Goals as goal

pub returns-in-Ok-clause-answer : goal.returns-in-Ok-clause-answer
returns-in-Ok-clause-answer g c =
    let old = g.B.Bench.state c.args.bench.now in
    let mid = g.B.Bench.state c.find_config.new.bench in
    let texts = texts_in c.in-Ok.texts.items in
    let all = subst (λ (ns : List Name). AllZip (ReadsRecord mid) (map spelling ns) texts) c.deref.ensures.value c.in-Ok.ensures.answer in
    record {
      config = c.in_ok-config.ensures.answer;
      valid = c.in_ok-config.ensures.valid;
      texts_are = records_back old mid (map spelling c.args.audit.texts.items) texts c.in_ok-config.ensures.texts all;
    }

pub returns-clause-answer : goal.returns-clause-answer
returns-clause-answer g c =
    let mid = g.B.Bench.state c.find_config.new.bench in
    let new = g.B.Bench.state c.find_records.new.bench in
    let lacks = subst (λ (ns : List Name). RecordsLack mid new (map spelling ns) c.in-Err.fault) c.deref.ensures.value c.in-Err.ensures.answer in
    records_audit (g.B.Bench.state c.args.bench.now) mid new (as_audit c.args.audit) c.in_ok-config.config c.in-Err.fault
    c.in_ok-config.ensures.texts c.in_ok-config.ensures.counts c.in_ok-config.ensures.answer lacks
