use Rattle.std.proofs.Common.{refl}
use Rattle.fdp_finding.specs.declared.asked.Form.TheVariants as forms
use Rattle.fdp_finding.specs.declared.asked.Texts.TheVariants as texts
use Rattle.fdp_finding.specs.Asked.{recording, recording_streams, running, streaming}
use Rattle.fdp_finding.specs.CommandLine.{as_audit, as_names}
use Rattle.fdp_finding.proofs.Audits.{audit_answers, load_answers}
use Rattle.fdp_finding.proofs.Texts.{form_answers}
use Rattle.fdp_finding.proofs.reading.find.Goals as goal

pub returns-in-Ok-Run-clause-answer : goal.returns-in-Ok-Run-clause-answer
returns-in-Ok-Run-clause-answer g c =
    let asked = rw c.in-Ok-Run.field-0-is at c.in-Ok-Run.ensures in
    let found = c.find_texts in
    form_answers texts.Traces forms.Run running (g.B.Bench.state c.args.bench.now) (g.B.Bench.state found.new.bench) c.args.words.now (as_names c.in-Ok-Run.names) found.result (λ config image traces f. f) refl asked found.ensures.answer

pub returns-in-Ok-Record-clause-answer : goal.returns-in-Ok-Record-clause-answer
returns-in-Ok-Record-clause-answer g c =
    let asked = rw c.in-Ok-Record.field-0-is at c.in-Ok-Record.ensures in
    let found = c.find_texts-in-Ok-Record in
    form_answers texts.Traces forms.Record recording (g.B.Bench.state c.args.bench.now) (g.B.Bench.state found.new.bench) c.args.words.now (as_names c.in-Ok-Record.names) found.result (λ config image traces f. f) refl asked found.ensures.answer

pub returns-in-Ok-Stream-clause-answer : goal.returns-in-Ok-Stream-clause-answer
returns-in-Ok-Stream-clause-answer g c =
    let asked = rw c.in-Ok-Stream.field-0-is at c.in-Ok-Stream.ensures in
    let found = c.find_texts-in-Ok-Stream in
    form_answers texts.Streams forms.Stream streaming (g.B.Bench.state c.args.bench.now) (g.B.Bench.state found.new.bench) c.args.words.now (as_names c.in-Ok-Stream.names) found.result (λ config image traces f. f) refl asked found.ensures.answer

pub returns-in-Ok-StreamRecord-clause-answer : goal.returns-in-Ok-StreamRecord-clause-answer
returns-in-Ok-StreamRecord-clause-answer g c =
    let asked = rw c.in-Ok-StreamRecord.field-0-is at c.in-Ok-StreamRecord.ensures in
    let found = c.find_texts-in-Ok-StreamRecord in
    form_answers texts.Streams forms.StreamRecord recording_streams (g.B.Bench.state c.args.bench.now) (g.B.Bench.state found.new.bench) c.args.words.now (as_names c.in-Ok-StreamRecord.names) found.result (λ config image traces f. f) refl asked found.ensures.answer

pub returns-in-Ok-Make-clause-answer : goal.returns-in-Ok-Make-clause-answer
returns-in-Ok-Make-clause-answer g c =
    let asked = rw c.in-Ok-Make.field-0-is at c.in-Ok-Make.ensures in
    let found = c.find_load in
    load_answers (g.B.Bench.state c.args.bench.now) (g.B.Bench.state c.args.bench.now) c.args.words.now c.in-Ok-Make.load found.result asked.0 found.ensures.load found.ensures.begins found.ensures.fault

pub returns-in-Ok-Audit-clause-answer : goal.returns-in-Ok-Audit-clause-answer
returns-in-Ok-Audit-clause-answer g c =
    let asked = rw c.in-Ok-Audit.field-0-is at c.in-Ok-Audit.ensures in
    let found = c.find_audit in
    audit_answers (g.B.Bench.state c.args.bench.now) (g.B.Bench.state found.new.bench) c.args.words.now (as_audit c.in-Ok-Audit.audit) found.result asked.0 found.ensures.answer
