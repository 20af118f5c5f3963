use Rattle.std.proofs.Common.{inl, subst}
use Rattle.fdp_finding.specs.Wanted.{audited, commands_of, session, texts_in}
use Rattle.fdp_io.specs.Bench.{BenchState}
use Rattle.fdp_cli.specs.Top.{EndsRun, OnImage}
use Rattle.fdp_cli.proofs.Benches.{same_bench}
use Rattle.fdp_cli.proofs.top.drive_top.Goals as goal

pub returns-in-Ok-Serve-clause-answers : goal.returns-in-Ok-Serve-clause-answers
returns-in-Ok-Serve-clause-answers g c =
    let w = c.in-Ok-Serve.wanted in
    let found = rw c.in-Ok-Serve.field-0-is at c.in-Ok-Serve.ensures in
    inl (
      session w.form w.config w.image.now (commands_of w.traces.items),
      found.answer,
      subst (λ (b : BenchState). OnImage g.B.F.Flash.state b (g.B.Bench.state c.run.new.bench) w.config w.image.now (EndsRun g.B.F.Flash.state w.form w.config (commands_of w.traces.items)) (g.K.Sink.state c.args.sink.now) (g.K.Sink.state c.run.new.sink) c.run.result)
          (same_bench (g.B.Bench.state c.args.bench.now) (g.B.Bench.state c.find.new.bench) c.in-Ok-Serve.ensures.texts c.in-Ok-Serve.ensures.flashes c.in-Ok-Serve.ensures.counts)
          c.run.ensures.runs,
    )

pub returns-in-Ok-Audit-clause-answers : goal.returns-in-Ok-Audit-clause-answers
returns-in-Ok-Audit-clause-answers g c =
    let kept = c.in-Ok-Audit.found in
    let found = rw c.in-Ok-Audit.field-0-is at c.in-Ok-Audit.ensures in
    inl (audited kept.config (texts_in kept.texts.items), found.answer, (c.in-Ok-Audit.ensures.flashes, c.in-Ok-Audit.ensures.counts, c.judge.ensures.audits))
