use Rattle.std.proofs.Common.{sym, subst}
use Rattle.fdp_cli.specs.Top.{Answers}
use Rattle.fdp_cli.proofs.exit.drive_process.Goals as goal

pub returns-clause-status : goal.returns-clause-status
returns-clause-status g c =
    subst (λ status. Answers g.B.F.Flash.state (g.B.Bench.state c.args.bench.now) (g.B.Bench.state c.drive_top.new.bench) c.args.words.now (g.K.Sink.state c.args.sink.now) (g.K.Sink.state c.drive_top.new.sink) status) (sym c.from.ensures) c.drive_top.ensures.answers
