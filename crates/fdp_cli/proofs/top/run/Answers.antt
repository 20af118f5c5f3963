use Rattle.std.proofs.Common.{inl, inr, subst}
use Rattle.fdp_base.specs.declared.config.Geometry.{Geometry}
use Rattle.fdp_io.specs.declared.bench.NotTaken.{NotTaken}
use Rattle.fdp_io.specs.Bench.{HandsOut, KeepsFlash}
use Rattle.fdp_cli.proofs.top.run.Goals as goal

pub returns-in-Ok-clause-runs : goal.returns-in-Ok-clause-runs
returns-in-Ok-clause-runs g c =
    inl (record {
      between = g.B.Bench.state c.take_flash.new.self;
      handed = c.in-Ok.flash;
      given = c.run_on-end.result.flash;
      taken = subst (λ (geometry : Geometry). HandsOut (g.B.Bench.state c.args.bench.now) (g.B.Bench.state c.take_flash.new.self) c.args.wanted.image.now geometry (g.B.F.Flash.state c.in-Ok.flash)) c.geometry.ensures.value c.in-Ok.ensures.answer;
      ran = c.run_on-end.ensures.ends;
      back = c.give_flash.ensures.back;
    })

pub returns-in-Err-Failed-clause-runs : goal.returns-in-Err-Failed-clause-runs
returns-in-Err-Failed-clause-runs g c =
    inr (inl (subst (λ (refusal : NotTaken). KeepsFlash (g.B.Bench.state c.args.bench.now) (g.B.Bench.state c.take_flash.new.self) refusal) c.in-Err-Failed.field-0-is c.in-Err-Failed.ensures.answer, c.refuse.ensures.refuses))
