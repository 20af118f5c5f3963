use Rattle.std.proofs.Common.{refl}
use Rattle.std.proofs.lemmas.Result.{on_ok_weaker}
use Rattle.fdp_io.proofs.Berths.{laid_down}
use Rattle.fdp_io.proofs.bench_mem.BenchMem.lay_flash.Goals as goal

pub returns-clause-ok : goal.returns-clause-ok
returns-clause-ok c =
    on_ok_weaker c.put.result (laid_down c.args.self.now c.put.new.berths c.args.self.now.calls c.args.name.now c.args.flash refl) c.put.ensures.ok
