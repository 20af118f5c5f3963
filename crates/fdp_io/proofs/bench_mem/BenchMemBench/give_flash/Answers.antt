use Rattle.fdp_io.proofs.Berths.{out_berth, put_back}
use Rattle.fdp_io.proofs.bench_mem.BenchMemBench.give_flash.Goals as goal

pub returns-clause-back : goal.returns-clause-back
returns-clause-back c = put_back c.args.self.now c.fill.new.berths c.begin.new.self c.args.name.now c.args.flash c.fill.ensures

pub fill-requires : goal.fill-requires
fill-requires c = out_berth c.args.self.now.berths c.args.name.now c.requires
