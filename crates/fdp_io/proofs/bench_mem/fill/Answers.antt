use Rattle.std.proofs.Common.{Some, rules}
use Rattle.fdp_io.proofs.Berths.{berth_set}
use Rattle.fdp_io.proofs.bench_mem.fill.Goals as goal

pub returns : goal.returns
returns c =
    berth_set c.args.name.now c.args.berths.now (c.get_mut.follows.lender (Some c.args.flash)) (Some c.args.flash) ((c.get_mut.follows.holds (Some c.args.flash)).3 (search rules))
