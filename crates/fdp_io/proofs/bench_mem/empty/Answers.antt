use Rattle.std.proofs.Common.{Option, rules, subst}
use Rattle.fdp_flash.specs.declared.memory.FlashMem.{FlashMem}
use Rattle.fdp_io.specs.Berths.{SetsBerth}
use Rattle.fdp_io.proofs.Berths.{berth_set}
use Rattle.fdp_io.proofs.bench_mem.empty.Goals as goal

pub returns-in-Some-clause-emptied : goal.returns-in-Some-clause-emptied
returns-in-Some-clause-emptied c = λ some.
    let left = c.take.new.self in
    subst (λ (berth : Option FlashMem). SetsBerth c.args.berths.now (c.get_mut.follows.lender left) c.args.name.now berth) c.take.ensures.after
    (berth_set c.args.name.now c.args.berths.now (c.get_mut.follows.lender left) left ((c.get_mut.follows.holds left).3 (search rules)))
