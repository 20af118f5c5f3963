use Rattle.std.proofs.Common.{ap, arith}
use Rattle.fdp_map.specs.MapTable.{MapTable, stored_in}
use Rattle.fdp_map.specs.PageLists.{table_of}
use Rattle.fdp_map.proofs.Stored.{stored-bound, stored_agrees}
use Rattle.fdp_map.proofs.map.Map.stored.Goals as goal

pub returns-clause-state : goal.returns-clause-state
returns-clause-state c = λ s h.
    let m : MapTable = table_of c.self.inside.geometry c.self.inside.lists.items in
    omega (arith, c.from.ensures, c.requires.group, c.self.invariant.stored c.from.result, ap (λ (x : MapTable). stored_in x c.from.result) c.self.view_is, ap (stored_in c.args.self.now) c.from.ensures, stored_agrees c.args.self.now c.args.rg s h)

pub returns-clause-bound : goal.returns-clause-bound
returns-clause-bound c =
    let m : MapTable = table_of c.self.inside.geometry c.self.inside.lists.items in
    omega (arith, c.from.ensures, c.requires.group, c.self.invariant.stored c.from.result, stored-bound m c.from.result c.self.invariant.sizes)
