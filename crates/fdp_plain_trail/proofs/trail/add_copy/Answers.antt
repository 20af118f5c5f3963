use Rattle.std.specs.Vec.{vec_items}
use Rattle.fdp_tables.proofs.Walks.{added_copy}
use Rattle.fdp_plain_trail.proofs.trail.add_copy.Goals as goal

pub returns-clause-copies : goal.returns-clause-copies
returns-clause-copies c = λ d i. added_copy vec_items c.args.kept.now.copies.items c.args.rg c.index_mut.result.now c.push_reserved.new.self (c.args.from, c.args.to) c.requires.group c.index_mut.ensures.value c.push_reserved.ensures.items i d
