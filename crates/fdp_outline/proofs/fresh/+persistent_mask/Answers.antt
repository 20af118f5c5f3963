use Rattle.std.proofs.Common.{arith, length}
use Rattle.fdp_outline.proofs.Making.{mask-small}
use Rattle.fdp_outline.proofs.fresh.+persistent_mask.Goals as goal

pub returns-in-Some-clause-small : goal.returns-in-Some-clause-small
returns-in-Some-clause-small t c = mask-small c.bit_of.result c.persistent_mask.result c.args.place (length c.in-Some.rest.now) c.bit_of.ensures.bound c.persistent_mask.ensures.bound (omega (arith, c.in-Some.ensures.cases.1))
