use Rattle.fdp_book.proofs.Making.KindBits.{kinds-more, mask-low}
use Rattle.fdp_book.proofs.changes.kinds.+mask_of.Goals as goal

pub returns-in-Some-clause-kinds : goal.returns-in-Some-clause-kinds
returns-in-Some-clause-kinds t c kind =
    kinds-more c.mask_of.result c.bit_of.result c.in-Some.code.now c.in-Some.rest.now c.args.types.now kind c.in-Some.ensures.cases.0 (c.mask_of.ensures.kinds kind) (c.bit_of.ensures.kinds kind)

pub returns-in-Some-clause-low : goal.returns-in-Some-clause-low
returns-in-Some-clause-low t c = mask-low c.mask_of.result c.bit_of.result c.mask_of.ensures.low c.bit_of.ensures.low
