use Rattle.fdp_tables.proofs.Others.{all-others, few-others, no-others, some-others}
use Rattle.fdp_tables.proofs.state.Kept.stored_in.Goals as goal

pub overflow_sub-result : goal.overflow_sub-result
overflow_sub-result c = few-others c.args.rg c.in-Some.space.now.blocks c.args.slba c.args.count c.count_among.result c.count_in-all.result c.count_in-all.ensures c.count_among.ensures

pub returns-then-nsid-except : goal.returns-then-nsid-except
returns-then-nsid-except c = some-others c.args.self.now c.args.nsid c.args.rg c.args.except c.args.slba c.args.count c.in-Some.space.now c.count_among.result c.count_in-all.result c.in-Some.ensures c.if-nsid-except.true c.count_in-all.ensures c.count_among.ensures

pub returns-else-nsid-except : goal.returns-else-nsid-except
returns-else-nsid-except c = all-others c.args.self.now c.args.nsid c.args.rg c.args.except c.args.slba c.args.count c.in-Some.space.now c.count_in-all.result c.in-Some.ensures c.if-nsid-except.false c.count_in-all.ensures

pub returns-in-None : goal.returns-in-None
returns-in-None c = no-others c.args.self.now c.args.nsid c.args.rg c.args.except c.args.slba c.args.count c.in-None.ensures
