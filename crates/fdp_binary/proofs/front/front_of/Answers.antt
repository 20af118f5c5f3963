use Rattle.fdp_binary.proofs.Fronts.{begins-both, begins-entry, begins-head}
use Rattle.fdp_binary.proofs.front.front_of.Goals as goal

pub returns-in-Some-entry_of : goal.returns-in-Some-entry_of
returns-in-Some-entry_of c = begins-both _ _ _ c.args.bytes.now c.requires c.in-Some.ensures c.in-Some-entry_of.ensures

pub returns-in-None-entry_of : goal.returns-in-None-entry_of
returns-in-None-entry_of c = λ front b. c.in-None-entry_of.ensures front.entry (begins-entry front c.args.bytes.now b)

pub returns-in-None : goal.returns-in-None
returns-in-None c = λ front b. c.in-None.ensures front.admin front.len (begins-head front c.args.bytes.now b)
