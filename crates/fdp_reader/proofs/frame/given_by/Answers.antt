use Rattle.std.proofs.Common.{subst}
use Rattle.fdp_binary.specs.Asked.{IsAsked}
use Rattle.fdp_reader.proofs.Giving.{none-create, none-entry}
use Rattle.fdp_reader.proofs.frame.given_by.Goals as goal

pub returns-in_default : goal.returns-in_default
returns-in_default c = none-entry c.args.block c.args.admin c.args.bytes.now c.args.behind.now c.requires.block c.in_default.ensures

pub returns-then-is_create : goal.returns-then-is_create
returns-then-is_create c =
    none-create c.args.block c.args.admin c.args.bytes.now c.args.behind.now c.in-Some.entry c.requires.block c.in-Some.ensures.0 c.in-Some.ensures.1
    (subst (IsAsked c.args.admin c.in-Some.entry) c.if-is_create.ensures c.asked_of-asked.ensures.asked)
