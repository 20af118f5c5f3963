use Rattle.std.proofs.Common.{◌≡◌}
use Rattle.fdp_plain_effects.proofs.completed.create_made.Goals as goal

pub create-requires-clause-row : goal.create-requires-clause-row
create-requires-clause-row c =
    let same : c.in-Some-lowest_free.nsid ≡ c.requires.nsid = cc in
    rw same c.requires.place

pub create-requires-clause-empty : goal.create-requires-clause-empty
create-requires-clause-empty c =
    let same : c.in-Some.space ≡ c.requires.made = cc in
    rw same c.requires.empty

pub returns-in-Some-lowest_free-clause-state : goal.returns-in-Some-lowest_free-clause-state
returns-in-Some-lowest_free-clause-state c = λ queue asked.
    c.create.ensures.state queue c.args.asked.now.size c.args.asked.now.given c.args.asked.now.list (rw c.in-Some.is at asked)
