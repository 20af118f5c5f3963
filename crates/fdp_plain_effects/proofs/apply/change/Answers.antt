use Rattle.fdp_plain_effects.proofs.apply.change.Goals as goal

pub returns-in-Placed-clause-state : goal.returns-in-Placed-clause-state
returns-in-Placed-clause-state c = rw c.in-Placed.is (c.change_placed.ensures.state c.in-Placed.placed.index c.in-Placed.placed.page)
