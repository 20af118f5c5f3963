use Rattle.std.proofs.Common.{refl}
use Rattle.fdp_plain_judge.proofs.ends.is_over_budget.Goals as goal

pub returns : goal.returns
returns c = rw (c.from-2.ensures, c.budget.ensures.value, c.stored_outside-others.ensures.value, c.from-3.ensures, c.from.ensures) refl
