use Rattle.std.proofs.Common.{ℕ, List, ◌∷◌, length, subst}
use Rattle.fdp_tables.specs.Starts.{AreStarts}
use Rattle.fdp_plain.proofs.Runs.{starts_from}
use Rattle.fdp_plain.proofs.again.+take_runs.Goals as goal

pub part-requires-clause-order : goal.part-requires-clause-order
part-requires-clause-order t c =
    let h : AreStarts c.args.from (c.in-Some.to.now ∷ c.in-Some.later.now) (length c.args.entries.now) = subst (λ (ss : List ℕ). AreStarts c.args.from ss (length c.args.entries.now)) c.in-Some.ensures.cases.0 c.requires.starts in
    h.0

pub part-requires-clause-end : goal.part-requires-clause-end
part-requires-clause-end t c =
    let h : AreStarts c.args.from (c.in-Some.to.now ∷ c.in-Some.later.now) (length c.args.entries.now) = subst (λ (ss : List ℕ). AreStarts c.args.from ss (length c.args.entries.now)) c.in-Some.ensures.cases.0 c.requires.starts in
    starts_from c.in-Some.to.now c.in-Some.later.now (length c.args.entries.now) h.1
