use Rattle.std.proofs.Common.{ℕ, List, subst}
use Rattle.std.specs.Bool.{Decides}
use Rattle.std.specs.List.{Contains}
use Rattle.fdp_plain_judge.proofs.Handles.{any_decides}
use Rattle.fdp_plain_judge.proofs.hosts.lists.Goals as goal

pub returns : goal.returns
returns c =
    let P : ℕ → Type 0 = λ n. Decides c.contains.result (Contains c.handles_of.result.now n) in
    let Q : List ℕ → Type 0 = λ xs. Decides c.contains.result (Contains xs c.args.ruh) in
    subst Q c.handles_of.ensures.value (subst P c.from.ensures (any_decides c.handles_of.result.now c.from.result c.contains.result c.contains.ensures.cases))
