use Rattle.std.proofs.Common.{All, List, [], ◌∷◌, subst, sym, Vec}
use Rattle.std.specs.declared.alloc.Global.{Global}
use Rattle.std.proofs.lemmas.List.Elements.{All-from_recursion}
use Rattle.fdp_base.specs.declared.command.Command.{Command}
use Rattle.fdp_make.specs.Load.{CanBeServed}
use Rattle.fdp_make.proofs.load.traces.Goals as goal

pub returns-clause-servable : goal.returns-clause-servable
returns-clause-servable c =
    let P : Vec Command Global → Type 0 = λ trace. CanBeServed trace.items in
    let all : List (Vec Command Global) = c.in_ok-first.first ∷ c.in_ok-second.second ∷ c.in_ok-third.third ∷ c.in_ok-fourth.fourth ∷ [] in
    subst (All P) (sym c.in_ok-vec.ensures.items)
    (All-from_recursion P all (c.in_ok-first.ensures.servable, (c.in_ok-second.ensures.servable, (c.in_ok-third.ensures.servable, (c.in_ok-fourth.ensures.servable, tt)))))
