use Rattle.std.proofs.Common.{◌∷◌, [], ◌++◌, ◌+◌, subst}
use Rattle.fdp_base.specs.declared.entry.Copied.{Copied}
use Rattle.fdp_keeper.specs.Moves.{OldInOrder}
use Rattle.fdp_keeper.proofs.Runs.{put-one}
use Rattle.fdp_keeper.proofs.page_set.+put_old.Goals as goal

pub returns-in-Some : goal.returns-in-Some
returns-in-Some t c unit next pages order has =
    let copy = c.in-Some.copy.now in
    let rest = c.in-Some.rest.now in
    let all : OldInOrder unit next (copy ∷ rest) = subst (OldInOrder unit next) c.in-Some.ensures.cases.0 order in
    put-one c.put_old.new.set pages (λ (x : Copied). x.from.page) copy rest c.args.copies.now c.in-Some.ensures.cases.0
    (c.put_old.ensures unit (copy.from.page + 1) (pages ++ copy.from.page ∷ []) all.2 (c.put.ensures pages next has all.1))
