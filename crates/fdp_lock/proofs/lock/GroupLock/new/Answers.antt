use Rattle.std.proofs.Common.{List, [], ◌∷◌, ◌++◌, Option, Some, refl, sym, ◌∙◌, ap, subst}
use Rattle.atomic_table.specs.Table.{opening}
use Rattle.fdp_lock.specs.Rule.{Held, first_view}
use Rattle.fdp_lock.proofs.Closes.{opens}
use Rattle.fdp_lock.proofs.lock.GroupLock.new.Goals as goal

pub new-requires : goal.new-requires
new-requires g c =
    let V = g.V.Recorded in
    let X = g.row.V.Denot in
    let start : X = c.args.value in
    let R : X → List (Option X) → Type 0 = λ x xs. Held V.origin V.entries V.mark (V.origin x) c.args.seats (opening (0 ∷ []) xs (first_view (V.origin x) (V.entries x) c.args.seats)) in
    let made : R start (Some start ∷ []) = opens V.origin V.entries V.mark (V.origin start) c.args.seats start refl c.requires.some_seat c.requires.unmarked in
    subst (λ (x : X). R x c.push_reserved.new.self.items) (sym c.of.ensures) (subst (λ (xs : List (Option X)). R start xs) (sym (c.push_reserved.ensures.items ∙ ap (λ (xs : List (Option X)). xs ++ Some start ∷ []) c.in-Ok.ensures.items)) made)
