use Rattle.std.proofs.Common.{◌∙◌, ◌++◌, ap, refl, sym}
use mathlib.Core.List.{append-nil}
use Rattle.fdp_plain_judge.proofs.AtPage.{page_alone, page_empty}
use Rattle.fdp_plain_judge.proofs.passes.push_standing.Goals as goal

pub returns-in_ok-push-in-Some : goal.returns-in_ok-push-in-Some
returns-in_ok-push-in-Some c =
    c.in_ok-push-in-Some.ensures.items
    ∙ ap (λ xs. c.args.into.now.items ++ xs) (sym (page_alone c.args.kept.now c.args.spot c.args.standing.now c.requires c.in-Some.block c.in-Some.ensures (c.if-is_alone_at.ensures refl)))

pub returns-in-None : goal.returns-in-None
returns-in-None c =
    sym (ap (λ xs. c.args.into.now.items ++ xs) (page_empty c.args.kept.now c.args.spot c.args.standing.now c.requires c.in-None.ensures) ∙ append-nil c.args.into.now.items)
