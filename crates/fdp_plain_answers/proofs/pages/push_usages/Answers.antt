use Rattle.std.proofs.Common.{ℕ, ◌+◌, List, ◌∷◌, ◌++◌, ◌∙◌, ap, arith, subst, sym}
use Rattle.fdp_rules.specs.LogPages.{usage_of, zeros}
use Rattle.fdp_tables.specs.State.{plain_of}
use Rattle.fdp_plain_answers.proofs.Appending.{IsAppending, appending_end, appending_next}
use Rattle.fdp_plain_answers.proofs.pages.push_usages.Goals as goal

pub loop-ruh-preserved : goal.loop-ruh-preserved
loop-ruh-preserved c =
    let piece : ℕ → List ℕ = λ ruh. usage_of (plain_of c.args.kept.now) ruh ∷ zeros 7 in
    let start = c.args.log.now.items in
    let out = c.loop-ruh.log.items in
    let next = appending_next piece c.args.handles c.loop-ruh.ruh start out (omega arith) c.loop-ruh.invariant in
    subst (λ (x : List ℕ). IsAppending piece c.args.handles (c.loop-ruh.ruh + 1) start x)
    (sym (c.in_ok-extend_from_slice.ensures.items ∙ ap (λ (x : List ℕ). out ++ x) (c.usage_frame.ensures ∙ ap (λ (u : ℕ). u ∷ zeros 7) c.usage_of.ensures))) next

pub returns : goal.returns
returns c =
    let piece : ℕ → List ℕ = λ ruh. usage_of (plain_of c.args.kept.now) ruh ∷ zeros 7 in
    appending_end piece c.args.handles c.loop-ruh.ruh c.args.log.now.items c.loop-ruh.log.items (omega arith) c.loop-ruh.invariant
