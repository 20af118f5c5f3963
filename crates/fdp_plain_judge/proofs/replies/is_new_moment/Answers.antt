use Rattle.std.proofs.Common.{ℕ, List, arith, refl, reverse, subst, sym}
use Rattle.std.specs.List.{Contains}
use mathlib.Core.Bool.{true≢false}
use Rattle.fdp_plain_judge.proofs.Moments.{is_known, is_new}
use Rattle.fdp_plain_judge.proofs.replies.is_new_moment.Goals as goal

pub returns-then-earlier-moment : goal.returns-then-earlier-moment
returns-then-earlier-moment c =
    let P : List ℕ → Type 0 = λ xs. Contains (reverse xs) c.args.moment in
    let known : P c.args.kept.now.media.items = subst P c.media-earlier-items.ensures (is_known c.media-earlier-items.result.now c.args.moment c.loop-earlier.earlier-index (omega arith) c.if-earlier-moment.true) in
    (λ e. absurd (true≢false (sym e)), λ new. absurd (new known))

pub returns : goal.returns
returns c =
    let P : List ℕ → Type 0 = λ xs. Contains (reverse xs) c.args.moment → ⊥ in
    let new : P c.args.kept.now.media.items = subst P c.media-earlier-items.ensures (is_new c.media-earlier-items.result.now c.args.moment c.loop-earlier.earlier-index (omega arith) c.loop-earlier.invariant) in
    (λ _. new, λ _. refl)
