use Rattle.std.proofs.Common.{◌≡◌, ℕ, ◌<◌, ◌≤◌, ap, arith, subst, sym, ⊎_elim}
use mathlib.Core.Bool.{true≢false}
use Rattle.std.proofs.Math.Nat.{eq-or-lt_of_le}
use Rattle.std.proofs.lemmas.Bool.Decides.{not_from_Decides}
use Rattle.fdp_base.specs.declared.config.DriveConfig.{DriveConfig}
use Rattle.fdp_plain_judge.specs.Judging.{IsNextIn}
use Rattle.fdp_plain_judge.proofs.pages.is_next_of_a_write.Goals as goal

pub loop-queue-preserved : goal.loop-queue-preserved
loop-queue-preserved c =
    let P : ℕ → Type 0 = IsNextIn c.args.kept.now c.args.ticket c.args.index c.args.at in
    let fails : P c.loop-queue.queue → ⊥ = not_from_Decides c.is_next_in.result c.is_next_in.ensures c.if-is_next_in.false in
    λ q low high p.
    let at_most : q ≤ c.loop-queue.queue = omega arith in
    ⊎_elim
    (λ (is : q ≡ c.loop-queue.queue). fails (subst P is p))
    (λ (lt : q < c.loop-queue.queue). c.loop-queue.invariant q low lt p)
    (eq-or-lt_of_le at_most)

pub returns : goal.returns
returns c = (λ e. absurd (true≢false (sym e)), λ x. absurd (c.loop-queue.invariant x.0 x.1.0 (omega (arith, x.1.1, ap (λ (d : DriveConfig). d.queues) c.config.ensures.value)) x.2))
