use Rattle.std.proofs.Common.{◌≡◌, ◌+◌, ◌∙◌, ap, sym}
use Rattle.fdp_base.specs.declared.entry.Totals.{Totals}
use Rattle.fdp_rules.specs.History.{totals_of}
use Rattle.fdp_rules.specs.Point.{Point}
use Rattle.fdp_tables.specs.State.{point_kept}
use Rattle.fdp_plain.specs.Run.{point_in}
use Rattle.fdp_plain.proofs.Sound.{history_in_order}
use Rattle.fdp_plain.proofs.Told.{totals_after}
use Rattle.fdp_plain.proofs.plain.Plain.next_position.Goals as goal

pub returns : goal.returns
unfolding totals_of
returns c =
    let k = c.self.inside.kept in
    let same : point_kept k ≡ point_in c.args.self.now = c.self.invariant.point ∙ ap point_in c.self.view_is in
    c.next_position.ensures
    ∙ ap (λ n. n + 1) (sym (history_in_order k c.self.invariant).orderly.positions ∙ ap (λ (p : Point). p.totals.position) same ∙ ap (λ (t : Totals). t.position) (totals_after c.args.self.now))
