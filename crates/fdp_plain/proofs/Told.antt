-- What is told of the tables of a plain drive is told of what stands after its entries.
use Rattle.std.proofs.Common.{◌≡◌, refl, subst}
use Rattle.fdp_base.specs.declared.config.DriveConfig.{DriveConfig}
use Rattle.fdp_rules.specs.History.{point_of, totals_of}
use Rattle.fdp_rules.specs.Point.{Point}
use Rattle.fdp_tables.specs.declared.state.Kept.{Kept}
use Rattle.fdp_tables.specs.State.{point_kept}
use Rattle.fdp_plain.specs.Run.{Run, found_of, point_in}
use Rattle.fdp_plain.specs.Telling.{TellsHistory, run_of}

-- what holds of these tables holds after the entries of the run that they are seen as
pub told_after : (Q : DriveConfig → Point → Type 0) (k m : Kept) (r : Run) → TellsHistory k → m ≡ k → run_of k ≡ r → Q m.config (point_kept m) → Q r.config (point_in r)
told_after Q k m r h same view q =
    subst (λ (run : Run). Q run.config (point_in run)) view (subst (Q k.config) h.point (subst (λ (x : Kept). Q x.config (point_kept x)) same q))

-- the sums of a run
pub totals_after : (r : Run) → (point_in r).totals ≡ totals_of (found_of r) r.entries
unfolding point_of
totals_after r = refl
