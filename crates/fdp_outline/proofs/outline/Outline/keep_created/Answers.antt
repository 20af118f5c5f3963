use Rattle.std.proofs.Common.{◌∙◌, ℕ, List, Some, ap, subst, sym}
use Rattle.std.specs.Prelude.{◌==◌, if◌then◌else◌}
use Rattle.fdp_image.specs.Checkpoint.{in_place}
use Rattle.fdp_outline.specs.Outline.{IsOutlineOf}
use Rattle.fdp_snapshot.specs.declared.state.Summary.{Summary}
use Rattle.fdp_outline.proofs.Applying.{outline-created}
use Rattle.fdp_outline.proofs.outline.Outline.keep_created.Goals as goal

pub returns : goal.returns
returns c = λ config r totals at h.
    outline-created config r c.self.inside.summary totals c.put.new.spaces c.args.position c.args.nsid c.args.size c.args.given c.args.handles.now c.self.invariant.summary (λ n. c.put.ensures.spaces n ∙ ap (λ (xs : List ℕ). if n == c.args.nsid then Some (record { size = c.args.size; birth = c.args.position; given = c.args.given; handles = xs }) else in_place c.self.inside.summary.spaces n) c.of_slice.ensures) at
    (subst (λ (x : Summary). IsOutlineOf config r x) (sym c.self.view_is) h)
