use Rattle.std.proofs.Common.{◌≡◌, ◌∙◌, ℕ, List, Option, ap, subst, sym}
use Rattle.fdp_base.specs.declared.config.DriveConfig.{DriveConfig}
use Rattle.fdp_snapshot.specs.declared.state.Summary.{Summary}
use Rattle.fdp_image.specs.Checkpoint.{reading_of_state}
use Rattle.fdp_outline.specs.Outline.{IsWritable}
use Rattle.fdp_state.specs.Loaded.{IsDriveState, Loaded, said_by}
use Rattle.fdp_state.proofs.Loading.{put-together, together}
use Rattle.fdp_state.proofs.loaded.LoadedState.into_state.Goals as goal

pub returns-clause-said : goal.returns-clause-said
returns-clause-said c =
    ap (λ (x : Summary). reading_of_state (record { summary = x; pages = c.from_vec.result })) c.into_summary.ensures.summary
    ∙ ap (λ (xs : List (List (Option ℕ))). reading_of_state (record { summary = c.self.inside.parts.outline; pages = xs })) c.from_vec.ensures
    ∙ ap said_by c.self.view_is

pub returns-clause-state : goal.returns-clause-state
returns-clause-state c =
    let same : record { summary = c.into_summary.result; pages = c.from_vec.result } ≡ together c.self.inside.parts =
    ap (λ (x : Summary). record { summary = x; pages = c.from_vec.result }) c.into_summary.ensures.summary
    ∙ ap (λ (xs : List (List (Option ℕ))). record { summary = c.self.inside.parts.outline; pages = xs }) c.from_vec.ensures in
    let writable = subst IsWritable c.into_summary.ensures.summary c.into_summary.ensures.writable in
    let state = put-together c.self.inside.config.now c.self.inside.parts c.self.invariant writable in
    subst (IsDriveState _) (sym same) (subst (λ (k : DriveConfig). IsDriveState k (together c.self.inside.parts)) (ap (λ (x : Loaded). x.config) c.self.view_is) state)
