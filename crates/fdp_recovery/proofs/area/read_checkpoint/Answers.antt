use Rattle.std.proofs.Common.{◌*◌, ◌≤◌, ℕ, Err, sym, subst}
use Rattle.std.specs.Prelude.{IfOk}
use Rattle.std.specs.List.{concat}
use Rattle.fdp_checkpoint.specs.fdp_areas.Seals.{LiesIn}
use Rattle.fdp_checkpoint.proofs.fdp_areas.Walking.{current_is_sealed}
use Rattle.fdp_base.specs.declared.config.Geometry.{Geometry}
use Rattle.fdp_checkpoint.specs.declared.fault.ContentFault.{ContentFault}
use Rattle.fdp_checkpoint.specs.Ends.{EndsContent}
use Rattle.fdp_checkpoint.specs.Pages.{IsBadIn, TellsContent}
use Rattle.fdp_image.specs.Replacing.{IsCheckpointOf}
use Rattle.fdp_image.proofs.NextRecord.{current_sealed}
use Rattle.fdp_snapshot.specs.declared.state.State.{State}
use Rattle.fdp_snapshot.specs.Checkpoint.{checkpoint_size}
use Rattle.fdp_recovery.specs.Reading.{TellsCheckpoint}
use Rattle.fdp_recovery.specs.Ready.{IsReady}
use Rattle.fdp_recovery.proofs.Ends.{ends_quiet}
use Rattle.fdp_recovery.proofs.area.read_checkpoint.Goals as goal

pub read_content-requires-clause-sealed : goal.read_content-requires-clause-sealed
read_content-requires-clause-sealed g c told = let s = g.F.Flash.state c.args.flash.now in current_is_sealed s.geometry s.cells c.args.current.now (c.requires.current told)

pub judge-requires-clause-inside : goal.judge-requires-clause-inside
judge-requires-clause-inside g c = subst (λ (x : Geometry). LiesIn x c.args.current.now) (sym c.geometry-geometry.ensures.value) c.requires.inside

pub judge-requires-clause-holds : goal.judge-requires-clause-holds
judge-requires-clause-holds g c =
    subst (λ (x : Geometry). checkpoint_size c.in-Ok.state.summary ≤ c.args.current.now.seal.checkpoint * x.block) (sym c.geometry-geometry.ensures.value) c.in-Ok.ensures.holds

pub returns-in-Ok-clause-told : goal.returns-in-Ok-clause-told
returns-in-Ok-clause-told g c told z current =
    let s = g.F.Flash.state c.args.flash.now in
    let x = c.args.current.now in
    let content = c.in-Ok.ensures.told told z (current_sealed s.geometry s.cells x.area z current) in
    subst (λ (y : Geometry). TellsCheckpoint c.args.config.now y x.area z c.judge.result) c.geometry-geometry.ensures.value
    (c.judge.ensures.told z (subst (λ (y : Geometry). IsCheckpointOf z.stamp.version y.block (concat z.checkpoint) c.in-Ok.state) (sym c.geometry-geometry.ensures.value) content))

pub returns-in-Ok-clause-ends : goal.returns-in-Ok-clause-ends
returns-in-Ok-clause-ends g c = ends_quiet _ _ c.judge.result c.judge.ensures.quiet c.in-Ok.ensures.ends

pub returns-in-Ok-clause-ready : goal.returns-in-Ok-clause-ready
returns-in-Ok-clause-ready g c = subst (λ (y : Geometry). IfOk c.judge.result (IsReady c.args.config.now y)) c.geometry-geometry.ensures.value c.judge.ensures.ready

pub returns-in-Err-Bad-clause-told : goal.returns-in-Err-Bad-clause-told
returns-in-Err-Bad-clause-told g c told z current =
    let s = g.F.Flash.state c.args.flash.now in
    let x = c.args.current.now in
    let first = c.in-Err-Bad.ensures.told told z (current_sealed s.geometry s.cells x.area z current) in
    let bad = subst (λ (f : ContentFault). TellsContent s.geometry x.area z (Err f)) c.in-Err-Bad.field-0-is first in
    let cut = c.geometry-geometry.result in
    let there = subst (λ (y : Geometry). IsBadIn y x.area z.stamp.version (concat z.checkpoint) c.in-Err-Bad.page) (sym c.geometry-geometry.ensures.value) bad in
    subst (λ (y : Geometry). TellsCheckpoint c.args.config.now y x.area z (Err c.bad_checkpoint.result)) c.geometry-geometry.ensures.value
    (c.bad_checkpoint.ensures.told x.area z (subst (λ (n : ℕ). IsBadIn cut x.area z.stamp.version (concat z.checkpoint) n) (sym c.in-Err-Bad.page-is) there))

pub returns-in-Err-Bad-clause-ends : goal.returns-in-Err-Bad-clause-ends
returns-in-Err-Bad-clause-ends g c =
    let s = g.F.Flash.state c.args.flash.now in
    let b = g.F.Flash.state c.read_content.new.flash in
    let same = subst (λ (f : ContentFault). EndsContent s b (Err f)) c.in-Err-Bad.field-0-is c.in-Err-Bad.ensures.ends in
    ends_quiet {X = State} s b (Err c.bad_checkpoint.result) c.bad_checkpoint.ensures.quiet same
