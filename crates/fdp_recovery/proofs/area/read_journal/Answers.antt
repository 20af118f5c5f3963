use Rattle.std.proofs.Common.{◌≡◌, ◌∙◌, ◌+◌, ℕ, suc, Err, Ok, ap, refl, sym, subst, inl, inr}
use Rattle.fdp_base.specs.declared.config.DriveConfig.{DriveConfig}
use Rattle.fdp_base.specs.declared.config.Geometry.{Geometry}
use Rattle.fdp_flash.specs.Layout.{first_page}
use Rattle.fdp_image.specs.Areas.{area_unit, record_page}
use Rattle.fdp_state.specs.fdp_replay.declared.replayed.ReplayFault.{ReplayFault}
use Rattle.fdp_state.specs.fdp_replay.Replay.{TellsJournal}
use Rattle.fdp_image.specs.Fits.{fits}
use Rattle.fdp_state.specs.Loaded.{IsDriveState, said_by}
use Rattle.fdp_state.proofs.Loadable.{loadable}
use Rattle.fdp_recovery.specs.declared.opened.OpenFault.{OpenFault}
use Rattle.fdp_recovery.specs.declared.opened.OpenFault.TheVariants as faults
use Rattle.fdp_recovery.specs.Reading.{TellsArea}
use Rattle.fdp_recovery.proofs.Passing.{current_seal}
use Rattle.fdp_recovery.proofs.Replayed.{bad_journal, whole_journal}
use Rattle.fdp_recovery.proofs.area.read_journal.Goals as goal

pub returns-in-Ok-replay-clause-told : goal.returns-in-Ok-replay-clause-told
returns-in-Ok-replay-clause-told g c told z current =
    let s = g.F.Flash.state c.args.flash.now in
    let config = c.args.config.now in
    let h = subst (λ (k : DriveConfig). TellsJournal fits k z.journal (said_by c.in-Ok.loaded) (said_by c.replay.new.state) (Ok c.in-Ok-replay.field-0)) c.in-Ok.ensures.config (c.in-Ok-replay.ensures.told told z current) in
    whole_journal config s.geometry z c.args.state c.into_state.result c.in-Ok-replay.field-0 (said_by c.in-Ok.loaded) (said_by c.replay.new.state)
    (c.requires.says told z current) c.in-Ok.ensures.said c.into_state.ensures.said h.0 h.1

pub returns-in-Err-Bad-clause-told : goal.returns-in-Err-Bad-clause-told
returns-in-Err-Bad-clause-told g c told z current =
    let s = g.F.Flash.state c.args.flash.now in
    let config = c.args.config.now in
    let x = c.args.current.now in
    let number = c.in-Err-Bad.number in
    let cut = c.geometry-geometry.result in
    let first = subst (λ (k : DriveConfig). TellsJournal fits k z.journal (said_by c.in-Ok.loaded) (said_by c.replay.new.state) (Err c.in-Err-Bad.field-0)) c.in-Ok.ensures.config (c.in-Err-Bad.ensures.told told z current) in
    let h = subst (λ (f : ReplayFault). TellsJournal fits config z.journal (said_by c.in-Ok.loaded) (said_by c.replay.new.state) (Err f)) c.in-Err-Bad.field-0-is first in
    let answer : c.bad_record.result ≡ faults.BadImage (first_page s.geometry (area_unit s.geometry x.area) + record_page x.seal.checkpoint x.seal.before number) =
    c.bad_record.ensures ∙ ap (λ (n : ℕ). faults.BadImage (first_page cut (area_unit cut x.area) + record_page x.seal.checkpoint x.seal.before n)) c.in-Err-Bad.number-is
    ∙ ap (λ (y : Geometry). faults.BadImage (first_page y (area_unit y x.area) + record_page x.seal.checkpoint x.seal.before number)) c.geometry-geometry.ensures.value in
    subst (λ (f : OpenFault). TellsArea config s.geometry x.area z (Err f)) (sym answer)
    (bad_journal config s.geometry x.area z c.args.state number x.seal.checkpoint x.seal.before _ (said_by c.in-Ok.loaded) (said_by c.replay.new.state) c.requires.ready.cut (c.requires.says told z current) c.in-Ok.ensures.said
    (current_seal s.geometry s.cells x z (c.requires.current told) current).checkpoint (current_seal s.geometry s.cells x z (c.requires.current told) current).before h.1 (inl h.0) refl)

pub returns-in-Err-Unfit-clause-told : goal.returns-in-Err-Unfit-clause-told
returns-in-Err-Unfit-clause-told g c told z current =
    let s = g.F.Flash.state c.args.flash.now in
    let config = c.args.config.now in
    let x = c.args.current.now in
    let number = c.in-Err-Unfit.number in
    let cut = c.geometry-geometry.result in
    let first = subst (λ (k : DriveConfig). TellsJournal fits k z.journal (said_by c.in-Ok.loaded) (said_by c.replay.new.state) (Err c.in-Err-Unfit.field-0)) c.in-Ok.ensures.config (c.in-Err-Unfit.ensures.told told z current) in
    let h = subst (λ (f : ReplayFault). TellsJournal fits config z.journal (said_by c.in-Ok.loaded) (said_by c.replay.new.state) (Err f)) c.in-Err-Unfit.field-0-is first in
    let answer : c.bad_record-in-Err-Unfit.result ≡ faults.BadImage (first_page s.geometry (area_unit s.geometry x.area) + record_page x.seal.checkpoint x.seal.before number) =
    c.bad_record-in-Err-Unfit.ensures ∙ ap (λ (n : ℕ). faults.BadImage (first_page cut (area_unit cut x.area) + record_page x.seal.checkpoint x.seal.before n)) c.in-Err-Unfit.number-is
    ∙ ap (λ (y : Geometry). faults.BadImage (first_page y (area_unit y x.area) + record_page x.seal.checkpoint x.seal.before number)) c.geometry-geometry.ensures.value in
    subst (λ (f : OpenFault). TellsArea config s.geometry x.area z (Err f)) (sym answer)
    (bad_journal config s.geometry x.area z c.args.state number x.seal.checkpoint x.seal.before _ (said_by c.in-Ok.loaded) (said_by c.replay.new.state) c.requires.ready.cut (c.requires.says told z current) c.in-Ok.ensures.said
    (current_seal s.geometry s.cells x z (c.requires.current told) current).checkpoint (current_seal s.geometry s.cells x z (c.requires.current told) current).before h.1 (inr h.0) refl)

pub returns-in-Ok-replay-clause-ready : goal.returns-in-Ok-replay-clause-ready
returns-in-Ok-replay-clause-ready g c =
    let config = c.in-Ok-replay.ensures.config ∙ c.in-Ok.ensures.config in
    let state = subst (λ (k : DriveConfig). IsDriveState k c.into_state.result) config c.into_state.ensures.state in
    record { cut = c.requires.ready.cut; state = state; loadable = loadable c.into_state.result state.writable }
