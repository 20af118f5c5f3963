use Rattle.std.proofs.Common.{◌∙◌, None, ap, sym}
use Rattle.fdp_base.specs.declared.config.Geometry.{Geometry}
use Rattle.fdp_recovery.specs.Keys.{other_key}
use Rattle.fdp_recovery.proofs.Passing.{no_area_keys}
use Rattle.fdp_recovery.proofs.SameKeys.{same_flash}
use Rattle.fdp_recovery.proofs.opening.open_unsealed.Goals as goal

pub returns-in-Some-clause-told : goal.returns-in-Some-clause-told
returns-in-Some-clause-told g c told =
    let s = g.F.Flash.state c.args.flash.now in
    ap (other_key c.args.config.now s.geometry) (no_area_keys s.geometry s.cells (c.requires.unsealed told))
    ∙ ap (λ (x : Geometry). other_key c.args.config.now x None) (sym c.geometry.ensures.value) ∙ sym c.in-Some.ensures

pub returns-in-Ok-None-clause-cut : goal.returns-in-Ok-None-clause-cut
returns-in-Ok-None-clause-cut g c = sym c.geometry.ensures.value ∙ same_flash c.args.config.now c.geometry.result (sym c.in-None.ensures)
