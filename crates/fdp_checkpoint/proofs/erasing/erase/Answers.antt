use Rattle.std.proofs.Common.{◌∙◌, ◌+◌, ◌*◌, subst, ap, ℕ}
use Rattle.fdp_flash.specs.Planned.{MakesPlanned, calls_from, erase_of}
use Rattle.fdp_checkpoint.proofs.Steps.{erase_blank, erase_held}
use Rattle.fdp_checkpoint.proofs.erasing.erase.Goals as goal

pub returns-clause-held : goal.returns-clause-held
returns-clause-held g c =
    let x = c.args.target.now in
    erase_held x.geometry _ x.area _ _ c.requires.geometry (ap (λ (n : ℕ). n + c.from.result * x.geometry.area_units) c.data_units.ensures ∙ ap (λ (n : ℕ). x.geometry.groups * x.geometry.units + n * x.geometry.area_units) c.from.ensures) c.requires.area
    (g.met.F.Flash.well_formed c.args.flash.now) c.erase_area.ensures.held

pub returns-clause-done : goal.returns-clause-done
returns-clause-done g c told is =
    let x = c.args.target.now in
    erase_blank x.geometry _ x.area (g.F.Flash.state c.args.flash.now) (g.F.Flash.state c.erase_area.new.flash) c.requires.geometry (ap (λ (n : ℕ). n + c.from.result * x.geometry.area_units) c.data_units.ensures ∙ ap (λ (n : ℕ). x.geometry.groups * x.geometry.units + n * x.geometry.area_units) c.from.ensures) c.requires.area c.requires.valid
    c.erase_area.ensures.held.run.geometry c.erase_area.ensures.held.run.told (g.met.F.Flash.well_formed c.erase_area.new.flash) told (c.erase_area.ensures.done told is)

pub returns-clause-calls : goal.returns-clause-calls
returns-clause-calls g c =
    let x = c.args.target.now in
    subst (λ (n : ℕ). MakesPlanned (g.F.Flash.state c.args.flash.now) (g.F.Flash.state c.erase_area.new.flash) (calls_from erase_of n x.geometry.area_units) c.erase_area.result)
    (ap (λ (n : ℕ). n + c.from.result * x.geometry.area_units) c.data_units.ensures ∙ ap (λ (n : ℕ). x.geometry.groups * x.geometry.units + n * x.geometry.area_units) c.from.ensures) c.erase_area.ensures.calls
