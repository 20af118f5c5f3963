use Rattle.std.proofs.Common.{◌≡◌, ◌≤◌, ◌∙◌, ◌+◌, ◌*◌, arith, ap, not}
use Rattle.std.proofs.Math.Nat.{mul-le-mul_right}
use Rattle.fdp_base.specs.declared.config.Geometry.{Geometry}
use Rattle.fdp_base.specs.Geometry.{data_units}
use Rattle.fdp_base.specs.Placement.{geometry_of}
use Rattle.fdp_flash.proofs.OnlyReads.{reads_fewer, reads_joined}
use Rattle.fdp_image.specs.Roomy.{is_blank_unit}
use Rattle.fdp_opening.proofs.Scanned.{unit-noted}
use Rattle.fdp_rules.specs.Step.{IsDataUnit}
use Rattle.fdp_units.specs.UnitTable.{Cut}
use Rattle.fdp_opening.proofs.units.find_units.Goals as goal

pub returns-in-Err-clause-looks : goal.returns-in-Err-clause-looks
returns-in-Err-clause-looks g c =
    let up : c.geometry-geometry.result.unit_pages ≡ c.args.config.now.unit_pages = ap (λ (x : Geometry). x.unit_pages) c.geometry-geometry.ensures.value in
    let units : data_units c.geometry-geometry.result ≡ data_units (geometry_of c.args.config.now) = ap data_units c.geometry-geometry.ensures.value in
    let next : (c.loop-unit.unit + 1) * c.args.config.now.unit_pages ≤ data_units (geometry_of c.args.config.now) * c.args.config.now.unit_pages = mul-le-mul_right c.args.config.now.unit_pages (omega (arith, c.loop-unit-test.true, c.data_units-unit-end.ensures, units)) in
    let product : (c.loop-unit.unit + 1) * c.args.config.now.unit_pages ≡ c.loop-unit.unit * c.args.config.now.unit_pages + c.args.config.now.unit_pages = omega arith in
    reads_fewer _ _ _ _ (omega (arith, up, next, product)) (reads_joined _ _ _ _ _ c.loop-unit.invariant.looks c.in-Err.ensures.looks)

pub loop-unit-preserved : goal.loop-unit-preserved
loop-unit-preserved g c =
    let config = c.args.config.now in
    let up : c.geometry-geometry.result.unit_pages ≡ config.unit_pages = ap (λ (x : Geometry). x.unit_pages) c.geometry-geometry.ensures.value in
    let units : data_units c.geometry-geometry.result ≡ data_units (geometry_of config) = ap data_units c.geometry-geometry.ensures.value in
    let there : IsDataUnit config c.loop-unit.unit = omega (arith, c.loop-unit-test.true, c.data_units-unit-end.ensures, units) in
    let product : (c.loop-unit.unit + 1) * config.unit_pages ≡ c.loop-unit.unit * config.unit_pages + config.unit_pages = omega arith in
    let cut = c.loop-unit.invariant.found.rest.cut ∙ c.requires.unseen.cut in
    record {
      looks = reads_fewer _ _ _ _ (omega (arith, up, product)) (reads_joined _ _ _ _ _ c.loop-unit.invariant.looks c.in-Ok.ensures.looks);
      faultless = c.in-Ok.ensures.ends ∙ c.loop-unit.invariant.faultless;
      found = unit-noted config c.geometry-geometry.result.unit_pages c.loop-unit.unit c.in-Ok.used _ _ c.args.pages.now c.loop-unit.pages c.note.new.pages there c.in-Ok.ensures.looks
          (λ told. c.in-Ok.ensures.told told ∙ ap (λ (x : Geometry). not (is_blank_unit x (g.F.Flash.state c.loop-unit.flash).cells c.loop-unit.unit)) c.geometry-geometry.ensures.value)
          (ap (λ (x : Cut). x.unit_pages) cut) c.note.ensures.used c.note.ensures.unused c.loop-unit.invariant.found;
    }
