use Rattle.std.proofs.Common.{◌≡◌, ◌+◌, ◌-◌, ◌*◌, ◌≤◌, ◌∙◌, ℕ, ap, subst, refl, arith}
use Rattle.fdp_flash.specs.Answers.{Erases}
use Rattle.fdp_image.specs.Areas.{area_unit}
use Rattle.fdp_records.specs.declared.spare.SystemKind.TheVariants as kinds
use Rattle.fdp_checkpoint.proofs.Sliced.{ErasesIn, IsErasingUnit, page_calls, page_done, page_held, part_no_seal, unit_calls, unit_done, unit_fails, unit_faultless, unit_held}
use Rattle.fdp_checkpoint.proofs.Steps.{IsProgramming, program_faultless, program_fails, program_uncounted}
use Rattle.fdp_checkpoint.proofs.slicing.make_call.Goals as goal

pub returns-then-number-geometry-clause-held : goal.returns-then-number-geometry-clause-held
returns-then-number-geometry-clause-held g c =
    let x = c.args.target.now in
    let n = c.args.number in
    let unit : c.data_units.result + c.from.result * x.geometry.area_units + n ≡ area_unit x.geometry x.area + n =
    ap (λ (m : ℕ). m + n) (ap (λ (m : ℕ). m + c.from.result * x.geometry.area_units) c.data_units.ensures ∙ ap (λ (m : ℕ). x.geometry.groups * x.geometry.units + m * x.geometry.area_units) c.from.ensures) in
    let made : ErasesIn x n (g.F.Flash.state c.args.flash.now) (g.F.Flash.state c.erase.new.self) c.erase.result =
    (c.erase.ensures.call, subst (λ (m : ℕ). Erases (g.F.Flash.state c.args.flash.now) (g.F.Flash.state c.erase.new.self) m c.erase.result) unit c.erase.ensures.answer) in
    let at : IsErasingUnit x n (g.F.Flash.state c.args.flash.now) = record { geometry = c.requires.geometry; valid = c.requires.valid; area = c.requires.area; inside = c.if-number-geometry.true; well_formed = g.met.F.Flash.well_formed c.args.flash.now } in
    unit_held x n _ _ _ at made

pub returns-then-number-geometry-clause-done : goal.returns-then-number-geometry-clause-done
returns-then-number-geometry-clause-done g c told is =
    let x = c.args.target.now in
    let n = c.args.number in
    let unit : c.data_units.result + c.from.result * x.geometry.area_units + n ≡ area_unit x.geometry x.area + n =
    ap (λ (m : ℕ). m + n) (ap (λ (m : ℕ). m + c.from.result * x.geometry.area_units) c.data_units.ensures ∙ ap (λ (m : ℕ). x.geometry.groups * x.geometry.units + m * x.geometry.area_units) c.from.ensures) in
    let made : ErasesIn x n (g.F.Flash.state c.args.flash.now) (g.F.Flash.state c.erase.new.self) c.erase.result =
    (c.erase.ensures.call, subst (λ (m : ℕ). Erases (g.F.Flash.state c.args.flash.now) (g.F.Flash.state c.erase.new.self) m c.erase.result) unit c.erase.ensures.answer) in
    let at : IsErasingUnit x n (g.F.Flash.state c.args.flash.now) = record { geometry = c.requires.geometry; valid = c.requires.valid; area = c.requires.area; inside = c.if-number-geometry.true; well_formed = g.met.F.Flash.well_formed c.args.flash.now } in
    unit_done x n c.args.frozen.now _ _ _ at (g.met.F.Flash.well_formed c.erase.new.self) made told is (c.requires.begun told)

pub returns-then-number-geometry-clause-faultless : goal.returns-then-number-geometry-clause-faultless
returns-then-number-geometry-clause-faultless g c is =
    let x = c.args.target.now in
    let n = c.args.number in
    let unit : c.data_units.result + c.from.result * x.geometry.area_units + n ≡ area_unit x.geometry x.area + n =
    ap (λ (m : ℕ). m + n) (ap (λ (m : ℕ). m + c.from.result * x.geometry.area_units) c.data_units.ensures ∙ ap (λ (m : ℕ). x.geometry.groups * x.geometry.units + m * x.geometry.area_units) c.from.ensures) in
    let made : ErasesIn x n (g.F.Flash.state c.args.flash.now) (g.F.Flash.state c.erase.new.self) c.erase.result =
    (c.erase.ensures.call, subst (λ (m : ℕ). Erases (g.F.Flash.state c.args.flash.now) (g.F.Flash.state c.erase.new.self) m c.erase.result) unit c.erase.ensures.answer) in
    unit_faultless x n _ _ _ made is

pub returns-then-number-geometry-clause-calls : goal.returns-then-number-geometry-clause-calls
returns-then-number-geometry-clause-calls g c =
    let x = c.args.target.now in
    let n = c.args.number in
    let unit : c.data_units.result + c.from.result * x.geometry.area_units + n ≡ area_unit x.geometry x.area + n =
    ap (λ (m : ℕ). m + n) (ap (λ (m : ℕ). m + c.from.result * x.geometry.area_units) c.data_units.ensures ∙ ap (λ (m : ℕ). x.geometry.groups * x.geometry.units + m * x.geometry.area_units) c.from.ensures) in
    let made : ErasesIn x n (g.F.Flash.state c.args.flash.now) (g.F.Flash.state c.erase.new.self) c.erase.result =
    (c.erase.ensures.call, subst (λ (m : ℕ). Erases (g.F.Flash.state c.args.flash.now) (g.F.Flash.state c.erase.new.self) m c.erase.result) unit c.erase.ensures.answer) in
    let at : IsErasingUnit x n (g.F.Flash.state c.args.flash.now) = record { geometry = c.requires.geometry; valid = c.requires.valid; area = c.requires.area; inside = c.if-number-geometry.true; well_formed = g.met.F.Flash.well_formed c.args.flash.now } in
    unit_calls x n _ _ _ at made

pub returns-then-number-geometry-clause-failed : goal.returns-then-number-geometry-clause-failed
returns-then-number-geometry-clause-failed g c is =
    let x = c.args.target.now in
    let n = c.args.number in
    let unit : c.data_units.result + c.from.result * x.geometry.area_units + n ≡ area_unit x.geometry x.area + n =
    ap (λ (m : ℕ). m + n) (ap (λ (m : ℕ). m + c.from.result * x.geometry.area_units) c.data_units.ensures ∙ ap (λ (m : ℕ). x.geometry.groups * x.geometry.units + m * x.geometry.area_units) c.from.ensures) in
    let made : ErasesIn x n (g.F.Flash.state c.args.flash.now) (g.F.Flash.state c.erase.new.self) c.erase.result =
    (c.erase.ensures.call, subst (λ (m : ℕ). Erases (g.F.Flash.state c.args.flash.now) (g.F.Flash.state c.erase.new.self) m c.erase.result) unit c.erase.ensures.answer) in
    unit_fails x n _ _ _ (g.met.F.Flash.well_formed c.erase.new.self) made is

pub returns-else-number-geometry-clause-held : goal.returns-else-number-geometry-clause-held
returns-else-number-geometry-clause-held g c =
    let x = c.args.target.now in
    let n = c.args.number in
    let place = n - x.geometry.area_units in
    let least : x.geometry.area_units ≤ n = omega (arith, c.if-number-geometry.false) in
    let at : IsProgramming x place (g.F.Flash.state c.args.flash.now) = record { geometry = c.requires.geometry; area = c.requires.area; inside = omega (arith, c.requires.inside, least); well_formed = g.met.F.Flash.well_formed c.args.flash.now } in
    page_held x place _ _ _ _ at (λ told. part_no_seal x c.args.frozen.now n _ least (c.requires.begun told)) c.program_frozen.ensures

pub returns-else-number-geometry-clause-done : goal.returns-else-number-geometry-clause-done
returns-else-number-geometry-clause-done g c told is =
    let x = c.args.target.now in
    let n = c.args.number in
    let place = n - x.geometry.area_units in
    let least : x.geometry.area_units ≤ n = omega (arith, c.if-number-geometry.false) in
    let at : IsProgramming x place (g.F.Flash.state c.args.flash.now) = record { geometry = c.requires.geometry; area = c.requires.area; inside = omega (arith, c.requires.inside, least); well_formed = g.met.F.Flash.well_formed c.args.flash.now } in
    page_done x n place c.args.frozen.now _ _ _ least refl at c.program_frozen.ensures told is (c.requires.begun told)

pub returns-else-number-geometry-clause-faultless : goal.returns-else-number-geometry-clause-faultless
returns-else-number-geometry-clause-faultless g c is =
    let x = c.args.target.now in
    let n = c.args.number in
    let place = n - x.geometry.area_units in
    let least : x.geometry.area_units ≤ n = omega (arith, c.if-number-geometry.false) in
    program_faultless x kinds.Checkpoint place place _ _ _ _ c.program_frozen.ensures is

pub returns-else-number-geometry-clause-programs : goal.returns-else-number-geometry-clause-programs
returns-else-number-geometry-clause-programs g c =
    let x = c.args.target.now in
    let n = c.args.number in
    let place = n - x.geometry.area_units in
    let least : x.geometry.area_units ≤ n = omega (arith, c.if-number-geometry.false) in
    program_uncounted x kinds.Checkpoint place place _ _ _ _ c.requires.geometry c.program_frozen.ensures

pub returns-else-number-geometry-clause-calls : goal.returns-else-number-geometry-clause-calls
returns-else-number-geometry-clause-calls g c =
    let x = c.args.target.now in
    let n = c.args.number in
    let place = n - x.geometry.area_units in
    let least : x.geometry.area_units ≤ n = omega (arith, c.if-number-geometry.false) in
    page_calls x n place _ _ _ _ least refl (g.met.F.Flash.well_formed c.args.flash.now) c.program_frozen.ensures

pub returns-else-number-geometry-clause-failed : goal.returns-else-number-geometry-clause-failed
returns-else-number-geometry-clause-failed g c is =
    let x = c.args.target.now in
    let n = c.args.number in
    let place = n - x.geometry.area_units in
    let least : x.geometry.area_units ≤ n = omega (arith, c.if-number-geometry.false) in
    program_fails x kinds.Checkpoint place place _ _ _ _ (g.met.F.Flash.well_formed c.program_frozen.new.flash) c.program_frozen.ensures is
