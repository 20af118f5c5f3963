use Rattle.std.proofs.Common.{◌≡◌, ◌+◌, ◌*◌, List, Some, arith, refl}
use Rattle.std.specs.Prelude.{slice_get}
use Rattle.fdp_flash.specs.declared.cell.Cell.{Cell}
use Rattle.fdp_flash.specs.declared.cell.Cell.TheVariants.{Torn, Whole}
use Rattle.fdp_flash.proofs.OnlyReads.{before_reads}
use Rattle.fdp_opening.proofs.Scanned.{blank-unit, page-below, used-unit}
use Rattle.fdp_opening.proofs.units.is_used.Goals as goal

pub look_at_data-requires-clause-number : goal.look_at_data-requires-clause-number
look_at_data-requires-clause-number g c = page-below c.args.geometry.now c.args.unit c.loop-at.at c.requires.unit c.loop-at-test.true

pub returns-in-Whole-clause-told : goal.returns-in-Whole-clause-told
returns-in-Whole-clause-told g c told =
    let number = c.args.unit * c.args.geometry.now.unit_pages + c.loop-at.at in
    let at = before_reads _ _ _ (λ (cells : List Cell). slice_get cells number ≡ Some (Whole c.look_at_data.new.spare c.look_at_data.new.page)) c.loop-at.invariant.looks c.in-Whole.ensures.shown told in
    used-unit c.args.geometry.now _ c.args.unit c.loop-at.at _ c.loop-at-test.true at refl

pub returns-in-Torn-clause-told : goal.returns-in-Torn-clause-told
returns-in-Torn-clause-told g c told =
    let number = c.args.unit * c.args.geometry.now.unit_pages + c.loop-at.at in
    let at = before_reads _ _ _ (λ (cells : List Cell). slice_get cells number ≡ Some Torn) c.loop-at.invariant.looks c.in-Torn.ensures.shown told in
    used-unit c.args.geometry.now _ c.args.unit c.loop-at.at _ c.loop-at-test.true at refl

pub returns-clause-told : goal.returns-clause-told
returns-clause-told g c told = blank-unit c.args.geometry.now _ c.args.unit c.loop-at.at (omega (arith, c.loop-at-test.false)) (c.loop-at.invariant.blank told)
