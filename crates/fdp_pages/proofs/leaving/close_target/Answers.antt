use Rattle.std.proofs.Common.{◌∙◌, ap, sym}
use Rattle.fdp_collector.proofs.Kept.{changed-here}
use Rattle.fdp_pages.proofs.Places.{one}
use Rattle.fdp_pages.proofs.Untargeted.{closes-one}
use Rattle.fdp_units.specs.declared.data_unit.DataUnit.{DataUnit}
use Rattle.fdp_units.specs.UnitTable.{state_at}
use Rattle.fdp_pages.proofs.leaving.close_target.Goals as goal

pub close_open-requires-clause-unit : goal.close_open-requires-clause-unit
close_open-requires-clause-unit c = (c.requires.target c.in-Some.unit (sym c.target.ensures ∙ c.in-Some.is)).0

pub returns-in-Some-clause-units : goal.returns-in-Some-clause-units
returns-in-Some-clause-units c = closes-one c.args.passes.now c.args.lane c.args.units.now c.close_open.new.units c.in-Some.unit (sym c.target.ensures ∙ c.in-Some.is) c.close_open.ensures.unit

pub returns-in-Some-clause-closed : goal.returns-in-Some-clause-closed
returns-in-Some-clause-closed c = λ u target.
    ap (state_at c.close_open.new.units) (one (sym target ∙ sym c.target.ensures ∙ c.in-Some.is)) ∙ ap (λ (x : DataUnit). x.state) (changed-here c.args.units.now c.close_open.new.units c.in-Some.unit _ c.close_open.ensures.unit)
