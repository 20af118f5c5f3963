use Rattle.fdp_units.proofs.Tables.{fresh-unit, fresh-unused}
use Rattle.fdp_units.proofs.units.Units.new.Goals as goal

pub returns-clause-units : goal.returns-clause-units
returns-clause-units c = fresh-unit c.args.geometry.unit_pages c.args.geometry.units c.args.geometry.groups c.in_ok-groups.groups.items c.in_ok-groups.ensures

pub returns-clause-unused : goal.returns-clause-unused
returns-clause-unused c = fresh-unused c.args.geometry.unit_pages c.args.geometry.units c.args.geometry.groups c.in_ok-groups.groups.items c.in_ok-groups.ensures
