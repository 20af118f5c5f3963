use Rattle.std.proofs.Common.{ap, ◌∙◌}
use Rattle.fdp_units.specs.declared.data_unit.DataUnit.{DataUnit}
use Rattle.fdp_passes.proofs.Opened.{opened-unit, page-left}
use Rattle.fdp_passes.proofs.target.open_page.Goals as goal

pub returns : goal.returns
returns c = record {
  target = c.open_target-unit.ensures.opened;
  stands = c.open_target-unit.ensures.now;
  page = ap (λ (x : DataUnit). x.next) c.get.ensures.value;
  within = page-left c.open_target-unit.new.units.unit_pages c.get.result c.get.ensures.sound
      (ap (λ (x : DataUnit). x.state) c.get.ensures.value ∙ opened-unit c.args.passes.now c.open_target-unit.new.passes c.args.units.now c.open_target-unit.new.units c.args.rg c.args.victim c.args.lane c.open_target-unit.result c.requires.target c.open_target-unit.ensures.opened);
}
