use Rattle.std.proofs.Common.{◌≡◌, ◌*◌}
use Rattle.fdp_flash.specs.OnlyReads.{ReadsOnly}
use Rattle.fdp_opening.specs.Walking.{AreUnitsFoundTo}
use Rattle.fdp_opening.proofs.units.find_units.Given as goal

abbrev pub invariant-loop-unit : goal.invariant-loop-unit
invariant-loop-unit g l = record {
  looks : ReadsOnly (l.unit * l.config.unit_pages) (g.F.Flash.state l.initial.flash) (g.F.Flash.state l.flash);
  faultless : (g.F.Flash.state l.flash).faults ≡ (g.F.Flash.state l.initial.flash).faults;
  found : AreUnitsFoundTo l.config (g.F.Flash.state l.flash) l.unit l.initial.pages l.pages;
}
