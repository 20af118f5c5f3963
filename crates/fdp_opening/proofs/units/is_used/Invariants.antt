use Rattle.std.proofs.Common.{◌≡◌, IsTrue}
use Rattle.fdp_flash.specs.OnlyReads.{ReadsOnly}
use Rattle.fdp_opening.proofs.Scanned.{AreBlankTo}
use Rattle.fdp_opening.proofs.units.is_used.Given as goal

abbrev pub invariant-loop-at : goal.invariant-loop-at
invariant-loop-at g l = record {
  looks : ReadsOnly l.at (g.F.Flash.state l.initial.flash) (g.F.Flash.state l.flash);
  faultless : (g.F.Flash.state l.flash).faults ≡ (g.F.Flash.state l.initial.flash).faults;
  blank : IsTrue (g.F.Flash.state l.initial.flash).told → AreBlankTo l.geometry (g.F.Flash.state l.initial.flash).cells l.unit l.at;
}
