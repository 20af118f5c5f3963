use Rattle.std.proofs.Common.{◌≡◌, IsTrue}
use Rattle.fdp_areas.specs.Data.{AreBlankBelow}
use Rattle.fdp_flash.specs.OnlyReads.{ReadsOnly}
use Rattle.fdp_areas.proofs.data.find_used.Given as goal

abbrev pub invariant-loop-number : goal.invariant-loop-number
invariant-loop-number g l = record {
  looks : ReadsOnly l.number (g.F.Flash.state l.initial.flash) (g.F.Flash.state l.flash);
  faultless : (g.F.Flash.state l.flash).faults ≡ (g.F.Flash.state l.initial.flash).faults;
  blank : IsTrue (g.F.Flash.state l.initial.flash).told → AreBlankBelow l.number (g.F.Flash.state l.initial.flash).cells;
}
