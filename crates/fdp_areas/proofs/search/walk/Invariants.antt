use Rattle.std.proofs.Common.{◌≡◌, ◌+◌, ◌-◌, IsTrue}
use Rattle.fdp_image.specs.Areas.{area_of}
use Rattle.fdp_flash.specs.OnlyReads.{ReadsOnly}
use Rattle.fdp_areas.proofs.Walking.{IsWalked}
use Rattle.fdp_areas.proofs.search.walk.Given as goal

abbrev pub invariant-loop-number : goal.invariant-loop-number
invariant-loop-number g l = record {
  looks : ReadsOnly (l.number - 1) (g.F.Flash.state l.initial.flash) (g.F.Flash.state l.flash);
  faultless : (g.F.Flash.state l.flash).faults ≡ (g.F.Flash.state l.initial.flash).faults;
  on : l.number ≡ l.checkpoint + l.before;
  pages : IsTrue (g.F.Flash.state l.initial.flash).told → IsWalked l.stamp (area_of l.geometry l.area (g.F.Flash.state l.initial.flash).cells) l.checkpoint l.before;
}
