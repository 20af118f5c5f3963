use Rattle.std.proofs.Common.{◌≡◌, IsTrue}
use Rattle.fdp_flash.specs.Area.{AreaMayLeave, IsBlankArea}
use Rattle.fdp_flash.specs.Planned.{Makes, calls_from, erase_of}
use Rattle.fdp_flash.specs.Runs.{Holds}
use Rattle.fdp_flash.proofs.area.erase_area.Given as goal

abbrev pub invariant-loop-i : goal.invariant-loop-i
invariant-loop-i g l = record {
  held : Holds (AreaMayLeave (g.F.Flash.state l.initial.flash).geometry l.first l.count (g.F.Flash.state l.initial.flash).cells) (g.F.Flash.state l.initial.flash) (g.F.Flash.state l.flash);
  blank : IsTrue (g.F.Flash.state l.initial.flash).told → IsBlankArea (g.F.Flash.state l.initial.flash).geometry l.first l.i (g.F.Flash.state l.flash).cells;
  faultless : (g.F.Flash.state l.flash).faults ≡ (g.F.Flash.state l.initial.flash).faults;
  made : Makes (g.F.Flash.state l.initial.flash) (g.F.Flash.state l.flash) (calls_from erase_of l.first l.i);
  programs : (g.F.Flash.state l.flash).programs ≡ (g.F.Flash.state l.initial.flash).programs;
}
