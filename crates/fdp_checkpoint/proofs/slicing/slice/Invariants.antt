use Rattle.std.proofs.Common.{◌≡◌, ◌-◌, IsTrue}
use Rattle.fdp_flash.specs.Planned.{Makes, calls_from}
use Rattle.fdp_flash.specs.Runs.{Holds}
use Rattle.fdp_checkpoint.specs.Slices.{IsPartDone, IsSliced, slice_call}
use Rattle.fdp_checkpoint.proofs.slicing.slice.Given as goal

abbrev pub invariant-loop-number : goal.invariant-loop-number
invariant-loop-number g l = record {
  held : Holds (IsSliced l.target.geometry l.target.area (g.F.Flash.state l.initial.flash).cells) (g.F.Flash.state l.initial.flash) (g.F.Flash.state l.flash);
  done : IsTrue (g.F.Flash.state l.initial.flash).told → IsPartDone l.target l.frozen l.number (g.F.Flash.state l.flash).cells;
  faultless : (g.F.Flash.state l.flash).faults ≡ (g.F.Flash.state l.initial.flash).faults;
  programs : (g.F.Flash.state l.flash).programs ≡ (g.F.Flash.state l.initial.flash).programs;
  made : Makes (g.F.Flash.state l.initial.flash) (g.F.Flash.state l.flash) (calls_from (slice_call l.target.geometry l.target.area) l.first (l.number - l.first));
}
