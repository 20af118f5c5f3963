use Rattle.std.proofs.Common.{◌≡◌, IsTrue}
use Rattle.fdp_flash.specs.Planned.{Makes, calls_from}
use Rattle.fdp_flash.specs.Runs.{Holds}
use Rattle.fdp_image.specs.Areas.{area_of}
use Rattle.fdp_checkpoint.specs.Writing.{IsKeptBehind, IsUnsealed, page_call}
use Rattle.fdp_checkpoint.proofs.keeping.keep.Given as goal

abbrev pub invariant-loop-number : goal.invariant-loop-number
invariant-loop-number g l = record {
  held : Holds (IsUnsealed l.target.geometry l.target.area (g.F.Flash.state l.initial.flash).cells) (g.F.Flash.state l.initial.flash) (g.F.Flash.state l.flash);
  kept : IsTrue (g.F.Flash.state l.initial.flash).told → IsKeptBehind l.target.stamp l.count l.kept l.number (area_of l.target.geometry l.target.area (g.F.Flash.state l.initial.flash).cells) (area_of l.target.geometry l.target.area (g.F.Flash.state l.flash).cells);
  faultless : (g.F.Flash.state l.flash).faults ≡ (g.F.Flash.state l.initial.flash).faults;
  programs : (g.F.Flash.state l.flash).programs ≡ (g.F.Flash.state l.initial.flash).programs;
  made : Makes (g.F.Flash.state l.initial.flash) (g.F.Flash.state l.flash) (calls_from (page_call l.target.geometry l.target.area) l.count l.number);
}
