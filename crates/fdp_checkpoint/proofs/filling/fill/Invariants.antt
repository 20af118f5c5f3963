use Rattle.std.proofs.Common.{◌≡◌, ◌*◌, IsTrue, length}
use Rattle.fdp_flash.specs.Planned.{Makes, calls_from}
use Rattle.fdp_flash.specs.Runs.{Holds}
use Rattle.fdp_image.specs.Areas.{area_of}
use Rattle.fdp_snapshot.specs.Checkpoint.{checkpoint_of}
use Rattle.fdp_checkpoint.specs.Writing.{HasPages, IsUnsealed, page_call, with_pages}
use Rattle.fdp_checkpoint.proofs.filling.fill.Given as goal

abbrev pub invariant-loop-number : goal.invariant-loop-number
invariant-loop-number g l = record {
  size : length l.page ≡ length l.fn.page;
  held : Holds (IsUnsealed l.target.geometry l.target.area (g.F.Flash.state l.initial.flash).cells) (g.F.Flash.state l.initial.flash) (g.F.Flash.state l.flash);
  pages : IsTrue (g.F.Flash.state l.initial.flash).told → HasPages l.target.geometry.block l.target.stamp (checkpoint_of 1 (l.count * l.target.geometry.block) (with_pages l.summary l.pages)) (area_of l.target.geometry l.target.area (g.F.Flash.state l.flash).cells) l.number;
  faultless : (g.F.Flash.state l.flash).faults ≡ (g.F.Flash.state l.initial.flash).faults;
  programs : (g.F.Flash.state l.flash).programs ≡ (g.F.Flash.state l.initial.flash).programs;
  made : Makes (g.F.Flash.state l.initial.flash) (g.F.Flash.state l.flash) (calls_from (page_call l.target.geometry l.target.area) 0 l.number);
}
