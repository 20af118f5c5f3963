use Rattle.std.proofs.Common.{◌≡◌, ◌*◌, IsTrue, length, take}
use Rattle.std.specs.List.{concat}
use Rattle.fdp_flash.specs.OnlyReads.{ReadsOnly}
use Rattle.fdp_checkpoint.proofs.Collecting.{pages_in}
use Rattle.fdp_checkpoint.proofs.collect.collect.Given as goal

abbrev pub invariant-loop-number : goal.invariant-loop-number
invariant-loop-number g l = record {
  reads : ReadsOnly l.number (g.F.Flash.state l.initial.flash) (g.F.Flash.state l.flash);
  faultless : (g.F.Flash.state l.flash).faults ≡ (g.F.Flash.state l.initial.flash).faults;
  size : length l.page ≡ length l.initial.page;
  long : length l.bytes.items ≡ l.number * l.geometry.block;
  joined : IsTrue (g.F.Flash.state l.initial.flash).told → l.bytes.items ≡ concat (take l.number (pages_in l.geometry l.area (g.F.Flash.state l.initial.flash).cells l.seal.stamp));
}
