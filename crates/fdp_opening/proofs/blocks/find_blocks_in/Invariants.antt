use Rattle.std.proofs.Common.{◌≡◌}
use Rattle.fdp_flash.specs.OnlyReads.{ReadsOnly}
use Rattle.fdp_image.specs.Checkpoint.{reading_of_state}
use Rattle.fdp_opening.specs.Walking.{AreFoundBefore}
use Rattle.fdp_opening.proofs.blocks.find_blocks_in.Given as goal

abbrev pub invariant-loop-lba : goal.invariant-loop-lba
invariant-loop-lba g l = record {
  looks : ReadsOnly l.lba (g.F.Flash.state l.initial.flash) (g.F.Flash.state l.flash);
  faultless : (g.F.Flash.state l.flash).faults ≡ (g.F.Flash.state l.initial.flash).faults;
  found : AreFoundBefore l.config (reading_of_state l.state) (g.F.Flash.state l.flash) l.nsid l.lba l.pages;
}
