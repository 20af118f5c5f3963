use Rattle.std.proofs.Common.{◌≡◌, ◌-◌}
use Rattle.fdp_base.proofs.Sums.{sum_from}
use Rattle.fdp_flash.specs.OnlyReads.{ReadsOnly}
use Rattle.fdp_image.specs.Checkpoint.{reading_of_state}
use Rattle.fdp_recovery.specs.fdp_state.Parts.{listed}
use Rattle.fdp_opening.specs.Walking.{AreFoundBefore}
use Rattle.fdp_opening.proofs.blocks.find_blocks.Given as goal

abbrev pub invariant-loop-nsid : goal.invariant-loop-nsid
invariant-loop-nsid g l = record {
  looks : ReadsOnly (sum_from (listed l.state.pages) 1 (l.nsid - 1)) (g.F.Flash.state l.initial.flash) (g.F.Flash.state l.flash);
  faultless : (g.F.Flash.state l.flash).faults ≡ (g.F.Flash.state l.initial.flash).faults;
  found : AreFoundBefore l.config (reading_of_state l.state) (g.F.Flash.state l.flash) l.nsid 0 l.pages;
}
