use Rattle.std.proofs.Common.{◌≡◌, IsTrue}
use Rattle.fdp_image.specs.Checkpoint.{reading_of_state}
use Rattle.fdp_recovery.specs.Walking.{AreKeptBefore, AreMarks, LooksMarked}
use Rattle.fdp_recovery.proofs.blocks.find_unkept.Given as goal

abbrev pub invariant-loop-nsid : goal.invariant-loop-nsid
invariant-loop-nsid g l = record {
  looks : LooksMarked l.initial.marks l.marks (g.F.Flash.state l.initial.flash) (g.F.Flash.state l.flash);
  faultless : (g.F.Flash.state l.flash).faults ≡ (g.F.Flash.state l.initial.flash).faults;
  marks : AreMarks l.config (reading_of_state l.state) l.nsid 0 l.marks;
  kept : IsTrue (g.F.Flash.state l.initial.flash).told → AreKeptBefore l.config (g.F.Flash.state l.initial.flash).cells (reading_of_state l.state) l.nsid 0;
}
