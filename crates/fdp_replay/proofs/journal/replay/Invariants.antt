use Rattle.std.proofs.Common.{◌≡◌, ◌≤◌, IsTrue, length}
use Rattle.fdp_flash.specs.OnlyReads.{ReadsOnly}
use Rattle.fdp_replay.specs.Replay.{IsReplayed}
use Rattle.fdp_replay.proofs.Journals.{journal_of}
use Rattle.fdp_replay.proofs.journal.replay.Given as goal

abbrev pub invariant-loop-number : goal.invariant-loop-number
invariant-loop-number g l = record {
  looks : ReadsOnly l.number (g.F.Flash.state l.initial.flash) (g.F.Flash.state l.flash);
  faultless : (g.F.Flash.state l.flash).faults ≡ (g.F.Flash.state l.initial.flash).faults;
  config : g.R.Replayed.config l.state ≡ g.R.Replayed.config l.initial.state;
  pages : IsTrue (g.F.Flash.state l.initial.flash).told → l.number ≤ length (journal_of l.geometry (g.F.Flash.state l.initial.flash).cells l.current);
  read : IsTrue (g.F.Flash.state l.initial.flash).told → IsReplayed g.R.Replayed.fits (g.R.Replayed.config l.initial.state) (journal_of l.geometry (g.F.Flash.state l.initial.flash).cells l.current) l.number (g.R.Replayed.reading l.initial.state) (g.R.Replayed.reading l.state);
}
