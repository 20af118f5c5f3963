use Rattle.std.proofs.Common.{◌*◌, ◌≤◌, take}
use Rattle.fdp_make.specs.Summary.{untold}
use Rattle.fdp_make.specs.Table.{Tells}
use Rattle.fdp_make.proofs.Summing.{IsAgreeing}
use Rattle.fdp_make.proofs.summary.unrefuted_blocks.Given as goal

abbrev pub invariant-loop-entry : goal.invariant-loop-entry
invariant-loop-entry l = record {
  told : Tells l.writes (take l.entry-index l.entries);
  counted : IsAgreeing l.block untold l.entries l.entry-index l.same;
  bound : l.same ≤ l.entry-index * 4294967295;
}
