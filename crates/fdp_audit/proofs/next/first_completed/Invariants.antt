use Rattle.std.proofs.Common.{◌≡◌, take}
use Rattle.fdp_audit.specs.Audit.{HaveNoCompletedChange}
use Rattle.fdp_audit.proofs.next.first_completed.Given as goal

abbrev pub invariant-loop-entry : goal.invariant-loop-entry
invariant-loop-entry l = record {
  place : l.place ≡ l.entry-index;
  none : HaveNoCompletedChange (take l.entry-index l.entries);
}
