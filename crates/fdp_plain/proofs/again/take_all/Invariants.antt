use Rattle.std.proofs.Common.{◌≡◌, take}
use Rattle.fdp_plain.proofs.again.take_all.Given as goal

abbrev pub invariant-loop-entry : goal.invariant-loop-entry
invariant-loop-entry l = l.drive ≡ record l.fn.drive { entries = take l.entry-index l.entries }
