use Rattle.std.proofs.Common.{◌≡◌, ◌++◌, drop}
use Rattle.fdp_printing.specs.Lines.{usage_lines}
use Rattle.fdp_printing.proofs.closing.push_usages.Given as goal

abbrev pub invariant-loop-ruh : goal.invariant-loop-ruh
invariant-loop-ruh l = l.into.items ++ usage_lines l.ruh (drop l.ruh l.usages) ≡ l.fn.into.items ++ usage_lines 0 l.usages
