use Rattle.std.proofs.Common.{◌≡◌, ◌≤◌, length}
use Rattle.fdp_book.specs.Logged.{AreLists}
use Rattle.fdp_book.proofs.log.add_lists.Given as goal

abbrev pub invariant-loop : goal.invariant-loop
invariant-loop l = (length l.lists.items ≡ l.counter) × (length l.fn.lists.items ≤ l.counter) × AreLists l.lists.items l.names
