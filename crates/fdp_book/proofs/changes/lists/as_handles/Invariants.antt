use Rattle.std.proofs.Common.{◌≡◌, take}
use Rattle.fdp_book.proofs.changes.lists.as_handles.Given as goal

abbrev pub invariant-loop-ruh : goal.invariant-loop-ruh
invariant-loop-ruh l = l.handles.items ≡ take l.ruh-index l.asked
