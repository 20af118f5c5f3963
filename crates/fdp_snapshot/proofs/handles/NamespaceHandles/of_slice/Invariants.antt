use Rattle.std.proofs.Common.{◌≡◌, length, take}
use Rattle.fdp_snapshot.proofs.handles.NamespaceHandles.of_slice.Given as goal

abbrev pub invariant-loop-ruh : goal.invariant-loop-ruh
invariant-loop-ruh l = (l.list ≡ take l.ruh-index l.handles) × (length l.list ≡ l.ruh-index)
