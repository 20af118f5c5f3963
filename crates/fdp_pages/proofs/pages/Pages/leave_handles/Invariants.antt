use Rattle.fdp_pages.specs.Leaving.{LeavesHandles}
use Rattle.fdp_pages.proofs.pages.Pages.leave_handles.Given as goal

abbrev pub invariant-loop-ruh : goal.invariant-loop-ruh
invariant-loop-ruh l = LeavesHandles l.fn.self l.self l.fn.rg l.ruh
