use Rattle.fdp_pages.specs.Leaving.{LeavesGroups}
use Rattle.fdp_pages.proofs.pages.Pages.leave_groups.Given as goal

abbrev pub invariant-loop-rg : goal.invariant-loop-rg
invariant-loop-rg l = LeavesGroups l.fn.self l.self l.rg
