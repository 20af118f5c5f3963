use Rattle.std.proofs.Common.{◌≡◌, replicate}
use Rattle.fdp_pages.specs.PageTables.{no_targets}
use Rattle.fdp_pages.proofs.pages.passes_of_groups.Given as goal

abbrev pub invariant-loop : goal.invariant-loop
invariant-loop l = l.passes.items ≡ replicate l.counter (no_targets l.geometry.unit_pages)
