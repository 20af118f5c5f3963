use Rattle.std.proofs.Common.{◌≡◌, map}
use Rattle.fdp_base.specs.Numbers.{numbers_below}
use Rattle.fdp_rules.specs.LogPages.{usage_of}
use Rattle.fdp_printing.proofs.telling.usages_of.Given as goal

abbrev pub invariant-loop-ruh : goal.invariant-loop-ruh
invariant-loop-ruh g l = l.usages.items ≡ map (usage_of (g.T.Telling.point l.drive).state) (numbers_below l.ruh)
