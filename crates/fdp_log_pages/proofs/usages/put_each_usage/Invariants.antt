use Rattle.std.proofs.Common.{◌∷◌}
use Rattle.std.specs.Prelude.{flat_map}
use Rattle.fdp_base.specs.Numbers.{numbers_below}
use Rattle.fdp_rules.specs.LogPages.{zeros}
use Rattle.fdp_pieces.specs.Parts.{PutsPiece}
use Rattle.fdp_log_pages.specs.Usages.{usage_in}
use Rattle.fdp_log_pages.proofs.usages.put_each_usage.Given as goal

abbrev pub invariant-loop-ruh : goal.invariant-loop-ruh
invariant-loop-ruh l = PutsPiece l.offset 8 (flat_map (λ ruh. usage_in l.places ruh ∷ zeros 7) (numbers_below l.ruh)) l.initial.into l.into
