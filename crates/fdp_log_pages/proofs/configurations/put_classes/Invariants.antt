use Rattle.std.proofs.Common.{◌∷◌}
use Rattle.std.specs.Prelude.{flat_map, take}
use Rattle.fdp_base.specs.Codes.{class_code}
use Rattle.fdp_base.specs.declared.config.Class.{Class}
use Rattle.fdp_rules.specs.LogPages.{zeros}
use Rattle.fdp_pieces.specs.Parts.{PutsPiece}
use Rattle.fdp_log_pages.proofs.configurations.put_classes.Given as goal

abbrev pub invariant-loop-index : goal.invariant-loop-index
invariant-loop-index l = PutsPiece l.offset l.start (flat_map (λ (class : Class). class_code class ∷ zeros 3) (take l.index l.classes)) l.initial.into l.into
