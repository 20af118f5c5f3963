use Rattle.std.proofs.Common.{ℕ, List, ◌∷◌, ◌++◌, ◌∙◌, ap, arith}
use Rattle.fdp_base.specs.declared.config.Class.{Class}
use Rattle.fdp_base.specs.Codes.{class_code}
use Rattle.fdp_rules.specs.LogPages.{zeros}
use Rattle.fdp_logs.proofs.Appending.{appending_over_end, appending_over_next}
use Rattle.fdp_logs.proofs.configurations.push_classes.Goals as goal

-- what a handle's class is told as
abbrev told : Class → List ℕ
told class = class_code class ∷ zeros 3

pub loop-class-preserved : goal.loop-class-preserved
loop-class-preserved c =
    appending_over_next told c.args.classes.now c.loop-class.class-index c.args.log.now.items c.loop-class.log.items _ _ (omega arith)
    (c.in_ok-extend_from_slice.ensures.items ∙ ap (λ (bytes : List ℕ). c.loop-class.log.items ++ bytes) c.class_frame.ensures) c.loop-class.invariant

pub returns : goal.returns
returns c =
    appending_over_end told c.args.classes.now c.loop-class.class-index c.args.log.now.items c.loop-class.log.items (omega arith) c.loop-class.invariant
