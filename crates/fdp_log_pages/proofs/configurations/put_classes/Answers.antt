use Rattle.std.proofs.Common.{◌≡◌, ℕ, ◌+◌, ◌*◌, List, ◌∷◌, ◌∙◌, ap, refl, sym, subst, arith}
use Rattle.fdp_base.specs.Codes.{class_code}
use Rattle.fdp_base.specs.declared.config.Class.{Class}
use Rattle.fdp_rules.specs.LogPages.{zeros}
use Rattle.fdp_pieces.specs.Parts.{PutsPiece}
use Rattle.fdp_pieces.proofs.Putting.{puts_end, puts_next_even, puts_nothing}
use Rattle.fdp_log_pages.proofs.configurations.put_classes.Goals as goal

-- what a handle's class is told as
abbrev told : Class → List ℕ
told class = class_code class ∷ zeros 3

pub loop-index-init : goal.loop-index-init
loop-index-init c = puts_nothing c.args.offset c.args.start c.args.into.now

pub loop-index-preserved : goal.loop-index-preserved
loop-index-preserved c =
    let at : ℕ = c.args.start + 4 * c.loop-index.index in
    puts_next_even c.args.offset c.args.start 4 told c.args.classes.now c.loop-index.index at _ c.args.into.now c.loop-index.into c.put_piece.new.into (λ class. refl) (omega arith) refl c.loop-index.invariant
    (subst (λ (bytes : List ℕ). PutsPiece c.args.offset at bytes c.loop-index.into c.put_piece.new.into) c.class_frame.ensures c.put_piece.ensures)

pub returns : goal.returns
returns c = puts_end c.args.offset c.args.start told c.args.classes.now c.loop-index.index c.args.into.now c.loop-index.into (omega arith) c.loop-index.invariant
