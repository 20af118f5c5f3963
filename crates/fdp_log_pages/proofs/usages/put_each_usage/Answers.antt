use Rattle.std.proofs.Common.{ℕ, List, ◌∷◌, refl}
use Rattle.fdp_base.specs.Numbers.{numbers_from}
use Rattle.fdp_rules.specs.LogPages.{zeros}
use Rattle.fdp_pieces.proofs.Putting.{puts_nothing, puts_number}
use Rattle.fdp_log_pages.specs.Usages.{usage_in}
use Rattle.fdp_log_pages.proofs.usages.put_each_usage.Goals as goal

pub loop-ruh-init : goal.loop-ruh-init
unfolding numbers_from
loop-ruh-init c = puts_nothing c.args.offset 8 c.args.into.now

pub loop-ruh-preserved : goal.loop-ruh-preserved
loop-ruh-preserved c =
    let piece : ℕ → List ℕ = λ ruh. usage_in c.args.places.now ruh ∷ zeros 7 in
    puts_number c.args.offset 8 8 piece c.loop-ruh.ruh _ c.args.into.now c.loop-ruh.into _ (λ ruh. refl) refl c.loop-ruh.invariant c.put_usage.ensures
