use Rattle.std.proofs.Common.{◌≡◌, ℕ, ap, ◌∙◌, arith, flat_map}
use Rattle.fdp_base.specs.Numbers.{numbers_below}
use Rattle.fdp_rules.specs.Events.{reallocated}
use Rattle.fdp_outline.specs.Events.{names_of_handle, with_events}
use Rattle.fdp_outline.proofs.Keeping.{kept-next, kept-none}
use Rattle.fdp_outline.proofs.outline.Outline.keep_moved.Goals as goal

pub loop-ruh-init : goal.loop-ruh-init
loop-ruh-init c s at = kept-none _ _ c.known.ensures.summary

pub loop-ruh-preserved : goal.loop-ruh-preserved
loop-ruh-preserved c s at = kept-next _ _ _ _ c.loop-ruh.ruh (c.keep_moved_of.ensures s at) (c.loop-ruh.invariant s at)

pub returns : goal.returns
returns c s at =
    let all : c.loop-ruh.ruh ≡ c.args.handles = omega arith in
    (c.loop-ruh.invariant s at).is
    ∙ ap (λ (n : ℕ). with_events c.args.self.now (flat_map (λ ruh. reallocated s c.args.rg ruh (names_of_handle c.args.blocks.now ruh)) (numbers_below n))) all
