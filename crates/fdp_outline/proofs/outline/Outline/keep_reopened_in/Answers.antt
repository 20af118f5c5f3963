use Rattle.std.proofs.Common.{◌≡◌, ℕ, [], ◌∷◌, ap, ◌∙◌, arith, flat_map}
use Rattle.fdp_base.specs.Numbers.{numbers_below}
use Rattle.fdp_base.specs.declared.event.EventKind.TheVariants as kinds
use Rattle.fdp_rules.specs.Events.{handle_event}
use Rattle.fdp_outline.specs.Events.{with_events}
use Rattle.fdp_outline.proofs.Keeping.{flat-one, kept-next, kept-none}
use Rattle.fdp_outline.proofs.outline.Outline.keep_reopened_in.Goals as goal

pub loop-ruh-init : goal.loop-ruh-init
loop-ruh-init c s at = kept-none _ _ c.known.ensures.summary

pub loop-ruh-preserved : goal.loop-ruh-preserved
loop-ruh-preserved c s at = kept-next _ _ _ _ c.loop-ruh.ruh (c.keep_modified.ensures s at) (c.loop-ruh.invariant s at)

pub returns : goal.returns
returns c s at =
    let all : c.loop-ruh.ruh ≡ c.args.handles = omega arith in
    (c.loop-ruh.invariant s at).is
    ∙ ap (λ (n : ℕ). with_events c.args.self.now (flat_map (λ ruh. handle_event s kinds.HandlesModified c.args.rg ruh ∷ []) (numbers_below n))) all
    ∙ ap (with_events c.args.self.now) (flat-one (handle_event s kinds.HandlesModified c.args.rg) (numbers_below c.args.handles))
