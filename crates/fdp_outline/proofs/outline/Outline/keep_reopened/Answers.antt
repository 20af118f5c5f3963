use Rattle.std.proofs.Common.{◌≡◌, ℕ, ap, ◌∙◌, arith, flat_map, map}
use Rattle.fdp_base.specs.Numbers.{numbers_below}
use Rattle.fdp_base.specs.declared.event.EventKind.TheVariants as kinds
use Rattle.fdp_rules.specs.Events.{handle_event}
use Rattle.fdp_outline.specs.Events.{with_events}
use Rattle.fdp_outline.proofs.Keeping.{kept-next, kept-none}
use Rattle.fdp_outline.proofs.outline.Outline.keep_reopened.Goals as goal

pub loop-rg-init : goal.loop-rg-init
loop-rg-init c s at = kept-none _ _ c.known.ensures.summary

pub loop-rg-preserved : goal.loop-rg-preserved
loop-rg-preserved c s at = kept-next _ _ _ _ c.loop-rg.rg (c.keep_reopened_in.ensures s at) (c.loop-rg.invariant s at)

pub returns : goal.returns
returns c s at =
    let all : c.loop-rg.rg ≡ c.args.groups = omega arith in
    (c.loop-rg.invariant s at).is
    ∙ ap (λ (n : ℕ). with_events c.args.self.now (flat_map (λ rg. map (handle_event s kinds.HandlesModified rg) (numbers_below c.args.handles)) (numbers_below n))) all
