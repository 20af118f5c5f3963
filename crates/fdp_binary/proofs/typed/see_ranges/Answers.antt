use Rattle.std.proofs.Common.{◌^◌, ◌<◌, get_or, below_more, subst, refl, arith}
use Rattle.std.proofs.lemmas.List.{get_or_default}
use Rattle.fdp_base.specs.declared.command.Range.{Range}
use Rattle.fdp_binary.proofs.typed.see_ranges.Goals as goal

pub loop-range-preserved : goal.loop-range-preserved
loop-range-preserved c =
    let ranges = c.args.ranges.now in
    let i = c.loop-range.range-index in
    let step = below_more (λ k. (d : Range) → ((get_or ranges k d).length < 2 ^ 32) × ((get_or ranges k d).slba < 2 ^ 64)) i
    (λ k lt d. c.loop-range.invariant k d lt)
    (λ d. subst (λ (r : Range). (r.length < 2 ^ 32) × (r.slba < 2 ^ 64)) (get_or_default ranges i _ d c.loop-range-test.true) (c.see_range.ensures.length, c.see_range.ensures.slba)) in
    λ k d lt. step k lt d

pub returns : goal.returns
returns c = record { each = λ k d lt. let h = c.loop-range.invariant k d (omega (arith, lt, c.loop-range-test.false)) in ((omega arith, refl, tt), ((h.0, refl, tt), ((h.1, refl, tt), tt))) }
