use Rattle.std.proofs.Common.{◌≡◌, ◌∙◌, ℕ, ◌+◌, ◌*◌, ap, arith, length, map, filter}
use Rattle.fdp_base.specs.Numbers.{numbers_below}
use Rattle.fdp_image.specs.Bits.{is_bit_set}
use Rattle.fdp_state.proofs.Collecting.{chosen_more, chosen_start}
use Rattle.fdp_state.proofs.moves.page_numbers.Goals as goal

pub loop-page-init : goal.loop-page-init
loop-page-init c = chosen_start _ _ _ c.new-numbers.ensures.items

pub loop-page-preserved : goal.loop-page-preserved
loop-page-preserved c = chosen_more _ _ c.loop-page.page _ c.loop-page.numbers.items _ c.in_ok-push_if_set.ensures c.loop-page.invariant

pub returns : goal.returns
returns c =
    let all : c.loop-page.page ≡ 8 * length c.args.x.now.pages.bits = omega (arith, c.most_pages-most.ensures.value) in
    c.loop-page.invariant.items
    ∙ ap (λ (n : ℕ). map (λ (p : ℕ). c.args.x.now.unit * c.args.config.now.unit_pages + p) (filter (is_bit_set c.args.x.now.pages.bits) (numbers_below n))) all
