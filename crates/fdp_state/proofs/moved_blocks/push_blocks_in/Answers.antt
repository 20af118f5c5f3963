use Rattle.std.proofs.Common.{◌≡◌, ◌∙◌, ◌++◌, ◌∷◌, [], ℕ, Option, ap, arith, false, filter, map}
use Rattle.std.specs.Prelude.{◌==◌, if◌then◌else◌}
use Rattle.std.specs.Option.{option_map_or}
use Rattle.fdp_base.specs.Numbers.{numbers_below}
use Rattle.fdp_image.specs.Reading.{has_page}
use Rattle.fdp_state.specs.Parts.{reading_of}
use Rattle.fdp_state.proofs.Collecting.{chosen_more, chosen_none}
use Rattle.fdp_state.proofs.moved_blocks.push_blocks_in.Goals as goal

pub loop-lba-init : goal.loop-lba-init
loop-lba-init c = chosen_none _ _ _

pub loop-lba-preserved : goal.loop-lba-preserved
loop-lba-preserved c =
    chosen_more _ _ c.loop-lba.lba _ c.loop-lba.blocks.items _
    (c.in_ok-push_if_there.ensures
    ∙ ap (λ (o : Option ℕ). c.loop-lba.blocks.items ++ (if option_map_or (λ (x : ℕ). x == c.args.page) o false then record { nsid = c.args.nsid; lba = c.loop-lba.lba } ∷ [] else [])) c.page_at.ensures)
    c.loop-lba.invariant

pub returns : goal.returns
returns c =
    let all : c.loop-lba.lba ≡ c.size_of-size.result = omega arith in
    c.loop-lba.invariant.items
    ∙ ap (λ (n : ℕ). c.args.blocks.now.items ++ map (λ (lba : ℕ). record { nsid = c.args.nsid; lba = lba }) (filter (has_page (reading_of c.args.parts.now) c.args.page c.args.nsid) (numbers_below n))) (all ∙ c.size_of-size.ensures)
