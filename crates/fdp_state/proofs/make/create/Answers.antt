use Rattle.std.proofs.Common.{◌≡◌, ◌∙◌, ℕ, None, Some, List, Option, ap, length, refl, sym}
use Rattle.std.specs.Prelude.{◌==◌, if◌then◌else◌}
use Rattle.fdp_image.specs.Checkpoint.{page_in_lists, reading_of_state}
use Rattle.fdp_state.specs.Parts.{listed, reading_of, row}
use Rattle.fdp_state.proofs.Owning.{owners-as}
use Rattle.fdp_state.proofs.Spacing.{empty_pages, none_before, placed_pages, size-if}
use Rattle.fdp_state.proofs.make.create.Goals as goal

pub returns-clause-made : goal.returns-clause-made
unfolding reading_of_state
returns-clause-made c k given handles =
    let old = c.args.parts.now.pages.items in
    let new = c.set_list.new.lists.items in
    let none = none_before c.args.parts.now c.args.nsid c.requires.sound c.requires.free in
    let pages : (n lba : ℕ) → page_in_lists new n lba ≡ (if n == c.args.nsid then None else page_in_lists old n lba) =
    λ n lba. empty_pages c.from_vec.result new old c.args.nsid n lba (c.set_list.ensures.pages n lba) (λ l. ap (λ (list : List (Option ℕ)). row list l) c.from_vec.ensures ∙ c.in_ok-list.ensures.rows l) in
    placed_pages c.args.parts.now _ refl c.args.nsid c.args.size c.requires.sound c.set_list.ensures.rows pages
    (λ n. c.set_list.ensures.sizes n ∙ ap (λ (m : ℕ). if n == c.args.nsid then m else listed old n) (ap length c.from_vec.ensures ∙ c.in_ok-list.ensures.size))
    (owners-as (page_in_lists old) (page_in_lists new) _ (λ n l. pages n l ∙ sym (none n l)) c.requires.sound.owners) k _
    (λ position n. size-if (n == c.args.nsid) (Some (record { size = c.args.size; handles = handles; given = given; birth = position })) ((reading_of c.args.parts.now).namespaces n))
    none
