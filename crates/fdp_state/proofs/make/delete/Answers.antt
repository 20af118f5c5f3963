use Rattle.std.proofs.Common.{◌≡◌, ◌∙◌, ℕ, None, List, Option, ap, arith, length, refl, sym}
use Rattle.std.specs.Prelude.{◌==◌, if◌then◌else◌}
use Rattle.fdp_image.specs.Checkpoint.{page_in_lists, reading_of_state}
use Rattle.fdp_outline.proofs.Naming.{there_good}
use Rattle.fdp_state.specs.declared.parts.Parts.{Parts}
use Rattle.fdp_state.specs.Parts.{listed, reading_of, row}
use Rattle.fdp_state.proofs.Owning.{owners-as}
use Rattle.fdp_state.proofs.Spacing.{cleared_all, empty_pages, placed_pages, size-if, twice_none}
use Rattle.fdp_state.proofs.make.delete.Goals as goal

pub clear_row-requires-clause-within : goal.clear_row-requires-clause-within
clear_row-requires-clause-within c some = omega (arith, c.size_of-size.ensures, c.requires.sound.sizes c.args.nsid)

pub set_list-requires-clause-id : goal.set_list-requires-clause-id
unfolding reading_of_state
set_list-requires-clause-id c = there_good c.args.parts.now.outline c.args.nsid c.requires.there

pub returns : goal.returns
unfolding reading_of_state
returns c =
    let old : Parts = c.args.parts.now in
    let mid : Parts = c.clear_row.new.parts in
    let lists = c.set_list.new.lists.items in
    let nsid = c.args.nsid in
    let h = c.clear_row.ensures in
    let gone : (n l : ℕ) → page_in_lists mid.pages.items n l ≡ (if n == nsid then None else page_in_lists old.pages.items n l) =
    λ n l. h.said n l ∙ cleared_all old nsid c.size_of-size.result c.requires.sound c.size_of-size.ensures n l in
    let pages : (n l : ℕ) → page_in_lists lists n l ≡ (if n == nsid then None else page_in_lists old.pages.items n l) =
    λ n l.
    empty_pages c.new.result lists mid.pages.items nsid n l (c.set_list.ensures.pages n l) (λ k. ap (λ (list : List (Option ℕ)). row list k) c.new.ensures)
    ∙ ap (λ (o : Option ℕ). if n == nsid then None else o) (gone n l)
    ∙ twice_none (n == nsid) (page_in_lists old.pages.items n l) in
    record {
      made = λ k.
          placed_pages old _ (ap (λ (q : Parts). record q { pages = c.set_list.new.lists }) h.rest) nsid 0 c.requires.sound c.set_list.ensures.rows
          pages
          (λ n. c.set_list.ensures.sizes n ∙ ap (λ (m : ℕ). if n == nsid then m else listed mid.pages.items n) (ap length c.new.ensures) ∙ ap (λ (m : ℕ). if n == nsid then 0 else m) (h.sizes n))
          (owners-as (page_in_lists mid.pages.items) (page_in_lists lists) _ (λ n l. pages n l ∙ sym (gone n l)) h.sound.owners)
          k _ (λ position n. size-if (n == nsid) None ((reading_of old).namespaces n)) (λ n l. refl);
    }
