use Rattle.std.proofs.Common.{◌≡◌, ◌∙◌, ℕ, List, Option, ap, length, sym}
use Rattle.std.specs.Prelude.{option_map}
use Rattle.fdp_map.specs.MapTable.{MapTable, mapped_at, size_in}
use Rattle.fdp_map.specs.PageLists.{lists_of, page_at, page_of, size_at}
use Rattle.fdp_map.proofs.Listing.{lists_counted, lists_back, pages_are, sizes_are}
use Rattle.fdp_map.proofs.map.Map.pages.Goals as goal

pub returns-clause-lists : goal.returns-clause-lists
returns-clause-lists c =
    c.as_slice.ensures.value
    ∙ sym (lists_back c.self.inside.geometry c.self.inside.lists.items)
    ∙ ap lists_of c.self.view_is

pub returns-clause-sizes : goal.returns-clause-sizes
returns-clause-sizes c = λ nsid.
    let rows : length c.self.inside.lists.items ≡ 16 = lists_counted c.self.inside.geometry c.self.inside.lists.items c.self.inside.counts c.self.invariant in
    ap (λ (lists : List (List (Option ℕ))). size_at lists nsid) c.as_slice.ensures.value
    ∙ sym (sizes_are c.self.inside.geometry c.self.inside.lists.items rows nsid)
    ∙ ap (λ (m : MapTable). size_in m nsid) c.self.view_is

pub returns-clause-blocks : goal.returns-clause-blocks
returns-clause-blocks c = λ nsid lba.
    let rows : length c.self.inside.lists.items ≡ 16 = lists_counted c.self.inside.geometry c.self.inside.lists.items c.self.inside.counts c.self.invariant in
    ap (λ (lists : List (List (Option ℕ))). page_at lists nsid lba) c.as_slice.ensures.value
    ∙ pages_are c.self.inside.geometry c.self.inside.lists.items rows nsid lba
    ∙ ap (λ (m : MapTable). option_map (page_of m.geometry) (mapped_at m nsid lba)) c.self.view_is
