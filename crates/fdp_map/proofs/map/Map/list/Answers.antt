use Rattle.std.proofs.Common.{◌≡◌, ◌∙◌, ◌<◌, ◌≤◌, ◌-◌, ℕ, List, [], Option, ap, arith, length, sym, get_or}
use Rattle.std.proofs.lemmas.Bool.Decides.{nat_tests}
use Rattle.std.proofs.lemmas.List.{get_or_default}
use Rattle.fdp_map.specs.MapTable.{MapTable, row}
use Rattle.fdp_map.specs.PageLists.{places_of}
use Rattle.fdp_map.proofs.Listing.{list_of, row_is}
use Rattle.fdp_map.proofs.map.Map.list.Goals as goal

pub returns-then-nsid-eq0 : goal.returns-then-nsid-eq0
returns-then-nsid-eq0 c = ap (λ (m : MapTable). row m 0) c.self.view_is ∙ sym (ap (row c.args.self.now) c.if-nsid-eq0.true)

pub returns-in-Some : goal.returns-in-Some
returns-in-Some c =
    let g = c.self.inside.geometry in
    let lists : List (List (Option ℕ)) = c.self.inside.lists.items in
    let there : c.args.nsid - 1 < length lists = grind (arith, nat_tests, c.in-Some.ensures.lookup.0, c.deref.ensures.value) in
    let is : c.as_slice.result.now ≡ list_of lists c.args.nsid =
    c.as_slice.ensures ∙ c.in-Some.ensures.lookup.1 ∙ ap (λ (xs : List (List (Option ℕ))). get_or xs (c.args.nsid - 1) c.in-Some.list.now) c.deref.ensures.value ∙ get_or_default lists (c.args.nsid - 1) c.in-Some.list.now [] there in
    let low : 1 ≤ c.args.nsid = omega (arith, c.if-nsid-eq0.false) in
    ap (λ (m : MapTable). places_of m.geometry c.as_slice.result.now) (sym c.self.view_is)
    ∙ ap (places_of g) is
    ∙ sym (row_is g lists c.args.nsid low)
    ∙ ap (λ (m : MapTable). row m c.args.nsid) c.self.view_is
