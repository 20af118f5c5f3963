use Rattle.std.proofs.Common.{◌≡◌, ◌∙◌, ◌<◌, ◌+◌, ℕ, List, Option, ap, arith, length, subst, sym, slice_get}
use Rattle.std.specs.Prelude.{IfSome, option_map, slice_index}
use Rattle.std.specs.Option.{option_flatten}
use Rattle.fdp_base.specs.declared.config.Geometry.{Geometry}
use Rattle.fdp_base.specs.Geometry.{IsWithin}
use Rattle.fdp_map.specs.Counting.{as_number}
use Rattle.fdp_map.specs.declared.mapped.Mapped.{Mapped}
use Rattle.fdp_map.specs.MapTable.{IsCounted, IsPlaced, MapTable, is_mapped_in, mapped_at, size_in, with_mapped}
use Rattle.fdp_map.specs.PageLists.{data_pages, placed_on, table_of}
use Rattle.fdp_map.proofs.Counted.{counted_put, identifier, one_counted, one_more}
use Rattle.fdp_map.proofs.Listing.{list_of, mapped_is, page_put, pages_placed, pages_within, size_is}
use Rattle.fdp_map.proofs.Tables.{blocks_put, put_in, row_there, sizes_put}
use Rattle.fdp_map.proofs.map.Map.set.Goals as goal

-- what is known of the place that gets another block
record IsSet (g : Geometry) (lists : List (List (Option ℕ))) (counts : List ℕ) (nsid lba : ℕ) : Type 0 where
  pub within : lba < size_in (table_of g lists) nsid
  pub there : nsid < length (table_of g lists).rows
  pub id : IsWithin 1 16 nsid
  pub before : mapped_at (table_of g lists) nsid lba ≡ option_map (placed_on g) (option_flatten (slice_get (list_of lists nsid) lba))

set_place : (g : Geometry) (lists : List (List (Option ℕ))) (counts : List ℕ) (now : MapTable) (nsid lba : ℕ) → table_of g lists ≡ now → IsCounted (table_of g lists) counts → lba < size_in now nsid → IsSet g lists counts nsid lba
set_place g lists counts now nsid lba view h lba_within =
    let m : MapTable = table_of g lists in
    let size : size_in m nsid ≡ size_in now nsid = ap (λ (x : MapTable). size_in x nsid) view in
    let within : lba < size_in m nsid = omega (arith, size, lba_within) in
    let id : IsWithin 1 16 nsid = identifier m counts h nsid lba within in
    record { within = within; there = row_there m nsid lba within; id = id; before = mapped_is g lists nsid lba id.0 }

pub set_page-before-requires-clause-lba : goal.set_page-before-requires-clause-lba
set_page-before-requires-clause-lba c =
    let p = set_place c.self.inside.geometry c.self.inside.lists.items c.self.inside.counts c.args.self.now c.args.nsid c.args.lba c.self.view_is c.self.invariant c.requires.lba in
    omega (arith, p.within, size_is c.self.inside.geometry c.self.inside.lists.items c.args.nsid p.id.0)

pub placed-requires-clause-page : goal.placed-requires-clause-page
placed-requires-clause-page c =
    let g = c.self.inside.geometry in
    let p = set_place g c.self.inside.lists.items c.self.inside.counts c.args.self.now c.args.nsid c.args.lba c.self.view_is c.self.invariant c.requires.lba in
    let same = p.before ∙ ap (option_map (placed_on g)) (sym c.set_page-before.ensures.before) in
    pages_within g c.self.invariant.cut c.set_page-before.result (subst (λ o. IfSome o (IsPlaced g)) same (c.self.invariant.places c.args.nsid c.args.lba))

pub lower-requires : goal.lower-requires
lower-requires c =
    let g = c.self.inside.geometry in
    let m : MapTable = table_of g c.self.inside.lists.items in
    let p = set_place g c.self.inside.lists.items c.self.inside.counts c.args.self.now c.args.nsid c.args.lba c.self.view_is c.self.invariant c.requires.lba in
    one_counted m c.self.inside.counts c.args.nsid c.args.lba c.self.invariant p.within c.placed.result (p.before ∙ ap (option_map (placed_on g)) (sym c.set_page-before.ensures.before) ∙ sym c.placed.ensures)

pub raise-requires : goal.raise-requires
raise-requires c =
    let g = c.self.inside.geometry in
    let m : MapTable = table_of g c.self.inside.lists.items in
    let p = set_place g c.self.inside.lists.items c.self.inside.counts c.args.self.now c.args.nsid c.args.lba c.self.view_is c.self.invariant c.requires.lba in
    let before : c.placed.result ≡ mapped_at m c.args.nsid c.args.lba = sym (p.before ∙ ap (option_map (placed_on g)) (sym c.set_page-before.ensures.before) ∙ sym c.placed.ensures) in
    let down = subst (λ (x : Option Mapped). (rg : ℕ) → slice_index c.lower.new.counts rg + as_number (is_mapped_in rg x) ≡ slice_index c.self.inside.counts rg) before c.lower.ensures.counts in
    let page : IfSome c.args.page (λ n. n < data_pages g) = subst (λ (x : MapTable). IfSome c.args.page (λ n. n < data_pages x.geometry)) (sym c.self.view_is) c.requires.page in
    let placed : IfSome c.placed-2.result (IsPlaced g) = subst (λ o. IfSome o (IsPlaced g)) (sym c.placed-2.ensures) (pages_placed g c.self.invariant.cut c.args.page page) in
    one_more m c.self.inside.counts c.lower.new.counts c.args.nsid c.args.lba c.self.invariant c.lower.ensures.rows down c.placed-2.result placed

pub invariant_of-self : goal.invariant_of-self
invariant_of-self c =
    let g = c.self.inside.geometry in
    let m : MapTable = table_of g c.self.inside.lists.items in
    let p = set_place g c.self.inside.lists.items c.self.inside.counts c.args.self.now c.args.nsid c.args.lba c.self.view_is c.self.invariant c.requires.lba in
    let before : c.placed.result ≡ mapped_at m c.args.nsid c.args.lba = sym (p.before ∙ ap (option_map (placed_on g)) (sym c.set_page-before.ensures.before) ∙ sym c.placed.ensures) in
    let down = subst (λ (x : Option Mapped). (rg : ℕ) → slice_index c.lower.new.counts rg + as_number (is_mapped_in rg x) ≡ slice_index c.self.inside.counts rg) before c.lower.ensures.counts in
    let page : IfSome c.args.page (λ n. n < data_pages g) = subst (λ (x : MapTable). IfSome c.args.page (λ n. n < data_pages x.geometry)) (sym c.self.view_is) c.requires.page in
    let placed : IfSome c.placed-2.result (IsPlaced g) = subst (λ o. IfSome o (IsPlaced g)) (sym c.placed-2.ensures) (pages_placed g c.self.invariant.cut c.args.page page) in
    let table : table_of g c.set_page-before.new.lists.items ≡ put_in m c.args.nsid c.args.lba c.placed-2.result =
    ap (table_of g) c.set_page-before.ensures.after ∙ page_put g c.self.inside.lists.items c.args.nsid c.args.lba c.args.page p.id.0 ∙ ap (put_in m c.args.nsid c.args.lba) (sym c.placed-2.ensures) in
    subst (λ (t : MapTable). IsCounted t c.raise.new.counts) (sym table)
    (counted_put m c.self.inside.counts c.lower.new.counts c.raise.new.counts c.args.nsid c.args.lba c.placed-2.result c.self.invariant p.within placed c.raise.ensures.rows c.lower.ensures.rows down c.raise.ensures.counts)

pub returns-clause-blocks : goal.returns-clause-blocks
returns-clause-blocks c =
    let g = c.self.inside.geometry in
    let m : MapTable = table_of g c.self.inside.lists.items in
    let p = set_place g c.self.inside.lists.items c.self.inside.counts c.args.self.now c.args.nsid c.args.lba c.self.view_is c.self.invariant c.requires.lba in
    let x : Option Mapped = option_map (placed_on g) c.args.page in
    ap (λ lists. mapped_at (table_of g lists)) c.set_page-before.ensures.after
    ∙ ap mapped_at (page_put g c.self.inside.lists.items c.args.nsid c.args.lba c.args.page p.id.0)
    ∙ (λ d n b. blocks_put m c.args.nsid c.args.lba x p.there p.within n b d)
    ∙ ap (λ (t : MapTable). with_mapped (mapped_at t) c.args.nsid c.args.lba (option_map (placed_on t.geometry) c.args.page)) c.self.view_is

pub returns-clause-sizes : goal.returns-clause-sizes
returns-clause-sizes c =
    let g = c.self.inside.geometry in
    let m : MapTable = table_of g c.self.inside.lists.items in
    let p = set_place g c.self.inside.lists.items c.self.inside.counts c.args.self.now c.args.nsid c.args.lba c.self.view_is c.self.invariant c.requires.lba in
    ap (λ lists. size_in (table_of g lists)) c.set_page-before.ensures.after
    ∙ ap size_in (page_put g c.self.inside.lists.items c.args.nsid c.args.lba c.args.page p.id.0)
    ∙ (λ d n. sizes_put m c.args.nsid c.args.lba (option_map (placed_on g) c.args.page) p.there n d)
    ∙ ap size_in c.self.view_is
